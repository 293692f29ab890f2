-- Where a tag's records lie in the lent bytes: a place and a length as one number, 32 bits each.
use Rattle.std.specs.Prelude.{List, ℕ, ◌+◌, ◌*◌, length, Some, None}
use Rattle.std.specs.declared.option.Option.{Option}
use Rattle.refusals.specs.Rules.{first}
use Rattle.home.specs.declared.lookup.Block.{Block}
use Rattle.home.specs.Bytes.{list_at}
use Rattle.home.specs.Lookup.{block_of}
use Rattle.gates.specs.declared.Of.{Of}
use Rattle.gates.specs.Gates.{gate_rules, home_in, home_from}
use Rattle.reads.specs.Reads.{show_in}

-- behind a block's header, in a home that begins at an offset; 0 for an unknown tag
unfoldable pub place_at : ℕ → Option Block → ℕ
place_at at (Some b) = at + list_at b.cell
place_at at None = 0

-- 0 on refusal
unfoldable pub place_in : Of → List ℕ → ℕ → ℕ
place_in of bs t = first (λ n. 0) (gate_rules of bs) (place_at (home_from of bs) (block_of (home_in of bs) t))

-- with the length of the bytes shown
unfoldable pub span_in : Of → List ℕ → ℕ → ℕ
span_in of bs t = place_in of bs t * 4294967296 + length (show_in of bs t)
