-- The reads of one list, of an image or of a workspace.
use Rattle.std.specs.Prelude.{ℕ, ◌+◌, List, [], length, Ok, Err}
use Rattle.refusals.specs.Rules.{Answer, first}
use Rattle.records.specs.declared.Record.{Record}
use Rattle.records.specs.Records.{below, encode}
use Rattle.home.specs.Lookup.{offset_of}
use Rattle.home.specs.Sound.{list_of}
use Rattle.gates.specs.declared.Of.{Of}
use Rattle.gates.specs.Gates.{gate_rules, home_in, home_from}

-- a tag's list in what is lent
abbrev pub list_in : Of → List ℕ → ℕ → List Record
list_in of bs t = list_of (home_in of bs) t

-- "Count a list (an unknown tag has 0)"
unfoldable pub count_in : Of → List ℕ → ℕ → Answer
count_in of bs t = first Err (gate_rules of bs) (Ok (length (list_in of bs t)))

-- "of a tag and a primary part, listed or not, the number of the tag's records before it, 0 for an unknown tag": by the key of that part
unfoldable pub rank_in : Of → List ℕ → ℕ → ℕ → Answer
rank_in of bs t k = first Err (gate_rules of bs) (Ok (below k (list_in of bs t)))

-- "and show it: the part of the lent bytes that holds its records, empty for an unknown tag and on refusal"
unfoldable pub show_in : Of → List ℕ → ℕ → List ℕ
show_in of bs t = first (λ n. []) (gate_rules of bs) (encode (list_in of bs t))

-- where that part begins: with home for an unknown tag, 0 on refusal
unfoldable pub show_from : Of → List ℕ → ℕ → ℕ
show_from of bs t = first (λ n. 0) (gate_rules of bs) (home_from of bs + offset_of (home_in of bs) t)
