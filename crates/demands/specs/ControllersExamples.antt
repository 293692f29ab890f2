-- A collection in two sequences, and what lies outside the claim, computed from the definitions that the calls' contracts cite.
use Rattle.std.specs.Prelude.{◌≡◌, refl, true, false, List, [], ◌∷◌, ℕ, ◌<◌, replicate, Ok}
use Rattle.std.proofs.Common.{arith}
use Rattle.wire.specs.All.{none as nothing, more}
use Rattle.wire.specs.Bytes.{part, over, get16, get32, bytes16, bytes32, equal, blank}
use Rattle.refusals.specs.Rules.{first, Answer}
use Rattle.records.specs.declared.Record.{Record}
use Rattle.records.specs.Records.{Fits, key, look, insert, remove, amend, rising_from, bytes_of, record_at, records}
use Rattle.layout.specs.Capacities.{capacity, cells, class_of}
use Rattle.layout.specs.Zones.{Block, empty, from, find, blocks, has_tag, rewritten, place, take_out, settle, change}
use Rattle.layout.specs.Sizes.{total_after}
use Rattle.layout.specs.Buildings.{building_full}
use Rattle.layout.specs.Perm.{Perm, pskip, ptrans, single, after}
use Rattle.layout.specs.PermLaws.{protate}
use Rattle.layout.specs.Valid.{valid}
use Rattle.layout.specs.Edits.{put as put_by, delete as delete_by, set_minutes as set_by, drop_tag as drop_by}
use Rattle.home.specs.Bytes.{spots, encode, decode, zones_from}
use Rattle.home.specs.Sound.{sound, sized, list_of}
use Rattle.moves.specs.Stored.{settled}
use Rattle.edits.specs.declared.Terminal.TheVariants.{Desk}
use Rattle.edits.specs.Edits.{limit_of, full_of}
use Rattle.gates.specs.Gates.{gate_rules}
use Rattle.index.specs.Calls.{put_call, delete_call, set_call, drop_call}
use Rattle.demands.specs.Sequences.{Edit, put, delete, set_minutes, drop_tag, edit_call, events, answers, through}
use Rattle.demands.specs.Controllers.{names, clash, covered, Collection}

-- calls that level and second don't tell apart: of a phone, with its minutes
call : ℕ → ℕ → Record
call p m = record { level = 1; second = 5; phone = p; minutes = m }

-- one call for tag 7 and one for tag 9: in two record pages with code 0, and in three with code 1, where tag 9's block comes first
seven : Block
seven = record { tag = 7; list = call 3 0 ∷ [] }

nine : Block
nine = record { tag = 9; list = call 8 0 ∷ [] }

one : List ℕ
one = encode 0 2 (from 0 seven (nine ∷ []) ∷ replicate 29 empty)

other : List ℕ
other = encode 1 3 (from 0 nine (seven ∷ []) ∷ replicate 29 empty)

-- the answers of a sequence, and the lists of both tags after it
ends : List Edit → List ℕ → List Answer × List Record × List Record
ends es w = (answers es w, list_of (through es w) 7, list_of (through es w) 9)

-- ---- a collection

high : Edit
high = put Desk 7 (call 9 3)

low : Edit
low = put Desk 7 (call 2 60)

gone : Edit
gone = delete 7 (key (call 3 0))

cleared : Edit
cleared = drop_tag 9

-- in two sequences
some : List Edit
some = high ∷ low ∷ gone ∷ cleared ∷ []

again : List Edit
again = cleared ∷ gone ∷ low ∷ high ∷ []

same : Perm some again
unfolding some again
same = ptrans (protate cleared (high ∷ low ∷ gone ∷ [])) (pskip cleared (ptrans (protate gone (high ∷ low ∷ [])) (pskip gone (protate low (high ∷ [])))))

within : Collection some
unfolding some high low gone cleared call key names clash covered
within = record {
  ranged = more {x = high} (omega arith, fits 9 3 (omega arith) (omega arith)) (more {x = low} (omega arith, fits 2 60 (omega arith) (omega arith)) (more {x = gone} (omega arith) (more {x = cleared} (omega arith) nothing)));
  kinds = more refl (more refl (more refl (more refl nothing)));
  apart = after (more {x = low} (refl, refl) (more {x = gone} (refl, refl) (more {x = cleared} (refl, refl) nothing))) (after (more {x = gone} (refl, refl) (more {x = cleared} (refl, refl) nothing)) (after (more {x = cleared} (refl, refl) nothing) (after nothing single)));
}
  where
    fits : (p m : ℕ) → p < 65536 → m < 256 → Fits (call p m)
    fits p m g h = record { level = omega arith; second = omega arith; phone = g; minutes = h }

-- ---- outside the claim

-- puts and a drop of the same tag
new : Edit
new = put Desk 7 (call 4 9)

clashes : clash new (drop_tag 7) ≡ true
unfolding clash names new
clashes = refl

-- and settings of one record's minutes
minutes : ℕ → Edit
minutes m = set_minutes 7 (key (call 3 0)) m

not_covered : (m : ℕ) → covered (minutes m) ≡ false
unfolding covered minutes
not_covered m = refl

-- ---- what comes of them

-- No sequence meets a refusal. Those of the collection end with the lower phone on top, the one put later or the one put first;
-- a put before a drop ends with no call of the tag, and behind it with one; and the minutes are those set last.
cases : (ends some one ≡ (Ok 2 ∷ Ok 3 ∷ Ok 2 ∷ Ok 0 ∷ [], call 2 60 ∷ call 9 3 ∷ [], []))
    × (ends again other ≡ (Ok 0 ∷ Ok 0 ∷ Ok 1 ∷ Ok 2 ∷ [], call 2 60 ∷ call 9 3 ∷ [], []))
    × (ends (new ∷ drop_tag 7 ∷ []) one ≡ (Ok 2 ∷ Ok 0 ∷ [], [], call 8 0 ∷ []))
    × (ends (drop_tag 7 ∷ new ∷ []) one ≡ (Ok 0 ∷ Ok 1 ∷ [], call 4 9 ∷ [], call 8 0 ∷ []))
    × (ends (minutes 1 ∷ minutes 2 ∷ []) one ≡ (Ok 1 ∷ Ok 1 ∷ [], call 3 2 ∷ [], call 8 0 ∷ []))
    × (ends (minutes 2 ∷ minutes 1 ∷ []) one ≡ (Ok 1 ∷ Ok 1 ∷ [], call 3 1 ∷ [], call 8 0 ∷ []))
unfolding ends some again high low gone cleared new minutes one other seven nine answers call events through edit_call put_call delete_call set_call drop_call limit_of full_of gate_rules first sized sound list_of valid decode zones_from encode spots settled put_by delete_by set_by drop_by building_full total_after change settle place take_out rewritten has_tag find blocks class_of capacity cells key look insert remove amend rising_from bytes_of record_at records part over get16 get32 bytes16 bytes32 equal blank
cases = (refl, refl, refl, refl, refl, refl)
