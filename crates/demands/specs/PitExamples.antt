-- The specification's case for the pit, computed from the definitions that the calls' contracts cite: a list of 70, then one of 63.
use Rattle.refusals.specs.declared.Refusal.TheVariants.{Listed, PitFull}
use Rattle.std.specs.Prelude.{◌≡◌, refl, List, [], ◌∷◌, ℕ, zero, suc, ◌+◌, replicate, Ok, Err}
use Rattle.wire.specs.Bytes.{part, over, get16, get32, bytes16, bytes32, equal, blank}
use Rattle.refusals.specs.Rules.{first}
use Rattle.records.specs.declared.Record.{Record}
use Rattle.records.specs.Records.{key, look, insert, remove, rising_from, bytes_of, record_at, records}
use Rattle.layout.specs.Capacities.{capacity, cells, class_of}
use Rattle.layout.specs.Zones.{Zone, empty, from, find, blocks, has_tag, rewritten, place, take_out, settle, change}
use Rattle.layout.specs.Sizes.{total_after}
use Rattle.layout.specs.Buildings.{building_full}
use Rattle.layout.specs.Valid.{valid}
use Rattle.layout.specs.Edits.{put as put_by, delete as delete_by}
use Rattle.home.specs.Bytes.{spots, encode, decode, zones_from}
use Rattle.home.specs.Sound.{sound, sized, list_of}
use Rattle.moves.specs.Stored.{settled}
use Rattle.edits.specs.declared.Terminal.TheVariants.{Desk, Pit}
use Rattle.edits.specs.Edits.{limit_of, full_of}
use Rattle.gates.specs.Gates.{gate_rules}
use Rattle.index.specs.Calls.{put_call, delete_call}
use Rattle.demands.specs.Sequences.{put, delete, edit_call, list_by, events, answers}

-- the call of a second
call : ℕ → Record
call s = record { level = 1; second = s; phone = 9; minutes = 0 }

-- the calls of n seconds from s on
calls_from : ℕ → ℕ → List Record
calls_from s zero = []
calls_from s (suc n) = call s ∷ calls_from (s + 1) n

-- a workspace of 11 record pages with n calls for tag 7, from a second on, in a block of class 14
filled : ℕ → ℕ → List ℕ
filled s n = encode 0 11 (zones 14)
  where
    zones : ℕ → List Zone
    zones zero = from 0 (record { tag = 7; list = calls_from s n }) [] ∷ replicate 15 empty
    zones (suc c) = empty ∷ zones c

-- the calls ds deleted from a list, one after another
without : List Record → List Record → List Record
without [] rs = rs
without (d ∷ ds) rs = without ds (list_by (delete 7 (key d)) rs)

-- "a list the desk filled to 70 is closed to the pit", to a listed call with 8, and the desk goes on;
-- seven deletes leave 64 calls, with one more it is "under 64 again", and 64 close it
case : (answers (put Pit 7 (call 70) ∷ put Pit 7 (call 69) ∷ put Desk 7 (call 70) ∷ []) (filled 0 70) ≡ Err PitFull ∷ Err Listed ∷ Ok 71 ∷ [])
    × (without (calls_from 0 7) (list_by (put Desk 7 (call 70)) (calls_from 0 70)) ≡ calls_from 7 64)
    × (answers (put Pit 7 (call 71) ∷ delete 7 (key (call 7)) ∷ put Pit 7 (call 71) ∷ put Pit 7 (call 72) ∷ []) (filled 7 64) ≡ Err PitFull ∷ Ok 63 ∷ Ok 64 ∷ Err PitFull ∷ [])
unfolding answers filled without list_by call calls_from events edit_call put_call delete_call limit_of full_of gate_rules first sized sound list_of valid decode zones_from encode spots settled put_by delete_by building_full total_after change settle place take_out rewritten has_tag find blocks class_of capacity cells key look insert remove rising_from bytes_of record_at records part over get16 get32 bytes16 bytes32 equal blank
case = (refl, refl, refl)
