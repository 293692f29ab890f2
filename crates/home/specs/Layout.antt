-- The layout with the capacities of a step code: moves and validity with the table put in.
use Rattle.refusals.specs.declared.Refusal.{Refusal}
use Rattle.std.specs.Prelude.{◌≡◌, Bool, List, ℕ, ◌*◌, ◌≤◌, length}
use Rattle.std.proofs.Math.Option.{Option}
use Rattle.records.specs.declared.Record.{Record}
use Rattle.layout.specs.Capacities.{cells, class_of}
use Rattle.layout.specs.Zones.{Block, Zone, blocks, change as change_by}
use Rattle.layout.specs.Perm.{Pairs}
use Rattle.layout.specs.Sizes.{total_after as total_after_by}
use Rattle.layout.specs.Edits.{Edit, put as put_by}
use Rattle.layout.specs.Valid.{Other, Sits as SitsBy, Laid as LaidBy, Fit as FitBy, Valid as ValidBy, valid as valid_by}

abbrev pub Sits : ℕ → ℕ → Block → Type 0
Sits step c b = SitsBy (cells step) (class_of step) c b

abbrev pub Laid : ℕ → ℕ → ℕ → ℕ → List Zone → Type 0
Laid step area c e zs = LaidBy (cells step) (class_of step) area c e zs

abbrev pub Fit : ℕ → ℕ → ℕ → ℕ → List Zone → Type 0
Fit step area c e zs = FitBy (cells step) (class_of step) area c e zs

abbrev pub Valid : ℕ → ℕ → List Zone → Type 0
Valid step area zs = ValidBy (cells step) (class_of step) area zs

-- valid but for its gaps, with R record pages
pub record Loose (step R : ℕ) (zs : List Zone) : Type 0 where
  pub classes : length zs ≡ 30
  pub fit : Fit step (8 * R) 0 0 zs
  pub distinct : Pairs Other (blocks zs)
  pub few : length (blocks zs) ≤ 256

abbrev pub valid : ℕ → ℕ → List Zone → Bool
valid step area zs = valid_by (cells step) (class_of step) area zs

abbrev pub change : ℕ → ℕ → ℕ → List Record → List Zone → Option (List Zone)
change step area t rs zs = change_by (cells step) (class_of step) area t rs zs

abbrev pub total_after : ℕ → ℕ → List Record → List Zone → ℕ
total_after step t rs zs = total_after_by (cells step) (class_of step) t rs zs

abbrev pub put : ℕ → ℕ → ℕ → Refusal → ℕ → Record → List Zone → Edit
put step area limit full t r zs = put_by (cells step) (class_of step) area limit full t r zs
