-- The four edits of a layout in an area of so many cells: the refusals of each, in order, and the named tag's list where none applies.
use Rattle.refusals.specs.declared.Refusal.{Refusal}
use Rattle.refusals.specs.declared.Refusal.TheVariants.{BuildingFull, Listed, NoRoom, TagsFull, Unknown}
use Rattle.std.specs.Prelude.{not, ◌&&◌, List, [], ◌∷◌, ℕ, leb, ltb, length}
use Rattle.refusals.specs.Rules.{Rule, rule}
use Rattle.records.specs.declared.Record.{Record}
use Rattle.records.specs.Records.{key, look, held, insert, remove, amend}
use Rattle.layout.specs.Zones.{Zone, blocks, tags, has_tag, find}
use Rattle.layout.specs.Sizes.{total_after}
use Rattle.layout.specs.Buildings.{building_full}

-- "Each answers the record count of that list afterwards"
pub record Edit : Type 0 where
  pub rules : List Rule
  pub list : List Record

-- "8: put, primary part already listed", "11: put, new tag, 256 present"; 12: "the sizes of all blocks after the edit add up to more than the record area".
-- Behind 8 the refusal `full`, of a put to a list of `limit` or more. "It refuses with 19 a put of a new tag beyond this, after 10 and before 11."
unfoldable pub put : (ℕ → ℕ) → (ℕ → ℕ) → ℕ → ℕ → Refusal → ℕ → Record → List Zone → Edit
put cells class_of area limit full t r zs =
    let rs : List Record = find t (blocks zs) in
    record {
      rules = rule Listed (held (look (key r) rs))
          ∷ rule full (leb limit (length rs))
          ∷ rule BuildingFull (not (has_tag t (blocks zs)) && building_full t (tags (blocks zs)))
          ∷ rule TagsFull (not (has_tag t (blocks zs)) && leb 256 (length (blocks zs)))
          ∷ rule NoRoom (ltb area (total_after cells class_of t (insert r rs) zs))
          ∷ [];
      list = insert r rs;
    }

-- "9: delete or set, no such record": by the key of its primary part
abbrev pub record_rules : ℕ → ℕ → List Zone → List Rule
record_rules t k zs = rule Unknown (not (held (look k (find t (blocks zs))))) ∷ []

unfoldable pub delete : ℕ → ℕ → List Zone → Edit
delete t k zs = record { rules = record_rules t k zs; list = remove k (find t (blocks zs)) }

-- "set its minutes"
unfoldable pub set_minutes : ℕ → ℕ → ℕ → List Zone → Edit
set_minutes t k m zs = record { rules = record_rules t k zs; list = amend k m (find t (blocks zs)) }

-- "9: .. drop, no such tag"
unfoldable pub drop_tag : ℕ → List Zone → Edit
drop_tag t zs = record { rules = rule Unknown (not (has_tag t (blocks zs))) ∷ []; list = [] }
