-- The definitions on two small lists.
use Rattle.std.specs.Prelude.{◌≡◌, refl, ℕ, List, [], ◌∷◌}
use Rattle.records.specs.declared.Record.{Record}
use Rattle.records.specs.Records.{key}
use Rattle.merges.specs.declared.Merge.TheVariants.{Both, Either, Without}
use Rattle.merges.specs.Merging.{keeps, merge}

abbrev call : ℕ → ℕ → ℕ → ℕ → Record
call l s p m = record { level = l; second = s; phone = p; minutes = m }

abbrev one : List Record
one = call 0 500 9 1 ∷ call 1 100 3 0 ∷ call 1 100 9 0 ∷ []

abbrev other : List Record
other = call 0 400 1 8 ∷ call 1 100 3 9 ∷ call 2 0 0 4 ∷ []

in_both : merge Both one other ≡ call 1 100 3 0 ∷ []
unfolding merge keeps key
in_both = refl

in_either : merge Either one other ≡ call 0 400 1 8 ∷ call 0 500 9 1 ∷ call 1 100 3 0 ∷ call 1 100 9 0 ∷ call 2 0 0 4 ∷ []
unfolding merge keeps key
in_either = refl

in_first : merge Without one other ≡ call 0 500 9 1 ∷ call 1 100 9 0 ∷ []
unfolding merge keeps key
in_first = refl
