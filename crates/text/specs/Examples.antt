-- Numbers printed, worked out by hand.
use Rattle.std.specs.Prelude.{◌≡◌, refl, Bool, true, ◌&&◌, [], ◌∷◌}
use Rattle.wire.specs.Bytes.{equal}
use Rattle.text.specs.Text.{digits_by, digits}

printed : Bool
unfolding digits_by equal
printed =
    equal (digits 0) (48 ∷ []) && (equal (digits 9) (57 ∷ []) && (equal (digits 10) (49 ∷ 48 ∷ [])
    && equal (digits 4294967295) (52 ∷ 50 ∷ 57 ∷ 52 ∷ 57 ∷ 54 ∷ 55 ∷ 50 ∷ 57 ∷ 53 ∷ [])))

prints : printed ≡ true
unfolding printed
prints = refl
