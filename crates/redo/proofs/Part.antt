-- A stage on a part of a slice that was lent, said of the whole.
use mathlib.Core.Path.{◌≡◌, sym, ap, ◌∙◌}
use Prim.Native.Nat.{ℕ, ◌+◌, ◌-◌, ◌≤◌}
use native.Mathlib.Omega.{arith}
use mathlib.Core.List.{List}
use lib.ListN.{length, take, length-take}
use borrow.Rule.Slice.PartMut.{mid_of, put_mid}
use Rattle.wire.specs.BytesLaws.{over-part}
use Rattle.redo.specs.Store.{run}
use Rattle.redo.specs.StoreLaws.{apply-take-run, length_run}
use Rattle.redo.specs.Stage.{Stage}

-- the part is `&mut xs[a..e]`: `mid_of a (e - a) xs` was lent, and ys came back
pub stage_part : (n m : ℕ) {n' m' : ℕ} (a e : ℕ) (bs xs ys : List ℕ) → a + length bs ≡ e → e ≤ length xs
    → Stage n m (run 0 bs) (mid_of a (e - a) xs) n' m' ys → Stage n m (run a bs) xs n' m' (put_mid a (e - a) xs ys)
stage_part n m a e bs xs ys f h s =
    let short : length (take n bs) ≤ e - a = omega (arith, length-take n bs) in
    record {
      left = rw (length_run a bs) (rw (length_run 0 bs) at s.left);
      made = rw (length_run a bs) (rw (length_run 0 bs) at s.made);
      bytes =
          ap (λ (z : List ℕ). put_mid a (e - a) xs z) (s.bytes ∙ apply-take-run n 0 bs (mid_of a (e - a) xs))
          ∙ over-part a (e - a) xs (take n bs) short (omega arith)
          ∙ sym (apply-take-run n a bs xs);
    }
