-- A part of a slice that was lent and came back, said of the whole.
use mathlib.Core.Path.{◌≡◌, sym, ap, ◌∙◌}
use Prim.Native.Nat.{ℕ, ◌+◌, ◌-◌, ◌≤◌}
use native.Mathlib.Omega.{arith}
use mathlib.Core.List.{List, ◌++◌}
use lib.ListN.{length, take}
use lib.Seq.{drop-drop}
use borrow.Rule.Slice.PartMut.{put_mid}
use Rattle.wire.specs.Bytes.{over}
use Rattle.wire.specs.BytesLaws.{over_is}

-- `&mut xs[at..e]` came back as the bytes bs, as many as were lent
pub put-over : (at e : ℕ) (xs bs : List ℕ) → at + length bs ≡ e → e ≤ length xs → put_mid at (e - at) xs bs ≡ over xs at bs
put-over at e xs bs p g =
    let k : e - at ≡ length bs = omega arith in
    ap (λ (n : ℕ). put_mid at n xs bs) k ∙ ap (λ (z : List ℕ). take at xs ++ (bs ++ z)) (drop-drop (length bs) at xs) ∙ sym (over_is xs at bs (omega arith))
