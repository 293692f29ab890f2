use Rattle.std.proofs.Common.{◌≡◌, ◌+◌, ◌∙◌, sym, arith, ext_get_or, ℕ, length, length-take, length-drop}
use Rattle.std.proofs.Math.ListN.{replicate}
use Rattle.std.proofs.lemmas.List.{length-replicate, get_or-replicate}
use Rattle.wire.proofs.Part.{put-over}
use Rattle.wire.proofs.fill.Goals as goal

pub returns : goal.returns
returns c =
    let a = c.args in
    let l = c.loop-x in
    let long = length-replicate a.n a.b in
    let d : length l.x-items ≡ a.n = omega (arith, l.auto.x-items, length-take {A = ℕ}, length-drop {A = ℕ}) in
    let e : l.x-items ≡ replicate a.n a.b =
    ext_get_or 0 l.x-items (replicate a.n a.b) (d ∙ sym long) (λ k h. l.invariant k (omega arith) ∙ sym (get_or-replicate a.n k a.b 0 (omega arith))) in
    rw e (put-over a.at (a.at + a.n) a.s.now (replicate a.n a.b) (omega arith) (omega arith))
