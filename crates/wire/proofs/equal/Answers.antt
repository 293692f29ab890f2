use Rattle.std.proofs.Common.{◌≡◌, sym, ◌∙◌, arith, length, inl, inr}
use Rattle.std.specs.Iterator.Adapters.{zip_first}
use Rattle.std.specs.Slice.Iter.{iter_rest}
use Rattle.wire.specs.BytesLaws.{equal_more, equal-nil, equal-length}
use Rattle.wire.proofs.equal.Goals as goal

pub returns-then-a-b : goal.returns-then-a-b
returns-then-a-b c = sym (equal-length _ _ c.if-a-b.true)

pub loop-x-preserved : goal.loop-x-preserved
loop-x-preserved c =
    let l = c.loop-x in
    let s = c.in-Some.ensures.steps in
    let h = rw (s.0, s.1) at l.invariant in
    (omega arith, equal_more l.ok c.in-Some.x.now c.in-Some.y.now _ _ ∙ h.1)

pub returns : goal.returns
returns c =
    let l = c.loop-x in
    let e : length (iter_rest (zip_first l.x-iterator)) ≡ 0 =
    elim c.in-None.ensures.steps [ inl h ↦ h.1.0 | inr h ↦ l.invariant.0 ∙ h.1.0 ] in
    sym (equal-nil l.ok _ _ e (sym l.invariant.0 ∙ e)) ∙ l.invariant.1
