use mathlib.Core.Bool.{Bool, ◌&&◌}
use mathlib.Core.List.{[]}
use mathlib.Core.Path.{sym, ap, ◌∙◌}
use native.Mathlib.Omega.{arith}
use Prim.Native.Nat.{◌+◌}
use Rattle.std.proofs.Math.Bool.{and_assoc}
use Rattle.wire.specs.Cases.{and_true}
use Rattle.records.specs.Records.{key}
use Rattle.records.specs.Cells.{cell_behind}
use Rattle.records.specs.LoopLaws.{rising_few, rising-start, rising-past, rising_end}
use Rattle.records.proofs.rising.Goals as goal

pub returns-in_default : goal.returns-in_default
returns-in_default c = let e = c.in_default.ensures in sym (rising_few c.args.s.now (omega (arith, c.cells.ensures.len)))

pub loop-cell-init : goal.loop-cell-init
loop-cell-init c =
    let e = c.in-Some.ensures in
    let f = c.cells.ensures in
    rising-start c.args.s.now _ (omega arith) (c.key_in-last.ensures.value ∙ ap key (rw e.cases.0 at (f.each 0 [] (omega arith))))

pub loop-cell-preserved : goal.loop-cell-preserved
loop-cell-preserved c =
    let e = c.in-Some.ensures in
    let f = c.cells.ensures in
    let l = c.loop-cell in
    let r = cell_behind _ _ _ _ l.cell-index [] f e.cases.0 (omega arith) in
    and_assoc l.ok _ _ ∙ ap (λ (b : Bool). l.ok && b) (rising-past c.args.s.now l.last c.key_in-next.result (l.cell-index + 1) (omega arith) (c.key_in-next.ensures.value ∙ ap key r)) ∙ l.invariant

pub returns : goal.returns
returns c =
    let e = c.in-Some.ensures in
    let f = c.cells.ensures in
    let l = c.loop-cell in
    sym (and_true l.ok) ∙ sym (ap (λ (b : Bool). l.ok && b) (rising_end c.args.s.now (l.last + 1) (l.cell-index + 1) (omega arith))) ∙ l.invariant
