use Rattle.std.proofs.Common.{sym, ◌∙◌, drop, add-one, arith, length-append}
use Rattle.redo.specs.EntryLaws.{changes-none, changes_same, changes_more}
use Rattle.redo.proofs.entry.count_changed.Goals as goal
use Rattle.redo.proofs.entry.count_changed.Goals.{then-not-same_page, else-not-same_page}

pub loop-p-init : goal.loop-p-init
loop-p-init c = (omega arith, rw changes-none)

pub loop-p-preserved : goal.loop-p-preserved
loop-p-preserved c =
    let a = c.args in
    let l = c.loop-p in
    elim c.if-not-same_page.branch [
      | then-not-same_page w ↦ let s = w.if-not-same_page.true in (omega arith, rw (add-one l.p, changes_more (drop a.home a.image.now) a.space.now l.p (sym c.same_page.ensures ∙ w.if-not-same_page.true), length-append) (omega arith))
      | else-not-same_page w ↦ (omega arith, rw (add-one l.p, changes_same (drop a.home a.image.now) a.space.now l.p (sym c.same_page.ensures ∙ w.if-not-same_page.false)) (omega arith))
    ]
