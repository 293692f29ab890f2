use mathlib.Core.Path.{sym, ◌∙◌}
use native.Mathlib.Omega.{arith}
use Rattle.redo.specs.ImageLaws.{head_right}
use Rattle.refusals.specs.declared.Refusal.TheVariants.{BadLog}
use Rattle.image_log.specs.Answers.{refused_is, recover_committed_lem, recover_mislogged, none-logged, over-logged, mixed_logged, well_logged, logged_inside, recovered_is}
use Rattle.image_log.proofs.recover_committed.Goals as goal
use Rattle.image_log.proofs.recover_committed.Goals.{then-k-eq0-via-then-k-eq0, then-k-eq0-via-else-k-eq0+then-k-capacity, then-k-eq0-via-else-k-eq0+else-k-capacity+then-not-rising}

pub rising-requires : goal.rising-requires
rising-requires c = let r = head_right c.args.image.now c.requires.0 in omega arith

pub returns-then-k-eq0 : goal.returns-then-k-eq0
returns-then-k-eq0 c =
    let a = c.args in
    let l = a.image.now in
    let k = c.get16-k.ensures.value in
    let x = refused_is _ BadLog a.n l (recover_mislogged l c.requires.0 c.requires.1 (elim c.then-k-eq0.branch [
      | then-k-eq0-via-then-k-eq0 w ↦ none-logged l (sym k ∙ w.if-k-eq0.true)
      | then-k-eq0-via-else-k-eq0+then-k-capacity w ↦ over-logged l (omega (arith, w.if-k-capacity.true))
      | then-k-eq0-via-else-k-eq0+else-k-capacity+then-not-rising w ↦ mixed_logged l (rw (c.get16-pages.ensures.value, k) at (sym w.rising.ensures ∙ w.if-not-rising.true))
    ])) in
    record { value = x.0; image_after = x.1 }

pub recover-meter-requires : goal.recover-meter-requires
recover-meter-requires c =
    let l = c.args.image.now in
    let r = head_right l c.requires.0 in
    let up = rw (c.get16-pages.ensures.value, c.get16-k.ensures.value) at (sym c.rising.ensures ∙ c.if-not-rising.false) in
    ((omega arith, rw (c.get16-capacity.ensures.value, c.get16-k.ensures.value) (logged_inside l r up), omega arith), omega arith)

pub returns : goal.returns
returns c =
    let l = c.args.image.now in
    let r = head_right l c.requires.0 in
    let k = c.get16-k.ensures.value in
    let up = rw (c.get16-pages.ensures.value, k) at (sym c.rising.ensures ∙ c.if-not-rising.false) in
    let plan = recover_committed_lem l c.requires.0 c.requires.1 (well_logged l (λ e. c.if-k-eq0.false (k ∙ e)) (omega arith) up) in
    let x = recovered_is l _ plan (omega arith) (rw (c.get16-capacity.ensures.value, k) at c.recover-meter.ensures) in
    record { value = rw (c.report.ensures, k) x.0; image_after = x.1 }
