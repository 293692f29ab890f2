use Rattle.std.proofs.Common.{refl, sym, ◌∙◌}
use Rattle.std.proofs.lemmas.Result.{err_from_is_err_and}
use Rattle.image_log.specs.Calls.{answer, after}
use Rattle.lines.specs.Run.{outcome_reply, unless_refused}
use Rattle.lines.specs.RunLaws.{run_edit, run-not}
use Rattle.lines.proofs.run.run.Goals as goal

pub returns-in_err-begin : goal.returns-in_err-begin
returns-in_err-begin c =
    let p = err_from_is_err_and c.from_residual.result c.from_residual.ensures.1 in
    let both = run-not c.args.image.now c.args.space.now c.args.c _ _ (sym c.begin.ensures.value ∙ c.in_err-begin.was) c.begin.ensures.space_after in
    record { value = rw (p.1, p.2) both.0; image_after = both.1 }

pub returns-in_err-edit : goal.returns-in_err-edit
unfolding unless_refused outcome_reply answer after
returns-in_err-edit c =
    let p = err_from_is_err_and c.from_residual-in_err-edit.result c.from_residual-in_err-edit.ensures.1 in
    let both = run_edit c.args.image.now c.args.space.now c.args.c _ _ _ _ _ (sym c.begin.ensures.value ∙ c.in_ok-begin.was) c.begin.ensures.space_after c.edit.ensures.value c.edit.ensures.space_after
    (rw (p.1, p.2, c.in_err-edit.was) refl) (rw c.in_err-edit.was refl) in
    record { value = both.0; image_after = both.1 }

pub returns : goal.returns
unfolding unless_refused
returns c =
    let both = run_edit c.args.image.now c.args.space.now c.args.c _ _ _ _ _ (sym c.begin.ensures.value ∙ c.in_ok-begin.was) c.begin.ensures.space_after c.edit.ensures.value c.edit.ensures.space_after
    (rw c.in_ok-edit.was c.keep.ensures.value) (rw c.in_ok-edit.was c.keep.ensures.image_after) in
    record { value = both.0; image_after = both.1 }
