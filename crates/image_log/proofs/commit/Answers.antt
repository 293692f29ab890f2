use mathlib.Core.Path.{sym, ap, ◌∙◌}
use native.Mathlib.Omega.{arith}
use Rattle.std.specs.Prelude.{Ok, Err}
use Rattle.std.proofs.Common.{⊎_elim}
use Rattle.std.proofs.lemmas.Result.{err_from_is_err_and}
use Rattle.refusals.specs.declared.Refusal.TheVariants.{BadHead, Unrecovered}
use Rattle.image_log.specs.Calls.{any_bytes}
use Rattle.image_log.specs.HeadLaws.{refused_head, clear_head, committed_head, spoiled_head}
use Rattle.image_log.specs.Answers.{refused_is, commit_marked}
use Rattle.image_log.specs.FormatLaws.{unformatted_commit}
use Rattle.image_log.proofs.commit.Goals as goal

pub commit_clear-requires : goal.commit_clear-requires
commit_clear-requires c = clear_head c.args.image.now (sym c.in_ok-read_head.ensures ∙ ap Ok c.in-Clear.is)

pub returns-in-Committed : goal.returns-in-Committed
returns-in-Committed c =
    let a = c.args in
    let l = a.image.now in
    let h = sym c.in_ok-read_head.ensures in
    let plan = ⊎_elim
    (λ e. let m = committed_head l (h ∙ ap Ok e) in commit_marked any_bytes l a.space.now m.0 (λ z. omega arith))
    (λ e. let m = spoiled_head l (h ∙ ap Ok e) in commit_marked any_bytes l a.space.now m.0 m.1)
    c.in-Committed.is in
    let x = refused_is _ Unrecovered a.n l plan in
    record { value = x.0; image_after = x.1 }

pub returns-in_err-read_head : goal.returns-in_err-read_head
returns-in_err-read_head c =
    let a = c.args in
    let l = a.image.now in
    let h = refused_head l (sym c.in_err-read_head.ensures) in
    let p = err_from_is_err_and c.from_residual.result c.from_residual.ensures.1 in
    let x = refused_is _ BadHead a.n l (unformatted_commit l (sym c.in_err-read_head.ensures ∙ ap Err h.1) any_bytes a.space.now) in
    record { value = p.1 ∙ ap Err (p.2 ∙ h.1) ∙ x.0; image_after = x.1 }
