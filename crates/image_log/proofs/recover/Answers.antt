use mathlib.Core.Path.{sym, ap, ◌∙◌}
use Rattle.std.specs.Prelude.{Ok, Err}
use Rattle.std.proofs.lemmas.Result.{err_from_is_err_and}
use Rattle.refusals.specs.declared.Refusal.TheVariants.{BadHead}
use Rattle.image_log.specs.HeadLaws.{refused_head, clear_head, committed_head, spoiled_head}
use Rattle.image_log.specs.Answers.{refused_is, nothing_is, recover_clear, recover_spoiled}
use Rattle.image_log.specs.FormatLaws.{unformatted_recover}
use Rattle.image_log.proofs.recover.Goals as goal

pub returns-in_err-read_head : goal.returns-in_err-read_head
returns-in_err-read_head c =
    let a = c.args in
    let l = a.image.now in
    let h = refused_head l (sym c.in_err-read_head.ensures) in
    let p = err_from_is_err_and c.from_residual.result c.from_residual.ensures.1 in
    let x = refused_is _ BadHead a.n l (unformatted_recover l (sym c.in_err-read_head.ensures ∙ ap Err h.1)) in
    record { value = p.1 ∙ ap Err (p.2 ∙ h.1) ∙ x.0; image_after = x.1 }

pub recover_committed-requires : goal.recover_committed-requires
recover_committed-requires c = committed_head c.args.image.now (sym c.in_ok-read_head.ensures ∙ ap Ok c.in-Committed.is)

pub recover_spoiled-requires : goal.recover_spoiled-requires
recover_spoiled-requires c = (spoiled_head c.args.image.now (sym c.in_ok-read_head.ensures ∙ ap Ok c.in-Spoiled.is)).0

pub returns-in-Clear : goal.returns-in-Clear
returns-in-Clear c =
    let a = c.args in
    let h = clear_head a.image.now (sym c.in_ok-read_head.ensures ∙ ap Ok c.in-Clear.is) in
    let x = nothing_is _ a.n a.image.now (recover_clear a.image.now h.0 h.1) in
    record { value = x.0; image_after = x.1 }

pub returns-in-Spoiled : goal.returns-in-Spoiled
returns-in-Spoiled c =
    let l = c.args.image.now in
    let h = spoiled_head l (sym c.in_ok-read_head.ensures ∙ ap Ok c.in-Spoiled.is) in
    rw (recover_spoiled l h.0 h.1 h.2) c.recover_spoiled.ensures
