use mathlib.Core.Path.{sym}
use Rattle.std.proofs.lemmas.Result.{err_from_is_err_and}
use Rattle.image_log.specs.Answers.{refused_is}
use Rattle.gates.specs.GatesLaws.{gate_open, gate_refused, image_open}
use Rattle.index.specs.CommitLaws.{commit_refused}
use Rattle.index.proofs.commit.Goals as goal

pub returns-in_err-gate : goal.returns-in_err-gate
returns-in_err-gate c =
    let a = c.args in
    let p = err_from_is_err_and c.from_residual.result c.from_residual.ensures.1 in
    let x = refused_is _ _ a.n a.image.now (commit_refused a.image.now a.space.now _ (gate_refused _ _ (sym c.in_err-gate.ensures))) in
    record { value = rw (p.1, p.2) x.0; image_after = x.1 }

pub commit_clear-requires : goal.commit_clear-requires
commit_clear-requires c = let o = image_open _ (gate_open _ (sym c.in_ok-gate.ensures)) in (o.head, o.clear)
