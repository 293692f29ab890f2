use Rattle.image_log.specs.Answers.{commit_answer}
use Rattle.image_log.proofs.commit_pages.Goals as goal

pub returns : goal.returns
returns c =
    let a = c.args in
    let p = c.requires in
    let x = commit_answer a.image.now a.home a.space.now a.pages a.k p.0 p.1 c.commit-end.ensures in
    record { value = rw c.report.ensures x.0; image_after = x.1 }
