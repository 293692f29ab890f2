use Rattle.std.proofs.Common.{arith}
use Rattle.redo.specs.Stages.{commit_replays, commit_stages}
use Rattle.redo.proofs.stages.commit.Goals as goal

-- what the first stage left decides what the second may read
pub replay_stage-requires : goal.replay_stage-requires
replay_stage-requires c =
    let a = c.args in
    let pre = c.requires in
    let s = c.log_stage.ensures in
    (commit_replays a.image.now a.home a.space.now a.pages a.k pre.0 pre.1 pre.2 s c.log_stage.auto.image, omega (arith, s.left, s.made, pre.3))

-- both together are the commit's stores
pub returns : goal.returns
returns c =
    let a = c.args in
    let pre = c.requires in
    commit_stages a.image.now a.home a.space.now a.pages a.k pre.0 pre.1 pre.2 c.log_stage.ensures c.replay_stage.ensures
