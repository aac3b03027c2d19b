use Rattle.std.proofs.Common.{refl, ap, ◌∙◌}
use Rattle.crsm_replica.specs.Replica.{ReplicaStands}
use Rattle.crsm_commit.specs.Waiting.{without_entry}
use Rattle.crsm_replica_epoch.proofs.Recorded.{unexecuted_committed}
use Rattle.crsm_replica.proofs.Known.{without_first}
use Rattle.crsm_replica.proofs.laws.commits_go_on.Goals as goal

pub returns : goal.returns
unfolding ReplicaStands
returns c state x e es s is =
    unexecuted_committed x.replica.me x.replica.n x.replica.log e.stamp s.sound.kept (record { entry = e; rest = es; first = is; stamp = refl })
    ∙ ap (without_entry e.stamp) is
    ∙ without_first e es
