use Rattle.crsm_replica_epoch.proofs.Kept.{pushed_at}
use Rattle.crsm_replica_epoch.proofs.state.EpochState.push_at.Goals as goal

pub returns : goal.returns
returns c r reading s me members would =
    pushed_at c.args.self.now r c.issue.new.self c.args.time reading c.args.me c.args.payload.now c.args.members.now c.push.new.self c.receive.new.self c.issue.result s me members would
    c.issue.ensures.time c.issue.ensures.issued c.receive.ensures c.in_ok-push.ensures
