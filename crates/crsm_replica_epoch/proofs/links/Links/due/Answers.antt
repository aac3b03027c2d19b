use Rattle.crsm_spec.specs.Replica.{unacked}
use Rattle.crsm_replica_epoch.proofs.links.Links.due.Goals as goal
use Rattle.crsm_replica_epoch.proofs.Kept.{if_ok}

pub returns : goal.returns
unfolding unacked
returns c = if_ok c.due.result c.due.ensures (λ frames said r s. said _ _ (s.each c.args.k _ c.requires).sent)
