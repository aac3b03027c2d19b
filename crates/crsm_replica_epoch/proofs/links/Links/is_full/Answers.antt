use Rattle.std.proofs.Common.{ap}
use Rattle.std.specs.Prelude.{nat_le}
use Rattle.crsm_base.specs.Limits.{most_frames}
use Rattle.crsm_spec.specs.Replica.{unacked}
use Rattle.crsm_replica_epoch.proofs.links.Links.is_full.Goals as goal

pub returns : goal.returns
unfolding unacked
returns c r s = ap (nat_le most_frames) (c.len.ensures _ _ (s.each c.args.k _ c.requires).sent)
