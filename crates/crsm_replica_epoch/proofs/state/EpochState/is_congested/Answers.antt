use Rattle.std.proofs.Common.{◌∙◌, ap, length}
use Rattle.std.specs.Prelude.{nat_le}
use Rattle.std.specs.List.{list_any}
use Rattle.crsm_base.specs.Limits.{most_frames}
use Rattle.crsm_spec.specs.Replica.{is_congested, other_members, unacked}
use Rattle.crsm_replica_epoch.specs.Linked.{others_of}
use Rattle.crsm_replica_epoch.proofs.Kept.{the_links}
use Rattle.crsm_replica_epoch.proofs.state.EpochState.is_congested.Goals as goal

pub returns : goal.returns
unfolding is_congested other_members
returns c r s me members =
    c.is_congested.ensures r (the_links c.args.self.now r s)
    ∙ ap (λ i. list_any (λ k. nat_le most_frames (length (unacked r k))) (others_of i c.args.members.now)) me
    ∙ ap (λ ks. list_any (λ k. nat_le most_frames (length (unacked r k))) (others_of r.me ks)) members
