use Rattle.std.proofs.Common.{◌≡◌, false, length, take}
use Rattle.std.specs.Prelude.{nat_le}
use Rattle.std.specs.List.{list_any}
use Rattle.crsm_base.specs.Limits.{most_frames}
use Rattle.crsm_spec.specs.Replica.{Replica, unacked}
use Rattle.crsm_replica_epoch.specs.Linked.{LinksStand, others_of}
use Rattle.crsm_replica_epoch.proofs.links.Links.is_congested.Given as goal

abbrev pub invariant-loop-member : goal.invariant-loop-member
invariant-loop-member l =
    (r : Replica) → LinksStand l.self r →
    list_any (λ k. nat_le most_frames (length (unacked r k))) (others_of l.me (take l.member-index l.member-items)) ≡ false
