use Rattle.std.proofs.Common.{◌<◌, take}
use Rattle.crsm_spec.specs.Replica.{Replica, last_issued}
use Rattle.crsm_replica_epoch.specs.Linked.{LinksStand, others_of}
use Rattle.crsm_replica_epoch.proofs.Pushing.{with_pushed}
use Rattle.crsm_replica_epoch.proofs.links.Links.push.Given as goal

abbrev pub invariant-loop-member : goal.invariant-loop-member
invariant-loop-member l =
    (r : Replica) → LinksStand l.initial.self r → last_issued r < l.time →
    LinksStand l.self (with_pushed r l.time l.payload (others_of l.me (take l.member-index l.member-items)))
