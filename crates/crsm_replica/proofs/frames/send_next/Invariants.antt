use Rattle.std.proofs.Common.{◌≡◌, ◌++◌, map, take}
use Rattle.crsm_replica_output.specs.Made.{Made, OutputStands}
use Rattle.crsm_replica_epoch.specs.Linked.{others_of}
use Rattle.crsm_replica_epoch.specs.EpochState.{EpochStands}
use Rattle.crsm_spec.specs.Log.{known}
use Rattle.crsm_spec.specs.Replica.{Replica}
use Rattle.crsm_spec.specs.Draft.{next_frame}
use Rattle.crsm_replica.proofs.frames.send_next.Given as goal

abbrev pub invariant-loop-k : goal.invariant-loop-k
invariant-loop-k l =
    (r : Replica) (m : Made) → EpochStands l.epoch_state r → OutputStands l.initial.output m → l.me ≡ r.me → l.epoch ≡ known r.log →
    OutputStands l.output (record m { sends = m.sends ++ map (next_frame r l.payload) (others_of l.me (take l.k-index l.members)) })
