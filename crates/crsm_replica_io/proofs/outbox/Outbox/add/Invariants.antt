use Rattle.std.proofs.Common.{◌≡◌, ◌++◌, take}
use Rattle.std.specs.List.{flat_map}
use Rattle.crsm_replica_io.specs.Outgoing.{packet_for}
use Rattle.crsm_replica_io.proofs.outbox.Outbox.add.Given as goal

abbrev pub invariant-loop-send : goal.invariant-loop-send
invariant-loop-send l = l.self ≡ l.initial.self ++ flat_map (packet_for l.peers) (take l.send-index l.sends)
