use Rattle.std.proofs.Common.{◌≡◌, ◌≤◌, take}
use Rattle.crsm_port_packets.specs.Kept.{crowd}
use Rattle.crsm_port_packets.proofs.fragments.Fragments.crowd.Given as goal

abbrev pub invariant-loop-piece : goal.invariant-loop-piece
invariant-loop-piece l = record {
  is : l.count ≡ crowd l.from (take l.piece-index l.piece-items);
  most : l.count ≤ l.piece-index;
}
