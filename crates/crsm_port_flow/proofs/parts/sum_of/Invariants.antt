use Rattle.std.proofs.Common.{◌≡◌, take}
use Rattle.crsm_port_flow.specs.Went.{checksum}
use Rattle.crsm_port_flow.proofs.parts.sum_of.Given as goal

abbrev pub invariant-loop-byte : goal.invariant-loop-byte
invariant-loop-byte l = l.sum ≡ checksum l.to (take l.byte-index l.part)
