-- The others among the addresses that were looked at.
use Rattle.std.specs.Prelude.{◌≡◌, take}
use Rattle.crsm_start.specs.Ports.{without}
use Rattle.crsm_start.proofs.replica.others_of.Given as goal

abbrev pub invariant-loop-address : goal.invariant-loop-address
invariant-loop-address l = l.others.items ≡ without l.own (take l.address-index l.peers)
