use Rattle.std.proofs.Common.{◌≡◌, map, take}
use Rattle.crsm_port_flow.specs.Hears.{unheard}
use Rattle.crsm_port_flow.proofs.hearing.Hearing.new.Given as goal

abbrev pub invariant-loop-address : goal.invariant-loop-address
invariant-loop-address l = l.known.items ≡ map unheard (take l.address-index l.peers)
