use Rattle.std.proofs.Common.{refl}
use Rattle.crsm_port_packets.proofs.format.kind_of.Goals as goal

pub returns-in-None-fragment_in-clause-kind : goal.returns-in-None-fragment_in-clause-kind
returns-in-None-fragment_in-clause-kind c = (c.in-None.ensures.none refl, c.in-None-fragment_in.ensures.none refl)
