use Rattle.std.proofs.Common.{arith}
use Rattle.crsm_replica_io.proofs.Lengths.{datagram_short}
use Rattle.crsm_sim_machine.proofs.laws.datagrams_are_short.Goals as goal

pub returns : goal.returns
returns c d fits = omega (arith, datagram_short d fits)
