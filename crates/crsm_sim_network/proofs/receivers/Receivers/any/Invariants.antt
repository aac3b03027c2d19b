use Rattle.std.specs.Prelude.{nat_lt, min}
use Rattle.crsm_sim_network.specs.Packets.{Receives}
use Rattle.crsm_sim_network.proofs.receivers.Receivers.any.Given as goal

abbrev pub invariant-loop-class : goal.invariant-loop-class
invariant-loop-class l = Receives l.any (λ j. nat_lt (min j 15) l.class)
