use Rattle.std.proofs.Common.{arith, ◌+◌}
use Rattle.crsm_law_killed.specs.Calls.{sends}
use Rattle.crsm_law_killed.proofs.Handed.{one_more, refuse}
use Rattle.crsm_law_killed.proofs.port.StoppingPortPort.send.Goals as goal

pub invariant_of-self : goal.invariant_of-self
invariant_of-self g c = record { handed = refuse c.args.self.now.handed c.in_err-hand_on.ensures.none c.hand_on.ensures.counts }

pub invariant_of-self-2 : goal.invariant_of-self-2
invariant_of-self-2 g c = record {
  handed = let same = c.in_ok-hand_on.ensures.same in
      one_more {still = c.args.self.now.receives + c.hand_on.new.refused} c.args.self.now.handed c.in_ok-hand_on.ensures.some c.hand_on.ensures.counts (omega arith)
      (sends c.args.to c.args.bytes.now c.send.result c.send.ensures.sends c.send.ensures.passes_on);
}
