use Rattle.std.proofs.Common.{◌≡◌, length}
use Rattle.crsm_port_flow.specs.Turns.{LeavesSome}
use Rattle.crsm_port_flow.proofs.requests.Requests.forget_old.Given as goal

abbrev pub invariant-loop-oldest : goal.invariant-loop-oldest
invariant-loop-oldest l = record {
  same : l.self.waiting ≡ l.initial.self.waiting;
  leaves : LeavesSome l.initial.self.unanswered.entries l.self.unanswered.entries;
}

abbrev pub decreases-loop-oldest : goal.decreases-loop-oldest
decreases-loop-oldest l = length l.self.opened.items
