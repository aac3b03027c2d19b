use Rattle.std.proofs.Common.{arith, inr, refl}
use Rattle.crsm_port_flow.proofs.Turns.{first_of, leaves_one}
use Rattle.crsm_port_flow.specs.Turns.{LeavesSome}
use Rattle.crsm_port_flow.proofs.requests.Requests.forget_old.Goals as goal
use Rattle.crsm_port_flow.proofs.requests.Requests.forget_old.Goals.{then-is_open_since+else-is_recent, else-is_open_since}

pub returns-then-is_recent-clause-oldest : goal.returns-then-is_recent-clause-oldest
returns-then-is_recent-clause-oldest c =
    let o = c.in-Some.oldest.now in
    let f = first_of c.loop-oldest.self.opened.items o (omega (arith, c.in-Some.ensures.variant.0 refl, c.loop-oldest.self.opened.ok)) c.in-Some.ensures.lookup in
    inr (o, f.0, f.1, c.is_open_since.ensures c.if-is_open_since.true, c.is_recent.ensures.0 c.if-is_recent.true)

pub loop-oldest-preserved : goal.loop-oldest-preserved
loop-oldest-preserved c =
    let inv = c.loop-oldest.invariant in
    let mid = c.loop-oldest.self.unanswered.entries in
    let leaves : LeavesSome mid c.if-is_open_since.self.1.1.1.0.entries = elim c.if-is_open_since.branch [
      | then-is_open_since+else-is_recent w ↦ rw w.self-is (leaves_one mid w.swap_remove.new.self.entries _ w.swap_remove.ensures.updates.0)
      | else-is_open_since w ↦ rw w.self-is (λ command at got. got)
    ] in
    record { same = inv.same; leaves = λ command at got. inv.leaves command at (leaves command at got) }
