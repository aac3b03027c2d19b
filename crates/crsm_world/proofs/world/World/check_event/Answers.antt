use Rattle.std.proofs.Common.{subst, List, ℕ}
use Rattle.crsm_world.specs.Doing.{act_of}
use Rattle.crsm_spec.specs.Possible.{causes_of, causes_of_batch, first_bad}
use Rattle.crsm_world.specs.Refusing.{Answers}
use Rattle.crsm_world.proofs.Reasons.{no_more, ready_any, ready_here}
use Rattle.crsm_world.proofs.world.World.check_event.Goals as goal

pub returns-in-One-clause-answers : goal.returns-in-One-clause-answers
unfolding act_of causes_of
returns-in-One-clause-answers c v h = rw c.in-One.is (c.check_single.ensures v h)

pub returns-in-Lose-clause-answers : goal.returns-in-Lose-clause-answers
unfolding act_of causes_of
returns-in-Lose-clause-answers c v h = rw c.in-Lose.is (c.check_lose.ensures v h)

pub returns-in-Crash-clause-answers : goal.returns-in-Crash-clause-answers
unfolding act_of causes_of
returns-in-Crash-clause-answers c v h = rw c.in-Crash.is (c.check_up.ensures v h)

pub returns-in-Start-clause-answers : goal.returns-in-Start-clause-answers
unfolding act_of causes_of
returns-in-Start-clause-answers c v h = rw c.in-Start.is (c.check_start.ensures.answers v h)

pub returns-in-Settle-clause-answers : goal.returns-in-Settle-clause-answers
unfolding act_of causes_of
returns-in-Settle-clause-answers c v h = rw c.in-Settle.is (no_more)

pub returns-in-CutLost-clause-answers : goal.returns-in-CutLost-clause-answers
unfolding act_of causes_of
returns-in-CutLost-clause-answers c v h = rw c.in-CutLost.is (c.check_single-in-CutLost.ensures v h)

pub returns-in-CutKept-clause-answers : goal.returns-in-CutKept-clause-answers
unfolding act_of causes_of
returns-in-CutKept-clause-answers c v h = rw c.in-CutKept.is (c.check_single-in-CutKept.ensures v h)

pub returns-in-Batch-clause-answers : goal.returns-in-Batch-clause-answers
unfolding act_of causes_of
returns-in-Batch-clause-answers c v h = rw c.in-Batch.is (subst (λ (is : List ℕ). Answers c.check_batch.result (first_bad (causes_of_batch v is))) c.as_slice.ensures (c.check_batch.ensures v h))

pub returns-in-CutLostBatch-clause-answers : goal.returns-in-CutLostBatch-clause-answers
unfolding act_of causes_of
returns-in-CutLostBatch-clause-answers c v h = rw c.in-CutLostBatch.is (subst (λ (is : List ℕ). Answers c.check_batch-in-CutLostBatch.result (first_bad (causes_of_batch v is))) c.as_slice-in-CutLostBatch.ensures (c.check_batch-in-CutLostBatch.ensures v h))

pub returns-in-CutAt-clause-answers : goal.returns-in-CutAt-clause-answers
unfolding act_of causes_of
returns-in-CutAt-clause-answers c v h = rw c.in-CutAt.is (c.check_single-in-CutAt.ensures v h)

-- ---- what is ready

pub returns-in-One-clause-ready : goal.returns-in-One-clause-ready
returns-in-One-clause-ready c = ready_any _ _ c.args.event.now _ c.in-One.is tt

pub returns-in-Lose-clause-ready : goal.returns-in-Lose-clause-ready
returns-in-Lose-clause-ready c = ready_any _ _ c.args.event.now _ c.in-Lose.is tt

pub returns-in-Crash-clause-ready : goal.returns-in-Crash-clause-ready
returns-in-Crash-clause-ready c = ready_any _ _ c.args.event.now _ c.in-Crash.is tt

pub returns-in-Settle-clause-ready : goal.returns-in-Settle-clause-ready
returns-in-Settle-clause-ready c = ready_here _ c.args.event.now _ c.in-Settle.is tt

pub returns-in-CutLost-clause-ready : goal.returns-in-CutLost-clause-ready
returns-in-CutLost-clause-ready c = ready_any _ _ c.args.event.now _ c.in-CutLost.is tt

pub returns-in-CutKept-clause-ready : goal.returns-in-CutKept-clause-ready
returns-in-CutKept-clause-ready c = ready_any _ _ c.args.event.now _ c.in-CutKept.is tt

pub returns-in-Batch-clause-ready : goal.returns-in-Batch-clause-ready
returns-in-Batch-clause-ready c = ready_any _ _ c.args.event.now _ c.in-Batch.is tt

pub returns-in-CutLostBatch-clause-ready : goal.returns-in-CutLostBatch-clause-ready
returns-in-CutLostBatch-clause-ready c = ready_any _ _ c.args.event.now _ c.in-CutLostBatch.is tt

pub returns-in-CutAt-clause-ready : goal.returns-in-CutAt-clause-ready
returns-in-CutAt-clause-ready c = ready_any _ _ c.args.event.now _ c.in-CutAt.is tt

pub returns-in-Start-clause-ready : goal.returns-in-Start-clause-ready
returns-in-Start-clause-ready c = rw c.in-Start.is c.check_start.ensures.ready
