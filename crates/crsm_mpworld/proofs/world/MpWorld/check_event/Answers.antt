use Rattle.std.proofs.Common.{◌≡◌, true, false}
use Rattle.crsm_mpspec.specs.Possible.{causes_of, is_not_here}
use Rattle.crsm_mpworld.specs.Doing.{act_of}
use Rattle.crsm_mpworld.proofs.Reasons.{no_more}
use Rattle.crsm_mpworld.proofs.world.MpWorld.check_event.Goals as goal

pub returns-in-One : goal.returns-in-One
unfolding act_of causes_of is_not_here
returns-in-One c v h = rw c.in-One.is (λ meant. c.check_single.ensures v h meant)

pub returns-in-Lose : goal.returns-in-Lose
unfolding act_of causes_of
returns-in-Lose c v h = rw c.in-Lose.is (λ _. c.check_fresh.ensures v h)

pub returns-in-Crash : goal.returns-in-Crash
unfolding act_of causes_of
returns-in-Crash c v h = rw c.in-Crash.is (λ _. c.check_up.ensures v h)

pub returns-in-Start : goal.returns-in-Start
unfolding act_of causes_of
returns-in-Start c v h = rw c.in-Start.is (λ _. c.check_start.ensures v h)

pub returns-in-Settle : goal.returns-in-Settle
unfolding act_of causes_of
returns-in-Settle c v h = rw c.in-Settle.is (λ _. no_more)

pub returns-in-CutLost : goal.returns-in-CutLost
unfolding act_of causes_of is_not_here
returns-in-CutLost c v h = rw c.in-CutLost.is (λ meant. c.check_single-in-CutLost.ensures v h meant)

pub returns-in-CutKept : goal.returns-in-CutKept
unfolding act_of causes_of is_not_here
returns-in-CutKept c v h = rw c.in-CutKept.is (λ meant. c.check_single-in-CutKept.ensures v h meant)

pub returns-in-Batch : goal.returns-in-Batch
unfolding act_of is_not_here
returns-in-Batch c v h = rw c.in-Batch.is (λ meant. let e : true ≡ false = meant in cc)

pub returns-in-CutLostBatch : goal.returns-in-CutLostBatch
unfolding act_of is_not_here
returns-in-CutLostBatch c v h = rw c.in-CutLostBatch.is (λ meant. let e : true ≡ false = meant in cc)

pub returns-in-CutAt : goal.returns-in-CutAt
unfolding act_of is_not_here
returns-in-CutAt c v h = rw c.in-CutAt.is (λ meant. let e : true ≡ false = meant in cc)
