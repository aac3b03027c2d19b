use Rattle.std.proofs.Common.{◌≡◌, subst, None}
use Rattle.crsm_schedule.specs.declared.Event.{Event}
use Rattle.crsm_spec.specs.Possible.{first_bad}
use Rattle.crsm_mpspec.specs.Possible.{causes_of}
use Rattle.crsm_mpspec.specs.Moments.{act, moments_of}
use Rattle.crsm_mpworld.specs.Doing.{act_of}
use Rattle.crsm_mpworld.specs.Effects.{ending_of}
use Rattle.crsm_mpworld.proofs.Leading.{leads_one, leads_none, together}
use Rattle.crsm_mpworld.proofs.Turns.{is_up_there}
use Rattle.crsm_mpworld.proofs.Allowed.{none_of, up_here, can_start}
use Rattle.crsm_mpworld.proofs.world.MpWorld.happen.Goals as goal

pub returns-in_ok-do_single-in-One : goal.returns-in_ok-do_single-in-One
unfolding act_of act moments_of ending_of together
returns-in_ok-do_single-in-One c v h p = rw c.in-One.is (leads_one v _ _ _ (c.in_ok-do_single-in-One.ensures v h))

pub returns-in-Lose : goal.returns-in-Lose
unfolding act_of
returns-in-Lose c v h p = rw c.in-Lose.is (c.lose.ensures v h)

pub returns-in_ok-crash-in-Crash : goal.returns-in_ok-crash-in-Crash
unfolding act_of act moments_of causes_of together
returns-in_ok-crash-in-Crash c v h p =
    let e = none_of v (act_of c.args.event.now) p in
    let f = subst (λ (a : Event). first_bad (causes_of v (act_of a)) ≡ None) c.in-Crash.is e in
    rw c.in-Crash.is (leads_one v _ _ _ (c.in_ok-crash-in-Crash.ensures v h (is_up_there v c.in-Crash.replica (up_here v c.in-Crash.replica f))))

pub returns-in_ok-start-in-Start : goal.returns-in_ok-start-in-Start
unfolding act_of act moments_of causes_of together
returns-in_ok-start-in-Start c v h p =
    let e = none_of v (act_of c.args.event.now) p in
    let f = subst (λ (a : Event). first_bad (causes_of v (act_of a)) ≡ None) c.in-Start.is e in
    let d = can_start v c.in-Start.replica f in
    rw c.in-Start.is (leads_one v _ _ _ (c.in_ok-start-in-Start.ensures v h d.0 d.1))

pub returns-in_ok-settle-in-Settle : goal.returns-in_ok-settle-in-Settle
unfolding act_of
returns-in_ok-settle-in-Settle c v h p = rw c.in-Settle.is (c.in_ok-settle-in-Settle.ensures v h c.in-Settle.reading)

pub returns-in_ok-do_single-in-CutLost : goal.returns-in_ok-do_single-in-CutLost
unfolding act_of act moments_of ending_of together
returns-in_ok-do_single-in-CutLost c v h p = rw c.in-CutLost.is (leads_one v _ _ _ (c.in_ok-do_single-in-CutLost.ensures v h))

pub returns-in_ok-do_single-in-CutKept : goal.returns-in_ok-do_single-in-CutKept
unfolding act_of act moments_of ending_of together
returns-in_ok-do_single-in-CutKept c v h p = rw c.in-CutKept.is (leads_one v _ _ _ (c.in_ok-do_single-in-CutKept.ensures v h))

pub returns-in-Batch : goal.returns-in-Batch
unfolding act_of act moments_of together
returns-in-Batch c v h p =
    let held = c.no_lines.ensures.holds v h in
    rw c.in-Batch.is (leads_none v _ _ c.no_lines.ensures.none held.sites held.network held.n)

pub returns-in-CutLostBatch : goal.returns-in-CutLostBatch
unfolding act_of act moments_of together
returns-in-CutLostBatch c v h p =
    let held = c.no_lines-in-CutLostBatch.ensures.holds v h in
    rw c.in-CutLostBatch.is (leads_none v _ _ c.no_lines-in-CutLostBatch.ensures.none held.sites held.network held.n)

pub returns-in-CutAt : goal.returns-in-CutAt
unfolding act_of act moments_of together
returns-in-CutAt c v h p =
    let held = c.no_lines-in-CutAt.ensures.holds v h in
    rw c.in-CutAt.is (leads_none v _ _ c.no_lines-in-CutAt.ensures.none held.sites held.network held.n)
