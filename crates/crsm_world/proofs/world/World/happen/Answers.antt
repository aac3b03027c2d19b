use Rattle.std.proofs.Common.{◌≡◌, sym, subst, List, ℕ, None}
use Rattle.crsm_schedule.specs.declared.Event.{Event}
use Rattle.crsm_schedule.specs.Grammar.{FitsEvent}
use Rattle.crsm_spec.specs.Possible.{causes_of, first_bad}
use Rattle.crsm_spec.specs.Moments.{act, moments_of, lose_batch}
use Rattle.crsm_world.specs.Doing.{act_of}
use Rattle.crsm_world.specs.Starting.{IsReady}
use Rattle.crsm_world.specs.Turning.{ending_of}
use Rattle.crsm_world.specs.Several.{together, each_gone, all_gone, AreFor}
use Rattle.crsm_world.specs.World.{Leads}
use Rattle.crsm_world.proofs.Leading.{leads_one}
use Rattle.crsm_world.proofs.Allowed.{none_of, genuine, up_here, can_start, for_one}
use Rattle.crsm_world.proofs.world.World.happen.Goals as goal

pub returns-in_ok-do_single-in-One : goal.returns-in_ok-do_single-in-One
unfolding act_of act moments_of causes_of ending_of together
returns-in_ok-do_single-in-One c v h p =
    let e = none_of v (act_of c.args.event.now) p in
    let f = subst (λ (a : Event). first_bad (causes_of v (act_of a)) ≡ None) c.in-One.is e in
    rw c.in-One.is (leads_one v _ _ _ (c.in_ok-do_single-in-One.ensures v h (genuine v c.in-One.single f)))

pub returns-in-Lose : goal.returns-in-Lose
unfolding act_of act moments_of causes_of ending_of together
returns-in-Lose c v h p =
    let e = none_of v (act_of c.args.event.now) p in
    let f = subst (λ (a : Event). first_bad (causes_of v (act_of a)) ≡ None) c.in-Lose.is e in
    rw c.in-Lose.is (c.lose.ensures v h)

pub returns-in_ok-crash-in-Crash : goal.returns-in_ok-crash-in-Crash
unfolding act_of act moments_of causes_of ending_of together
returns-in_ok-crash-in-Crash c v h p =
    let e = none_of v (act_of c.args.event.now) p in
    let f = subst (λ (a : Event). first_bad (causes_of v (act_of a)) ≡ None) c.in-Crash.is e in
    rw c.in-Crash.is (leads_one v _ _ _ (c.in_ok-crash-in-Crash.ensures v h (up_here v c.in-Crash.replica f)))

pub returns-in_ok-start-in-Start : goal.returns-in_ok-start-in-Start
unfolding act_of act moments_of causes_of ending_of together
returns-in_ok-start-in-Start c v h p =
    let e = none_of v (act_of c.args.event.now) p in
    let f = subst (λ (a : Event). first_bad (causes_of v (act_of a)) ≡ None) c.in-Start.is e in
    rw c.in-Start.is (leads_one v _ _ _ (c.in_ok-start-in-Start.ensures v h (can_start v c.in-Start.replica h.sites.few f)))

pub returns-in_ok-settle-in-Settle : goal.returns-in_ok-settle-in-Settle
unfolding act_of act moments_of causes_of ending_of together each_gone
returns-in_ok-settle-in-Settle c v h p =
    let e = none_of v (act_of c.args.event.now) p in
    let f = subst (λ (a : Event). first_bad (causes_of v (act_of a)) ≡ None) c.in-Settle.is e in
    rw c.in-Settle.is (c.in_ok-settle-in-Settle.ensures v h)

pub returns-in_ok-do_single-in-CutLost : goal.returns-in_ok-do_single-in-CutLost
unfolding act_of act moments_of causes_of ending_of together
returns-in_ok-do_single-in-CutLost c v h p =
    let e = none_of v (act_of c.args.event.now) p in
    let f = subst (λ (a : Event). first_bad (causes_of v (act_of a)) ≡ None) c.in-CutLost.is e in
    rw c.in-CutLost.is (leads_one v _ _ _ (c.in_ok-do_single-in-CutLost.ensures v h (genuine v c.in-CutLost.single f)))

pub returns-in_ok-do_single-in-CutKept : goal.returns-in_ok-do_single-in-CutKept
unfolding act_of act moments_of causes_of ending_of together
returns-in_ok-do_single-in-CutKept c v h p =
    let e = none_of v (act_of c.args.event.now) p in
    let f = subst (λ (a : Event). first_bad (causes_of v (act_of a)) ≡ None) c.in-CutKept.is e in
    rw c.in-CutKept.is (leads_one v _ _ _ (c.in_ok-do_single-in-CutKept.ensures v h (genuine v c.in-CutKept.single f)))

pub returns-in_ok-do_single-in-CutAt : goal.returns-in_ok-do_single-in-CutAt
unfolding act_of act moments_of causes_of ending_of together
returns-in_ok-do_single-in-CutAt c v h p =
    let e = none_of v (act_of c.args.event.now) p in
    let f = subst (λ (a : Event). first_bad (causes_of v (act_of a)) ≡ None) c.in-CutAt.is e in
    rw c.in-CutAt.is (leads_one v _ _ _ (c.in_ok-do_single-in-CutAt.ensures v h (genuine v c.in-CutAt.single f)))

pub returns-in_ok-deliver_together-in-Batch : goal.returns-in_ok-deliver_together-in-Batch
unfolding act_of act moments_of causes_of ending_of together all_gone
returns-in_ok-deliver_together-in-Batch c v h p =
    let e = none_of v (act_of c.args.event.now) p in
    let f = subst (λ (a : Event). first_bad (causes_of v (act_of a)) ≡ None) c.in-Batch.is e in
    let fits = subst (λ (a : Event). FitsEvent a) c.in-Batch.is c.requires.fits in
    let one = for_one v c.in-Batch.numbers fits.1.some f in
    rw c.in-Batch.is (subst (λ (is : List ℕ). Leads (all_gone c.in-Batch.reading is v) c.deliver_together.new.self c.in_ok-deliver_together-in-Batch.field-0) c.as_slice.ensures
    (c.in_ok-deliver_together-in-Batch.ensures v one.receiver one.replica h one.up (subst (AreFor one.receiver v.packets) (sym c.as_slice.ensures) one.all)))

pub returns-in_ok-lose_together-in-CutLostBatch : goal.returns-in_ok-lose_together-in-CutLostBatch
unfolding act_of act moments_of causes_of ending_of together
returns-in_ok-lose_together-in-CutLostBatch c v h p =
    rw c.in-CutLostBatch.is (leads_one v _ _ _ (subst (λ (is : List ℕ). Leads (lose_batch c.in-CutLostBatch.reading is v) c.lose_together.new.self c.in_ok-lose_together-in-CutLostBatch.field-0) c.as_slice-in-CutLostBatch.ensures
    (c.in_ok-lose_together-in-CutLostBatch.ensures v h)))

pub start-requires : goal.start-requires
start-requires c = subst (λ (e : Event). IsReady e c.args.self.now.sites) c.in-Start.is c.requires.ready
