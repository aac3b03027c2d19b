use Rattle.std.proofs.Common.{arith}
use Rattle.crsm_delay.proofs.Upcomings.{a_tick, is_past, offset_below, reads_stamped}
use Rattle.crsm_delay.proofs.upcoming.tick.Goals as goal

pub overflow_add-past : goal.overflow_add-past
overflow_add-past c = let s = (reads_stamped c.args.plan.now c.reading_of-past.result c.requires c.reading_of-past.ensures).1 in omega (arith, s)

pub returns-then-reading_of-past-clause-none : goal.returns-then-reading_of-past-clause-none
returns-then-reading_of-past-clause-none c = λ e.
    is_past c.args.plan.now c.args.k c.reading_of-past.result c.delay_of.result c.reading_of.result c.requires c.reading_of-past.ensures c.delay_of.ensures c.reading_of.ensures c.if-reading_of-past.true

pub overflow_sub-result : goal.overflow_sub-result
overflow_sub-result c =
    offset_below c.args.plan.now c.args.k c.reading_of-past.result c.delay_of.result c.reading_of.result c.offset_of.result c.requires
    c.reading_of-past.ensures c.delay_of.ensures c.reading_of.ensures c.offset_of.ensures c.if-reading_of-past.false

pub returns-clause-some : goal.returns-clause-some
returns-clause-some c =
    a_tick c.args.plan.now c.args.k c.reading_of-past.result c.delay_of.result c.reading_of.result c.offset_of.result c.requires
    c.reading_of-past.ensures c.delay_of.ensures c.reading_of.ensures c.offset_of.ensures c.if-reading_of-past.false
