use Rattle.crsm_delay.proofs.Last.{ok_is}
use Rattle.crsm_delay.proofs.moments.ok_at.Goals as goal

pub returns : goal.returns
returns c = λ fit.
    ok_is c.args.plan.now c.args.k c.delay_of.result c.offset_of.result c.offset_of-2.result c.saturating_add-arrival.result c.saturating_add-stamped.result c.saturating_add-past.result c.saturating_sub.result c.max.result
    fit c.delay_of.ensures c.offset_of.ensures c.offset_of-2.ensures c.saturating_add-arrival.ensures c.saturating_add-stamped.ensures c.saturating_add-past.ensures c.saturating_sub.ensures c.max.ensures
