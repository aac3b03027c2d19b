use Rattle.std.proofs.Common.{◌∙◌, sym, true, false}
use Rattle.crsm_spec.specs.Possible.{causes_of}
use Rattle.crsm_world.specs.Doing.{bad_of}
use Rattle.crsm_world.proofs.Reasons.{hit, pass, no_more, up_as, next_none}
use Rattle.crsm_world.proofs.world.World.check_start.Goals as goal

pub returns-then-is_none-clause-answers : goal.returns-then-is_none-clause-answers
unfolding causes_of bad_of
returns-then-is_none-clause-answers c v h ne = hit _ _ _ (sym (next_none v c.count-count.result c.args.k c.is_none.result (c.count-count.ensures v.n v.sites h.sites) c.is_none.ensures) ∙ c.if-is_none.true)

pub returns-then-is_up-clause-answers : goal.returns-then-is_up-clause-answers
unfolding causes_of bad_of
returns-then-is_up-clause-answers c v h ne = pass _ _ _ (sym (next_none v c.count-count.result c.args.k c.is_none.result (c.count-count.ensures v.n v.sites h.sites) c.is_none.ensures) ∙ c.if-is_none.false) ∙ hit _ _ _ (up_as v c.args.k c.is_up.result true (c.is_up.ensures.up v.n v.sites h.sites) c.if-is_up.true)

pub returns-clause-answers : goal.returns-clause-answers
unfolding causes_of bad_of
returns-clause-answers c v h = pass _ _ _ (sym (next_none v c.count-count.result c.args.k c.is_none.result (c.count-count.ensures v.n v.sites h.sites) c.is_none.ensures) ∙ c.if-is_none.false) ∙ pass _ _ _ (up_as v c.args.k c.is_up.result false (c.is_up.ensures.up v.n v.sites h.sites) c.if-is_up.false) ∙ no_more

pub returns-clause-ready : goal.returns-clause-ready
returns-clause-ready c = c.is_up.ensures.not_up c.if-is_up.false
