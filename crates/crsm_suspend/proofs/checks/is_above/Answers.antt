use Rattle.std.proofs.Common.{◌∙◌}
use Rattle.crsm_suspend.proofs.FrozenLemmas.{over_some, over_none}
use Rattle.crsm_suspend.proofs.checks.is_above.Goals as goal

pub returns-in-Some : goal.returns-in-Some
returns-in-Some c = c.stamp_precedes.ensures ∙ over_some c.args.floor c.in-Some.floor c.args.stamp (cc)

pub returns-in-None : goal.returns-in-None
returns-in-None c = over_none c.args.floor c.args.stamp (cc)
