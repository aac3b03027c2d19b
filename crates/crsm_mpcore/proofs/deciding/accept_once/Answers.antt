use Rattle.std.proofs.Common.{◌∙◌, sym}
use Rattle.crsm_spec.specs.Choice.{when◌then◌otherwise◌}
use Rattle.crsm_mpcore.specs.Parts.{accept_once}
use Rattle.crsm_mpcore.proofs.deciding.accept_once.Goals as goal

pub returns-then-has_accepted : goal.returns-then-has_accepted
unfolding accept_once when◌then◌otherwise◌
returns-then-has_accepted c x s fits = rw (sym (c.has_accepted.ensures x s) ∙ c.if-has_accepted.true) s

pub returns : goal.returns
unfolding accept_once when◌then◌otherwise◌
returns c x s fits = rw (sym (c.has_accepted.ensures x s) ∙ c.if-has_accepted.false) (c.in_ok-accept.ensures x s fits)
