use Rattle.crsm_law_wishes.proofs.Spacing.{suspicions_spaced}
use Rattle.crsm_law_wishes.proofs.suspicions_are_spaced.Goals as goal

pub returns : goal.returns
returns c = suspicions_spaced c.turns_append.ensures.wished c.turns_append.ensures.watch
