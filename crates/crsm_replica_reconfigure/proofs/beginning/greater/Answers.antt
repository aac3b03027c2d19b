use Rattle.std.proofs.Common.{◌∙◌, sym}
use Rattle.crsm_spec.specs.Coordinate.{greater_ballot}
use Rattle.crsm_replica_reconfigure.proofs.DraftLemmas.{when_yes, when_no}
use Rattle.crsm_replica_reconfigure.proofs.beginning.greater.Goals as goal

pub returns-then-ballot_precedes : goal.returns-then-ballot_precedes
unfolding greater_ballot
returns-then-ballot_precedes c = sym (when_yes _ _ _ (sym c.ballot_precedes.ensures ∙ c.if-ballot_precedes.true))

pub returns-else-ballot_precedes : goal.returns-else-ballot_precedes
unfolding greater_ballot
returns-else-ballot_precedes c = sym (when_no _ _ _ (sym c.ballot_precedes.ensures ∙ c.if-ballot_precedes.false))
