-- A decision that is proposed again.
use Rattle.crsm_base.specs.Spelling.{FitsBallot, FitsDecision}
use Rattle.crsm_spec.specs.Types.{Ballot, Decision}

-- the decision, and the ballot that preempted it, have encodings
abbrev pub FitsRetry : Decision × Ballot → Type 0
FitsRetry r = FitsDecision r.0 × FitsBallot r.1
