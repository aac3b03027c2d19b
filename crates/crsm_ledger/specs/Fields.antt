-- What is true of a ledger's fields, whatever log they stand for.
use Rattle.std.specs.Prelude.{◌≤◌}
use Rattle.crsm_base.specs.Spelling.{FitsDecision}
use Rattle.crsm_base.specs.declared.decision.Decision.{Decision}

-- the decision has an encoding, unless it is that of epoch 0, which nobody proposed
abbrev pub FitsOnceDecided : Decision → Type 0
FitsOnceDecided d = 1 ≤ d.epoch → FitsDecision d
