use Rattle.std.proofs.Common.{◌≡◌}
use Rattle.crsm_spec_plan.specs.Plans.{FitsPlan}
use Rattle.crsm_delay.proofs.Last.{last_below}
use Rattle.crsm_delay.proofs.moments.commit_at.Given as goal

abbrev pub invariant-loop-k : goal.invariant-loop-k
invariant-loop-k l = FitsPlan l.plan → l.last ≡ last_below l.plan l.i l.k
