use Rattle.std.proofs.Common.{◌≡◌, ◌++◌}
use Rattle.std.specs.List.{flat_map}
use Rattle.crsm_spec.specs.Lists.{numbers_below}
use Rattle.crsm_spec_plan.specs.Plans.{FitsPlan}
use Rattle.crsm_delay.specs.Times.{row}
use Rattle.crsm_delay.proofs.moments.push_times.Given as goal

abbrev pub invariant-loop-i : goal.invariant-loop-i
invariant-loop-i l = FitsPlan l.plan → l.text ≡ l.initial.text ++ flat_map (row l.plan) (numbers_below l.i)
