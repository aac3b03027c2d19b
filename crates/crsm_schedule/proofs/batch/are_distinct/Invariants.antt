use Rattle.std.proofs.Common.{drop}
use Rattle.crsm_schedule.specs.Grammar.{AreDistinct}
use Rattle.crsm_schedule.proofs.batch.are_distinct.Given as goal

-- the numbers so far stand nowhere else
abbrev pub invariant-loop-i : goal.invariant-loop-i
invariant-loop-i l = record {
  down : AreDistinct l.numbers → AreDistinct (drop l.i l.numbers);
  up : AreDistinct (drop l.i l.numbers) → AreDistinct l.numbers;
}
