use Rattle.std.proofs.Common.{◌≡◌}
use Rattle.crsm_suspend.proofs.union.Union.into_entries.Given as goal

abbrev pub invariant-loop-entry : goal.invariant-loop-entry
invariant-loop-entry l = l.entries ≡ l.yielded
