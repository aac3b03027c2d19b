use Rattle.std.proofs.Common.{◌≡◌, ◌≤◌, ◌*◌, ◌^◌, take}
use Rattle.crsm_spec.specs.Collect.{size_of}
use Rattle.crsm_suspend.proofs.sizes.total_size.Given as goal

abbrev pub invariant-loop-entry : goal.invariant-loop-entry
invariant-loop-entry l = record {
  sum : l.total ≡ size_of (take l.entry-index l.entries);
  bound : l.total ≤ l.entry-index * 2 ^ 68;
}
