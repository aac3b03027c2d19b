use Rattle.std.proofs.Common.{◌+◌, ◌-◌}
use Rattle.crsm_cmd_soak.specs.Soak.{IsBelow}
use Rattle.crsm_cmd_soak.proofs.Runs.{Runs}
use Rattle.crsm_cmd_soak.proofs.running.run_all.Given as goal

abbrev pub invariant-loop : goal.invariant-loop
invariant-loop l = record {
  runs : Runs l.run l.number l.n l.steps (l.steps - l.counter);
  below : IsBelow (l.counter + 1) l.run.summary;
}
