use Rattle.crsm_commit.specs.Least.{IsLeastFirst}
use Rattle.crsm_commit.proofs.pending.least_first.Given as goal

abbrev pub invariant-loop-place : goal.invariant-loop-place
invariant-loop-place l = IsLeastFirst l.least l.queues l.place
