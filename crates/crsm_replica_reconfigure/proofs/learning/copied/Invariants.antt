use Rattle.std.proofs.Common.{◌≡◌, take}
use Rattle.crsm_replica_reconfigure.proofs.learning.copied.Given as goal

abbrev pub invariant-loop-item : goal.invariant-loop-item
invariant-loop-item l = l.copy ≡ take l.item-index l.entries
