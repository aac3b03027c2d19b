use Rattle.std.proofs.Common.{length, ◌-◌}
use Rattle.crsm_audit.proofs.entries.skip_before.Given as goal

abbrev pub decreases-loop-index : goal.decreases-loop-index
decreases-loop-index l = length l.held - l.index
