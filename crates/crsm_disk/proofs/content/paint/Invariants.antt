use Rattle.std.proofs.Common.{◌≡◌, drop}
use Rattle.crsm_disk.specs.Ranges.{painted_on}
use Rattle.crsm_disk.proofs.content.paint.Given as goal

abbrev pub invariant-loop-range : goal.invariant-loop-range
invariant-loop-range l =
    painted_on (drop l.range-index l.ranges) l.fill l.image ≡ painted_on l.ranges l.fill l.initial.image
