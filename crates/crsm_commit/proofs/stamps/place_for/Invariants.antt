use Rattle.std.proofs.Common.{◌≡◌, ◌≤◌, true, length, drop}
use Rattle.std.specs.List.{AllByRecursion}
use Rattle.crsm_base.specs.Order.{stamp_lt}
use Rattle.crsm_commit.proofs.stamps.place_for.Given as goal

abbrev pub invariant-loop-place : goal.invariant-loop-place
invariant-loop-place l =
    (l.place ≤ length l.stamps) × AllByRecursion (λ t. stamp_lt l.stamp t ≡ true) (drop l.place l.stamps)

abbrev pub decreases-loop-place : goal.decreases-loop-place
decreases-loop-place l = l.place
