use Rattle.std.proofs.Common.{◌≡◌, false, take}
use Rattle.std.specs.List.{AllByRecursion}
use Rattle.crsm_base.specs.Order.{stamp_eq}
use Rattle.crsm_commit.proofs.stamps.place_of.Given as goal

abbrev pub invariant-loop-place : goal.invariant-loop-place
invariant-loop-place l = AllByRecursion (λ t. stamp_eq t l.stamp ≡ false) (take l.place l.stamps)
