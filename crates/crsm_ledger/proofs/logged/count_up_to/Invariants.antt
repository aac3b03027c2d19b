use Rattle.std.proofs.Common.{◌≡◌, ◌-◌, ◌≤◌, true, false, length}
use Rattle.std.specs.Prelude.{not}
use Rattle.std.specs.List.{AllWithin}
use Rattle.crsm_base.specs.Order.{stamp_lt}
use Rattle.crsm_ledger.proofs.logged.count_up_to.Given as goal

abbrev pub invariant-loop-low : goal.invariant-loop-low
invariant-loop-low l =
    (l.low ≤ l.high)
    × (l.high ≤ length l.items)
    × AllWithin (λ e. not (stamp_lt l.stamp e.stamp) ≡ true) l.items 0 l.low
    × AllWithin (λ e. not (stamp_lt l.stamp e.stamp) ≡ false) l.items l.high (length l.items)

abbrev pub decreases-loop-low : goal.decreases-loop-low
decreases-loop-low l = l.high - l.low
