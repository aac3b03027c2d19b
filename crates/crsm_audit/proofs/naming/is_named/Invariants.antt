use Rattle.std.proofs.Common.{◌≤◌, ◌-◌, length}
use Rattle.crsm_audit.specs.Lists.{IsAscending, IsBetween, WhereNamed}
use Rattle.crsm_audit.proofs.naming.is_named.Given as goal

-- the name is between the two, if it is anywhere
abbrev pub invariant-loop-low : goal.invariant-loop-low
invariant-loop-low l = (l.low ≤ l.high) × (l.high ≤ length l.one.list) × WhereNamed l.one.list (λ places. IsAscending places → IsBetween places l.name l.low l.high)

abbrev pub decreases-loop-low : goal.decreases-loop-low
decreases-loop-low l = l.high - l.low
