use Rattle.std.proofs.Common.{◌≡◌, ℕ, ◌≤◌, length}
use Rattle.std.specs.Prelude.{◌≢◌, Some, slice_get}
use Rattle.crsm_audit.specs.declared.account.Account.{Account}
use Rattle.crsm_audit.proofs.origins.last_of.Given as goal

-- none from this account on is of the node
abbrev pub invariant-loop-index : goal.invariant-loop-index
invariant-loop-index l = (l.index ≤ length l.accounts) × ((j : ℕ) (a : Account) → l.index ≤ j → slice_get l.accounts j ≡ Some a → a.me ≢ l.node)

abbrev pub decreases-loop-index : goal.decreases-loop-index
decreases-loop-index l = l.index
