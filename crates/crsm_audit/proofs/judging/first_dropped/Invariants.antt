use Rattle.std.proofs.Common.{◌≡◌, ℕ, ◌<◌}
use Rattle.std.specs.Prelude.{Some, slice_get}
use Rattle.crsm_audit.specs.Judging.{NoneNamed}
use Rattle.crsm_audit.specs.Lists.{IsAscending, WhereNamed}
use Rattle.crsm_audit.specs.declared.account.Account.{Account}
use Rattle.crsm_audit.proofs.judging.first_dropped.Given as goal

-- the accounts before have no such report
abbrev pub invariant-loop-index : goal.invariant-loop-index
invariant-loop-index l =
    WhereNamed l.one.list (λ places. IsAscending places → (j : ℕ) (a : Account) → j < l.index → slice_get l.accounts j ≡ Some a → NoneNamed places a.dropped.items)
