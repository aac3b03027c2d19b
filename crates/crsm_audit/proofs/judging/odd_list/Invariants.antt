use Rattle.std.proofs.Common.{◌≡◌, ℕ, ◌<◌}
use Rattle.std.specs.Prelude.{Some, slice_get}
use Rattle.crsm_audit.specs.Lists.{IsWithin}
use Rattle.crsm_audit.specs.declared.account.Account.{Account}
use Rattle.crsm_audit.proofs.judging.odd_list.Given as goal

-- the lists before are prefixes of the one list
abbrev pub invariant-loop-index : goal.invariant-loop-index
invariant-loop-index l = (j : ℕ) (a : Account) → j < l.index → slice_get l.accounts j ≡ Some a → IsWithin a.entries.list l.one.list
