use Rattle.std.proofs.Common.{◌≡◌, ℕ, ◌<◌}
use Rattle.std.specs.Prelude.{Some, slice_get}
use Rattle.crsm_audit.specs.Judging.{IsNamed}
use Rattle.crsm_audit.specs.Lists.{IsAscending, WhereNamed}
use Rattle.crsm_audit.specs.declared.place.Dropped.{Dropped}
use Rattle.crsm_audit.proofs.judging.first_named.Given as goal

-- none of those before is named
abbrev pub invariant-loop-name : goal.invariant-loop-name
invariant-loop-name l =
    WhereNamed l.one.list (λ places. IsAscending places → (q : ℕ) (d : Dropped) → q < l.name-index → slice_get l.account.dropped.items q ≡ Some d → IsNamed places d → ⊥)
