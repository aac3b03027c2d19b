use Rattle.std.proofs.Common.{◌≡◌, List, ℕ, Option, Some, None, sym, ◌∙◌}
use Rattle.crsm_lease.specs.Locks.{IsLock, lock_bytes}
use Rattle.crsm_lease.specs.declared.lock.Lock.{Lock}
use Rattle.crsm_lease.proofs.Asked.{asked_value}
use Rattle.crsm_lease.proofs.rule.after_done.Goals as goal

same_value : (a b : List ℕ) → ◌≡◌ {A = Option (List ℕ)} (Some a) (Some b) → a ≡ b
same_value a b e = cc

none_of_lock : (lock : Lock) → ◌≡◌ {A = Option Lock} None (Some lock) → ⊥
none_of_lock lock e = cc

-- the new value of what is asked is read as a lock
pub unreachable-requires-in-None : goal.unreachable-requires-in-None
unreachable-requires-in-None c =
    let a = c.in-Cas-default-default-Some in
    let v = asked_value c.args.op.now c.requires.0 c.requires.1 c.requires.2 a.field-0 a.field-1 a.field-2 a.is in
    let new : a.field-2 ≡ Some a.new = rw a.is at a.field-2-is in
    let is : IsLock c.as_slice.result.now v.0 = record { fits = v.1; is = c.as_slice.ensures ∙ same_value a.new (lock_bytes v.0) (sym new ∙ v.2) } in
    none_of_lock v.0 (sym c.in-None.is ∙ c.read_lock.ensures.only v.0 is)
