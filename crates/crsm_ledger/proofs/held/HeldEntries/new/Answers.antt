use Rattle.crsm_ledger.proofs.HeldLemmas.{held-none}
use Rattle.crsm_ledger.proofs.held.HeldEntries.new.Goals as goal

pub invariant_of-result : goal.invariant_of-result
invariant_of-result c = record { held = ∣ held-none c.in_ok-history.history 0 c.new-logged.result c.in_ok-history.ensures c.new-logged.ensures ∣₁ }
