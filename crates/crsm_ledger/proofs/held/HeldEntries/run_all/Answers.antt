use Rattle.std.proofs.Math.Logic.{∥∥₁_map}
use Rattle.crsm_ledger.proofs.HeldLemmas.{held-grows}
use Rattle.crsm_ledger.proofs.held.HeldEntries.run_all.Goals as goal

pub invariant_of-self : goal.invariant_of-self
invariant_of-self c = let old = c.args.self.now in record { held = ∥∥₁_map old.held (held-grows old.history c.run_all.new.self old.logged c.run_all.ensures.grows) }
