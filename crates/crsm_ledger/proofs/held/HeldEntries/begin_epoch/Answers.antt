use Rattle.std.proofs.Math.Logic.{∥∥₁_map}
use Rattle.crsm_ledger.proofs.HeldLemmas.{held-begin}
use Rattle.crsm_ledger.proofs.held.HeldEntries.begin_epoch.Goals as goal

pub invariant_of-self : goal.invariant_of-self
invariant_of-self c =
    let old = c.args.self.now in
    record { held = ∥∥₁_map old.held (held-begin old.history.spelt c.begin_epoch.new.self.spelt old.history.epoch c.begin_epoch.new.self.epoch old.logged c.clear.new.self c.begin_epoch.ensures.spelt c.clear.ensures) }
