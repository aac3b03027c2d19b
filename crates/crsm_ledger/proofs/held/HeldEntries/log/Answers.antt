use Rattle.std.proofs.Math.Logic.{∥∥₁_map}
use Rattle.crsm_ledger.proofs.HeldLemmas.{held-insert}
use Rattle.crsm_ledger.proofs.held.HeldEntries.log.Goals as goal

pub invariant_of-self : goal.invariant_of-self
invariant_of-self c =
    let old = c.args.self.now in
    record { held = ∥∥₁_map old.held (held-insert c.insert.result old.history.spelt old.history.epoch old.logged c.insert.new.self c.args.entry c.requires.fits c.requires.next c.insert.ensures.ok c.insert.ensures.err) }
