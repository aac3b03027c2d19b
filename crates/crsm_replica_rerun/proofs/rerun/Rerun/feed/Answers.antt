use Rattle.std.proofs.Common.{refl}
use Rattle.std.proofs.Math.Logic.{∥∥₁_elim, ∥∥₁_map}
use Rattle.crsm_replica_rerun.proofs.Spelt.{records_prop, sends_prop}
use Rattle.crsm_replica_rerun.proofs.Stages.{advances}
use Rattle.crsm_replica_rerun.proofs.rerun.Rerun.feed.Goals as goal

pub invariant_of-self : goal.invariant_of-self
invariant_of-self c =
    let old = c.args.self.now in record { me_below = old.me_below; some = old.some; few = old.few; sound = ∥∥₁_map old.sound (λ s. c.take.ensures.sound s) }

pub invariant_of-self-2 : goal.invariant_of-self-2
invariant_of-self-2 c =
    let old = c.args.self.now in record { me_below = old.me_below; some = old.some; few = old.few; sound = ∥∥₁_map old.sound (λ s. c.take.ensures.sound s) }

pub returns-clause-advances : goal.returns-clause-advances
returns-clause-advances c = λ me n first lines steps s.
    advances me n first c.args.self.now lines steps s _ c.args.line.now c.in_ok-batch.batch c.in_ok-batch.ensures.takes refl refl refl

pub returns-clause-spelt : goal.returns-clause-spelt
returns-clause-spelt c = ∥∥₁_elim c.args.self.now.sound (sends_prop c.in_ok-batch.batch.sends) (λ s. (c.in_ok-batch.ensures.spelt s).1)

pub returns-clause-records : goal.returns-clause-records
returns-clause-records c = ∥∥₁_elim c.args.self.now.sound (records_prop c.in_ok-batch.batch.records) (λ s. (c.in_ok-batch.ensures.spelt s).0)
