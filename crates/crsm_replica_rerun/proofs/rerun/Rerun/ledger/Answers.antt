use Rattle.std.proofs.Common.{subst, sym}
use Rattle.std.proofs.Math.Logic.{∥∥₁_map}
use Rattle.crsm_core.specs.declared.replica.Core.{Core}
use Rattle.crsm_core.specs.Core.{CoreStands}
use Rattle.crsm_replica_rerun.specs.declared.stage.SheetStage.{SheetStage}
use Rattle.crsm_replica_rerun.specs.Stages.{IsSound}
use Rattle.crsm_replica_rerun.proofs.Ledgers.{of_some, says}
use Rattle.crsm_replica_rerun.proofs.rerun.Rerun.ledger.Goals as goal

pub returns-clause-says : goal.returns-clause-says
returns-clause-says c = λ me n first lines steps s.
    says me n first c.args.self.now lines steps s _ c.in-Running.is _
    (λ r stands. c.ledger.ensures.standing r (subst (λ (core : Core). CoreStands core r) (sym c.deref.ensures) stands))

pub returns-clause-some : goal.returns-clause-some
returns-clause-some c =
    ∥∥₁_map c.args.self.now.sound (λ sound.
    of_some _ c.ledger.result.now
    (λ r stands. c.ledger.ensures.standing r (subst (λ (core : Core). CoreStands core r) (sym c.deref.ensures) stands))
    (subst (λ (stage : SheetStage). IsSound stage) c.in-Running.is sound))
