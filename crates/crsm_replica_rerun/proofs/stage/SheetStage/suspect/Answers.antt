use Rattle.std.proofs.Common.{subst, sym}
use Rattle.crsm_core.specs.declared.replica.Core.{Core}
use Rattle.crsm_core.specs.Core.{CoreStands}
use Rattle.crsm_spec.specs.Node.{Turn}
use Rattle.crsm_replica_rerun.specs.declared.stage.SheetStage.{SheetStage}
use Rattle.crsm_replica_rerun.specs.Stages.{IsOfOne, IsSound, StageStands}
use Rattle.crsm_replica_rerun.proofs.Cores.{some_turn}
use Rattle.crsm_replica_rerun.proofs.Stages.{refused_early, turns}
use Rattle.crsm_replica_rerun.proofs.stage.SheetStage.suspect.Goals as goal

pub returns-in_default-clause-takes : goal.returns-in_default-clause-takes
returns-in_default-clause-takes c = λ me n lines steps s. refused_early me n c.args.self.now lines steps (Turn.Suspect c.args.members.now, c.args.reading) s c.in_default.not-Running

pub returns-in-Ok-clause-takes : goal.returns-in-Ok-clause-takes
returns-in-Ok-clause-takes c = λ me n lines steps s.
    turns me n _ _ lines steps (Turn.Suspect c.args.members.now, c.args.reading) c.in-Ok.batch (subst (λ (x : SheetStage). StageStands me n x lines steps) c.in-Running.is s)
    (λ r stands. c.in-Ok.ensures r (subst (λ (core : Core). CoreStands core r) (sym c.deref_mut.ensures.value) stands))

pub returns-in-Ok-clause-sound : goal.returns-in-Ok-clause-sound
returns-in-Ok-clause-sound c = λ sound.
    (some_turn c.in-Ok.batch _ _ (Turn.Suspect c.args.members.now, c.args.reading) c.in-Ok.ensures
    (subst (λ (core : Core). IsOfOne core) (sym c.deref_mut.ensures.value) (subst (λ (x : SheetStage). IsSound x) c.in-Running.is sound))).1

pub returns-in-Ok-clause-spelt : goal.returns-in-Ok-clause-spelt
returns-in-Ok-clause-spelt c = λ sound.
    (some_turn c.in-Ok.batch _ _ (Turn.Suspect c.args.members.now, c.args.reading) c.in-Ok.ensures
    (subst (λ (core : Core). IsOfOne core) (sym c.deref_mut.ensures.value) (subst (λ (x : SheetStage). IsSound x) c.in-Running.is sound))).0
