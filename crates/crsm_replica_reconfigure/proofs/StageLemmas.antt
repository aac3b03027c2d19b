-- Whether a coordinator collects, by its stage.
use Rattle.std.proofs.Common.{◌≡◌, refl, sym, ◌∙◌, ap, Bool, true, false}
use Rattle.crsm_spec.specs.Replica.{Coordinator}
use Rattle.crsm_replica_coordinator.specs.Coordinator.{stage_of}
use Rattle.crsm_replica_coordinator.specs.declared.coordinator.Stage.{Stage}
use Rattle.crsm_replica_reconfigure.specs.Reports.{is_collecting}

abbrev collects : Stage → Bool
collects Stage.Idle = false
collects Stage.Collecting = true
collects Stage.Preparing = false
collects Stage.Proposing = false
collects Stage.Preempted = false

collects_as : (m : Coordinator) → collects (stage_of m) ≡ is_collecting m
unfolding stage_of is_collecting
collects_as Coordinator.Idle = refl
collects_as (Coordinator.Collecting ms pages) = refl
collects_as (Coordinator.Preparing b own answers) = refl
collects_as (Coordinator.Proposing b own value acceptors) = refl
collects_as (Coordinator.Preempted own seen) = refl

pub collects_now : (s : Stage) (m : Coordinator) → s ≡ stage_of m → s ≡ Stage.Collecting → true ≡ is_collecting m
collects_now s m e is = ap collects (sym is) ∙ ap collects e ∙ collects_as m

pub collects_not : (s : Stage) (m : Coordinator) → s ≡ stage_of m → (s ≡ Stage.Collecting → ⊥) → false ≡ is_collecting m
collects_not s m e not = none s not ∙ ap collects e ∙ collects_as m
  where
    none : (s : Stage) → (s ≡ Stage.Collecting → ⊥) → false ≡ collects s
    none Stage.Idle h = refl
    none Stage.Collecting h = absurd (h refl)
    none Stage.Preparing h = refl
    none Stage.Proposing h = refl
    none Stage.Preempted h = refl
