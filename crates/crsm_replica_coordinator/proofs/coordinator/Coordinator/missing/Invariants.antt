use Rattle.std.proofs.Common.{◌≡◌, ℕ, ◌<◌, take}
use Rattle.std.specs.Prelude.{Option, filter, not, All}
use Rattle.crsm_spec.specs.Types.{Decision}
use Rattle.crsm_spec.specs.Lists.{has}
use Rattle.crsm_spec.specs.Replica.{Coordinator as CoordinatorOnPaper}
use Rattle.crsm_replica_coordinator.specs.Coordinator.{CoordinatorStands, counted_of}
use Rattle.crsm_replica_coordinator.proofs.coordinator.Coordinator.missing.Given as goal

abbrev pub invariant-loop-k : goal.invariant-loop-k
invariant-loop-k l = record {
  value : (me n : ℕ) (known : Option Decision) (m : CoordinatorOnPaper) → CoordinatorStands l.self me n known m → l.missing.items ≡ filter (λ k. not (has (counted_of m) k)) (take l.k-index l.replicas);
  below : All (λ k. k < 15) l.missing.items;
}
