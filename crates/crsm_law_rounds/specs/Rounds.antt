-- Worlds within a calm round.
use Rattle.std.specs.Prelude.{◌≡◌, ◌⊎◌, ℕ, ◌+◌, ◌<◌, ◌≤◌, ◌^◌, IsTrue, List, [], ◌∷◌, Some, slice_get}
use Rattle.crsm_spec.specs.Types.{InEpoch, Datagram}
use Rattle.crsm_spec.specs.Log.{active}
use Rattle.crsm_spec.specs.Replica.{Replica}
use Rattle.crsm_spec.specs.Step.{Input, step}
use Rattle.crsm_spec.specs.World.{Site, Packet, World, whole_step}
use Rattle.crsm_spec.specs.Moments.{use_up}
use Rattle.crsm_law_steps.specs.Happenings.{WasSent}
use Rattle.crsm_law_active.specs.Staying.{IsCalmInput}

-- World v has advanced, at any readings, by ticks of active replicas, the last one first, and by deliveries. Each
-- replica with property C received calm input only.
pub data GoesCalmly (C : ℕ → Type 0) (v : World) : List ℕ → World → Type 0 where
  stay : GoesCalmly C v [] v
  marks : {ticks : List ℕ} {w : World} (i : ℕ) → GoesCalmly C v ticks w → GoesCalmly C v ticks (use_up i w)
  by_tick : {ticks : List ℕ} {w : World} (k t : ℕ) (r : Replica) → t < 2 ^ 64 → GoesCalmly C v ticks w → slice_get w.sites k ≡ Some (Site.Up r) →
      IsTrue (active r.log) → GoesCalmly C v (k ∷ ticks) (whole_step w k (step r Input.Ticked t)).after
  by_packet : {ticks : List ℕ} {w : World} (k t : ℕ) (r : Replica) (from : ℕ) (d : Datagram) → t < 2 ^ 64 → GoesCalmly C v ticks w →
      slice_get w.sites k ≡ Some (Site.Up r) → WasSent w from k d → (C k → IsCalmInput r (Input.Came from d)) →
      GoesCalmly C v ticks (whole_step w k (step r (Input.Came from d) t)).after

-- datagram i is frame a from k to j
abbrev pub IsFrameAt : List Packet → ℕ → ℕ → ℕ → ℕ → ℕ → Type 0
IsFrameAt packets i k j e a =
    (m : Packet) × (p : InEpoch) × (slice_get packets i ≡ Some m) × (m.to ≡ j) × (m.datagram ≡ Datagram.Frame k j e a p)

-- Among these numbers, in this order, are the frames a, a + 1, .. below q from k to j.
abbrev pub Carries : List Packet → ℕ → ℕ → ℕ → ℕ → List ℕ → ℕ → Type 0
Carries packets k j e q [] a = q ≤ a
Carries packets k j e q (i ∷ is) a =
    (q ≤ a) ⊎ ((IsFrameAt packets i k j e a × Carries packets k j e q is (a + 1)) ⊎ Carries packets k j e q is a)
