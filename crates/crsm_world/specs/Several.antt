-- Several deliveries as one change.
use Rattle.std.specs.Prelude.{◌≡◌, ℕ, List, [], ◌∷◌, ◌++◌, map, MatchOption, Some, slice_get, slice_set}
use Rattle.std.specs.List.{AllByRecursion}
use Rattle.crsm_core.specs.Core.{FitsSent}
use Rattle.crsm_sim_machine.specs.Outcomes.{Makes, Sends}
use Rattle.crsm_sim_network.specs.Packets.{NetworkStands}
use Rattle.crsm_spec.specs.Acts.{Single}
use Rattle.crsm_spec.specs.Draft.{Draft}
use Rattle.crsm_spec.specs.Replica.{Replica}
use Rattle.crsm_spec.specs.Step.{Input, step}
use Rattle.crsm_spec.specs.World.{Packet, Site, World, Moment, whole_step}
use Rattle.crsm_spec.specs.Moments.{begun_at, go_each, go_all, lines_of, single, use_up, world_after}
use Rattle.crsm_world.specs.declared.groups.DeliveredStep.{DeliveredStep}
use Rattle.crsm_world.specs.declared.world.World.{World as WorldInMemory}
use Rattle.crsm_world.specs.Machines.{MachinesStand}
use Rattle.crsm_world.specs.World.{HoldsBeside}

-- datagram i was sent to k
pub record IsFor (k : ℕ) (packets : List Packet) (i : ℕ) : Type 0 where
  pub found : Packet
  pub is : slice_get packets i ≡ Some found
  pub receiver : found.to ≡ k

abbrev pub AreFor : ℕ → List Packet → List ℕ → Type 0
AreFor k packets is = AllByRecursion (IsFor k packets) is

-- these moments as one
unfoldable pub together : World → List Moment → Moment
together w ms = record { before = w; after = world_after w ms; lines = lines_of ms }

-- these are delivered, each by itself, up to where the world is full
unfoldable pub each_gone : ℕ → List ℕ → World → Moment
each_gone t is w = together w (go_each t is w)

-- these are delivered together
unfoldable pub all_gone : ℕ → List ℕ → World → Moment
all_gone t is w = together w (go_all t is w)

-- ---- steps of one replica that are kept together

-- the delivery of datagram i
abbrev pub gone : ℕ → ℕ → World → Moment
gone t i w = single whole_step w (Single.Go i t)

-- the step of a datagram delivered to r
abbrev pub step_of : Replica → Packet → ℕ → Draft
step_of r p t = step r (Input.Came p.from p.datagram) t

abbrev pub number_of : DeliveredStep → ℕ
number_of a = a.number

-- each output of the step has an encoding
abbrev pub FitsTaken : DeliveredStep → Type 0
FitsTaken a = AllByRecursion FitsSent a.step.batch.sends

-- These were delivered to k one behind the other, by these steps, from world v to world u.
abbrev pub Runs : (k t : ℕ) → World → List DeliveredStep → List Draft → World → Type 0
Runs k t v [] [] u = u ≡ v
Runs k t v (a ∷ taken) (x ∷ steps) u =
    (gone t a.number v ≡ begun_at v (whole_step (use_up a.number v) k x)) × Makes a.step x × Runs k t (gone t a.number v).after taken steps u
Runs k t v [] (x ∷ steps) u = ⊥
Runs k t v (a ∷ taken) [] u = ⊥

-- datagram i is this one, used or not
pub record IsStill (p : Packet) (packets : List Packet) (i : ℕ) : Type 0 where
  pub found : Packet
  pub is : slice_get packets i ≡ Some found
  pub from : found.from ≡ p.from
  pub to : found.to ≡ p.to
  pub datagram : found.datagram ≡ p.datagram

-- each datagram of the first list is still there in the second
abbrev pub AreStill : List Packet → List Packet → Type 0
AreStill packets more = (i : ℕ) (p : Packet) → slice_get packets i ≡ Some p → IsStill p more i

-- Replica k has taken these, which are neither kept nor out.
pub record TookAll (k t : ℕ) (v : World) (is : List ℕ) (w : WorldInMemory) (taken : List DeliveredStep) : Type 0 where
  pub now : World
  pub replica : Replica
  pub steps : List Draft
  pub runs : Runs k t v taken steps now
  pub numbers : map number_of taken ≡ is
  pub up : slice_get now.sites k ≡ Some (Site.Up replica)
  pub held : HoldsBeside k steps w v now.n now.sites
  pub still : AreStill v.packets now.packets

-- Datagram i of v is delivered to r after other steps, and its step, which is neither durable nor sent, is behind those
-- before. Nothing happens if it was not sent.
abbrev pub TakesOne : (k t i : ℕ) → WorldInMemory → (before after : List DeliveredStep) → World → ℕ → List Site → Replica → List Draft → Type 0
TakesOne k t i w before after v n places r steps =
    MatchOption (slice_get v.packets i) ((after ≡ before) × HoldsBeside k steps w v n places) (λ p. (a : DeliveredStep) × (after ≡ before ++ a ∷ []) × (a.number ≡ i)
    × Makes a.step (step_of r p t) × HoldsBeside k (steps ++ step_of r p t ∷ []) w v n (slice_set places k (Site.Up (step_of r p t).replica)))

-- for whatever replica k has taken from world v on, and has kept and sent from this place on
abbrev pub WhereTaken : WorldInMemory → ℕ → List DeliveredStep → ℕ → (ℕ → World → Type 0) → Type 0
WhereTaken w k taken first P = (t : ℕ) (v now : World) (steps : List Draft) → NetworkStands w.network v.packets v.bytes → Runs k t v taken steps now →
    MachinesStand w.sites now.n now.sites → Sends w.sites.port first steps → P t v
