-- What a world stands for.
use Rattle.std.specs.Prelude.{◌≡◌, ℕ, true, false, List, ◌++◌, Some, slice_get}
use Rattle.crsm_spec.specs.Types.{Line}
use Rattle.crsm_spec.specs.Draft.{Draft}
use Rattle.crsm_spec.specs.Replica.{Replica}
use Rattle.crsm_spec.specs.World.{Site, World as Cluster, Moment}
use Rattle.crsm_world.specs.declared.world.World.{World}
use Rattle.crsm_world.specs.declared.machines.Machines.{Machines}
use Rattle.crsm_sim_network.specs.declared.Network.{Network}
use Rattle.crsm_world.specs.Machines.{MachinesStand, MachinesPend}
use Rattle.crsm_sim_network.specs.Packets.{NetworkStands}

-- The world has the machines, the datagrams and the bytes of this one of the definitions.
pub record Holds (w : World) (v : Cluster) : Type 0 where
  pub sites : MachinesStand w.sites v.n v.sites
  pub network : NetworkStands w.network v.packets v.bytes

-- The world has the datagrams and the bytes of this one of the definitions. Its machines are these sites, where the
-- last steps of replica k, these, are neither durable nor sent.
pub record HoldsBeside (k : ℕ) (steps : List Draft) (w : World) (v : Cluster) (n : ℕ) (places : List Site) : Type 0 where
  pub sites : MachinesPend k steps w.sites n places
  pub network : NetworkStands w.network v.packets v.bytes

-- the world is what the moment leads to, and the lines are its lines
pub record Leads (m : Moment) (w : World) (lines : List Line) : Type 0 where
  pub after : Holds w m.after
  pub told : lines ≡ m.lines

-- the machines and the network are those to which the moment leads, and its lines follow those before
pub record LeadsOn (m : Moment) (sites : Machines) (network : Network) (before lines : List Line) : Type 0 where
  pub places : MachinesStand sites m.after.n m.after.sites
  pub packets : NetworkStands network m.after.packets m.after.bytes
  pub told : lines ≡ before ++ m.lines

-- The world in memory stands for this one of the definitions.
pub record StandsInside (w : World) (v : Cluster) : Type 0 where
  pub unspent : w.is_spent ≡ false
  pub holds : Holds w v

unfoldable pub WorldStands : World → Cluster → Type 0
WorldStands w v = StandsInside w v

-- memory ran out in it: nothing is promised any more
unfoldable pub IsSpent : World → Type 0
IsSpent w = w.is_spent ≡ true

-- for each replica that is up in the cluster that the world stands for, where it has number k
abbrev pub WhereUp : World → ℕ → (Replica → Type 0) → Type 0
WhereUp w k P = (v : Cluster) (r : Replica) → WorldStands w v → slice_get v.sites k ≡ Some (Site.Up r) → P r

-- for each cluster whose parts the world holds
abbrev pub WhereHolds : World → (Cluster → Type 0) → Type 0
WhereHolds w P = (v : Cluster) → Holds w v → P v

-- for each cluster that the world stands for
abbrev pub WhereStands : World → (Cluster → Type 0) → Type 0
WhereStands w P = (v : Cluster) → WorldStands w v → P v

-- for each cluster that the world holds, where replica k is up
abbrev pub WhereHeldUp : World → ℕ → (Cluster → Replica → Type 0) → Type 0
WhereHeldUp w k P = (v : Cluster) (r : Replica) → Holds w v → slice_get v.sites k ≡ Some (Site.Up r) → P v r

-- the same of some sites, where its last steps are neither kept nor out
abbrev pub WhereHeldBeside : World → ℕ → (Cluster → ℕ → List Site → Replica → List Draft → Type 0) → Type 0
WhereHeldBeside w k P =
    (v : Cluster) (n : ℕ) (places : List Site) (r : Replica) (steps : List Draft) → HoldsBeside k steps w v n places → slice_get places k ≡ Some (Site.Up r) → P v n places r steps

-- the same of whichever replica is up
abbrev pub WhereSomeUp : World → (Cluster → ℕ → Replica → Type 0) → Type 0
WhereSomeUp w P = (v : Cluster) (k : ℕ) (r : Replica) → Holds w v → slice_get v.sites k ≡ Some (Site.Up r) → P v k r
