-- The effects of an arrival at a replica, and which of them are sent and written.
use Rattle.std.specs.Prelude.{◌≡◌, ◌+◌, ◌-◌, ℕ, List, ◌++◌, length, map, take, Some, slice_get, slice_set}
use Rattle.std.specs.List.{AllByRecursion}
use Rattle.crsm_core.specs.Core.{FitsSent}
use Rattle.crsm_spec.specs.Types.{Datagram, Line}
use Rattle.crsm_spec.specs.Draft.{Draft, Reply}
use Rattle.crsm_spec.specs.Replica.{Replica}
use Rattle.crsm_spec.specs.World.{Packet, Site, World as Cluster, Moment, body_size, packet_of, packets_size, send_lines, whole_step, cut_step, down, log_of}
use Rattle.crsm_spec.specs.Moments.{silent}
use Rattle.crsm_sim_network.specs.declared.Network.{Network}
use Rattle.crsm_sim_network.specs.Packets.{AreSpelt, NetworkStands}
use Rattle.crsm_port.specs.Meaning.{Packet as Sent}
use Rattle.crsm_sim_machine.specs.declared.Step.{Step}
use Rattle.crsm_sim_machine.specs.Outcomes.{Makes}
use Rattle.crsm_world.specs.declared.ending.Effects.{Effects}
use Rattle.crsm_world.specs.declared.ending.Effects.TheVariants as effects
use Rattle.crsm_world.specs.declared.machines.Machines.{Machines}
use Rattle.crsm_world.specs.Machines.{MachinesStand}

-- The step of replica k is durable, and these datagrams and replies of it are sent. Its lines follow those before.
pub record LetsOut (before : List Line) (packets : List Packet) (bytes k : ℕ) (x : Draft) (sends : List (ℕ × Datagram)) (replies : List Reply) (network : Network) (lines : List Line) : Type 0 where
  pub stands : NetworkStands network (packets ++ map (packet_of k) sends) (bytes + body_size x.batch + packets_size sends)
  pub told : lines ≡ before ++ (((x.lines ++ x.excess) ++ send_lines k (length packets) sends) ++ map (λ a. a.line) replies)

-- the same where this number of the draft's datagrams and replies are sent, the datagrams first
abbrev pub LetsOutSome : ℕ → List Line → List Packet → (bytes k : ℕ) → Draft → Network → List Line → Type 0
LetsOutSome count before packets bytes k x network lines =
    LetsOut before packets bytes k x (take count x.sends) (take (count - length x.sends) x.replies) network lines

-- The effects lead to the moment at which they are sent, and the machines are already in that state. The datagrams were
-- sent over their port.
abbrev pub Leaves : Moment → Cluster → Effects → Machines → Type 0
Leaves m v effects.Nothing sites = (m ≡ silent v v) × MachinesStand sites v.n v.sites
Leaves m v (effects.Whole k step first) sites =
    (x : Draft) × (m ≡ whole_step v k x) × Makes step x × MachinesStand sites v.n (slice_set v.sites k (Site.Up x.replica))
    × AreSpelt step.batch.sends sites.port.sent first
Leaves m v (effects.Cut k step first count) sites =
    (x : Draft) × (m ≡ cut_step count v k x) × Makes step x × MachinesStand sites v.n (slice_set v.sites k (Site.Down x.replica.log))
    × AreSpelt (take count step.batch.sends) sites.port.sent first
Leaves m v (effects.Down k) sites =
    (p : Site) × (m ≡ down v k) × (slice_get v.sites k ≡ Some p) × MachinesStand sites v.n (slice_set v.sites k (Site.Down (log_of p)))

-- each datagram of the step has an encoding
abbrev pub FitsEffects : Effects → Type 0
FitsEffects (effects.Whole k step first) = AllByRecursion FitsSent step.batch.sends
FitsEffects (effects.Cut k step first count) = AllByRecursion FitsSent step.batch.sends
FitsEffects _ = Unit {0}

-- for a cluster whose sites the machines are, and in which replica k is up
abbrev pub WhereUpIn : Machines → ℕ → (Cluster → Replica → Type 0) → Type 0
WhereUpIn machines k P = (v : Cluster) (r : Replica) → MachinesStand machines v.n v.sites → slice_get v.sites k ≡ Some (Site.Up r) → P v r

-- for the moment to which the effects lead, from a cluster with the packets of the network, and for the machines whose
-- port has sent these
abbrev pub WhereLeft : Network → List Sent → Effects → (Moment → Machines → Type 0) → Type 0
WhereLeft network sent effects P =
    (m : Moment) (v : Cluster) (sites : Machines) → NetworkStands network v.packets v.bytes → sent ≡ sites.port.sent → Leaves m v effects sites → P m sites

-- for the packets before, and the draft of the step
abbrev pub WhereMade : Network → Step → (List Packet → ℕ → Draft → Type 0) → Type 0
WhereMade network step P = (packets : List Packet) (bytes : ℕ) (x : Draft) → NetworkStands network packets bytes → Makes step x → P packets bytes x
