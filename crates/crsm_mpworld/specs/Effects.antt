-- The effects of an input at a replica, and which of them are sent and written.
use Rattle.std.specs.Prelude.{◌≡◌, ◌+◌, ◌-◌, ℕ, List, ◌++◌, length, map, take, Some, slice_get, slice_set}
use Rattle.std.specs.List.{AllByRecursion}
use Rattle.crsm_mpspec.specs.declared.line.MpLine.{MpLine}
use Rattle.crsm_mpspec.specs.declared.message.MpMessage.{MpMessage}
use Rattle.crsm_mpspec.specs.Draft.{Draft}
use Rattle.crsm_mpspec.specs.Moments.{silent, go_each, world_after, lines_of}
use Rattle.crsm_mpspec.specs.Replica.{Replica}
use Rattle.crsm_mpspec.specs.World.{Packet, Site, World, Moment, Ending, body_size, packet_of, send_lines, whole_step, cut_step, lost_step, down, log_of}
use Rattle.crsm_mpworld.specs.declared.ending.MpEffects.{MpEffects}
use Rattle.crsm_mpworld.specs.declared.ending.MpEffects.TheVariants as effects
use Rattle.crsm_mpworld.specs.declared.ending.MpEnding.{MpEnding as EndingInMemory}
use Rattle.crsm_mpworld.specs.declared.ending.MpEnding.TheVariants as endings
use Rattle.crsm_mpworld.specs.declared.network.MpNetwork.{MpNetwork}
use Rattle.crsm_mpworld.specs.declared.site.MpStep.{MpStep}
use Rattle.crsm_mpworld.specs.declared.sites.Sites.{Sites}
use Rattle.crsm_mpworld.specs.declared.world.MpWorld.{MpWorld}
use Rattle.crsm_mpworld.specs.Fits.{FitsSend}
use Rattle.crsm_mpworld.specs.Packets.{MpNetworkStands}
use Rattle.crsm_mpworld.specs.Sites.{Makes, StandFor}

-- the ending of the step in the definitions
unfoldable pub ending_of : EndingInMemory → Ending
ending_of endings.Whole = whole_step
ending_of (endings.Kept sends) = cut_step sends
ending_of endings.Lost = lost_step

-- ---- what goes out

-- the message to each of these replicas
abbrev pub to_each : MpMessage → List ℕ → List (ℕ × MpMessage)
to_each m receivers = map (λ to. (to, m)) receivers

-- Replica k has sent these messages: they follow the packets, and their lines follow those before.
pub record HasSent (k : ℕ) (sends : List (ℕ × MpMessage)) (packets : List Packet) (bytes : ℕ) (before : List MpLine) (network : MpNetwork) (lines : List MpLine) : Type 0 where
  pub stands : MpNetworkStands network (packets ++ map (packet_of k) sends) bytes
  pub told : lines ≡ before ++ send_lines k (length packets) sends

-- The step of replica k is durable, and these messages and replies of it are sent. Its lines follow those before.
pub record LetsOut (before : List MpLine) (packets : List Packet) (bytes k : ℕ) (x : Draft) (sends : List (ℕ × MpMessage)) (replies : List MpLine) (network : MpNetwork) (lines : List MpLine) : Type 0 where
  pub stands : MpNetworkStands network (packets ++ map (packet_of k) sends) (bytes + body_size x.batch)
  pub told : lines ≡ before ++ ((x.lines ++ send_lines k (length packets) sends) ++ replies)

-- the same where this number of the draft's messages and replies are sent, the messages first
abbrev pub LetsOutSome : ℕ → List MpLine → List Packet → (bytes k : ℕ) → Draft → MpNetwork → List MpLine → Type 0
LetsOutSome count before packets bytes k x network lines =
    LetsOut before packets bytes k x (take count x.sends) (take (count - length x.sends) x.replies) network lines

-- for the packets and the count of bytes before, and the draft of the step
abbrev pub WhereMade : MpNetwork → MpStep → (List Packet → ℕ → Draft → Type 0) → Type 0
WhereMade network step P =
    (packets : List Packet) (bytes : ℕ) (x : Draft) → MpNetworkStands network packets bytes → Makes step x → P packets bytes x

-- ---- what is left of a step

-- The effects of this step lead to the moment at which they are sent, and the sites are already in that state.
abbrev pub Leaves : Moment → World → MpEffects → MpStep → Sites → Type 0
Leaves m v effects.Nothing step sites = (m ≡ silent v v) × StandFor sites v.n v.sites
Leaves m v (effects.Whole k) step sites =
    (x : Draft) × (m ≡ whole_step v k x) × Makes step x × StandFor sites v.n (slice_set v.sites k (Site.Up x.replica))
Leaves m v (effects.Cut k count) step sites =
    (x : Draft) × (m ≡ cut_step count v k x) × Makes step x × StandFor sites v.n (slice_set v.sites k (Site.Down x.replica.log))
Leaves m v (effects.Down k) step sites =
    (p : Site) × (m ≡ down v k) × (slice_get v.sites k ≡ Some p) × StandFor sites v.n (slice_set v.sites k (Site.Down (log_of p)))

-- each message of the step has an encoding
abbrev pub FitsEffects : MpEffects → MpStep → Type 0
FitsEffects (effects.Whole k) step = AllByRecursion FitsSend step.batch.sends
FitsEffects (effects.Cut k count) step = AllByRecursion FitsSend step.batch.sends
FitsEffects _ step = Unit {0}

-- for a world of the definitions that has these sites
abbrev pub WhereSites : Sites → (World → Type 0) → Type 0
WhereSites sites P = (v : World) → StandFor sites v.n v.sites → P v

-- and in which replica k is up
abbrev pub WhereUpIn : Sites → ℕ → (World → Replica → Type 0) → Type 0
WhereUpIn sites k P = (v : World) (r : Replica) → StandFor sites v.n v.sites → slice_get v.sites k ≡ Some (Site.Up r) → P v r

-- for the moment to which the effects lead, from a world with the packets of the network, and for the sites that are as
-- then
abbrev pub WhereLeft : MpNetwork → MpEffects → MpStep → (Moment → World → Sites → Type 0) → Type 0
WhereLeft network effects step P =
    (m : Moment) (v : World) (sites : Sites) → MpNetworkStands network v.packets v.bytes → Leaves m v effects step sites → P m v sites

-- ---- what an event comes to

-- these are delivered, each by itself, up to where the world is full
unfoldable pub each_gone : ℕ → List ℕ → World → Moment
each_gone t is w =
    let ms = go_each t is w in record { before = w; after = world_after w ms; lines = lines_of ms }

-- the moment leads to a world of n replicas with these sites and this network, and its lines follow those before
pub record LeadsOn (m : Moment) (n : ℕ) (sites : Sites) (network : MpNetwork) (before lines : List MpLine) : Type 0 where
  pub count : n ≡ m.after.n
  pub places : StandFor sites m.after.n m.after.sites
  pub packets : MpNetworkStands network m.after.packets m.after.bytes
  pub told : lines ≡ before ++ m.lines

-- the same of a world in memory
abbrev pub WorldLeadsOn : Moment → MpWorld → (before lines : List MpLine) → Type 0
WorldLeadsOn m w before lines = LeadsOn m w.n w.sites w.network before lines
