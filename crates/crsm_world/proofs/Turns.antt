-- The effects of a replica's turn.
use Rattle.std.proofs.Common.{◌≡◌, ◌≤◌, ℕ, zero, suc, true, false, cond, List, [], ◌∷◌, set, length, take, take_all, Option, Some, None, refl, ap, arith, ◌∙◌}
use Rattle.std.specs.Prelude.{slice_get, option_map}
use Rattle.std.specs.Option.{option_map_or}
use Rattle.crsm_base.specs.Messages.{datagram_bytes, FitsDatagram}
use Rattle.crsm_base.specs.MessageReading.{datagram_of}
use Rattle.crsm_base.proofs.DatagramLaws.{datagram_of-bytes}
use Rattle.crsm_replica_io.proofs.Lengths.{datagram_short}
use Rattle.crsm_spec.specs.Types.{Datagram}
use Rattle.crsm_spec.specs.Replica.{Replica}
use Rattle.crsm_spec.specs.Draft.{begun}
use Rattle.crsm_spec.specs.Step.{Input, step}
use Rattle.crsm_spec.specs.Node.{Turn, turn, input_of}
use Rattle.crsm_spec.specs.World.{Site, Packet, World, Ending, is_up, log_of, log_at}
use Rattle.crsm_spec.specs.Moments.{silent, step_at, step_at_site, junk_at, come, use_up}
use Rattle.crsm_sim_network.specs.declared.PacketView.{PacketView}
use Rattle.crsm_world.specs.Machines.{is_up_in, up_in}
use Rattle.crsm_sim_network.specs.Packets.{IsPacketView, used_up}
use Rattle.crsm_world.specs.Turning.{turn_at, turn_at_machine}

-- ---- a replica that is up, or not

-- a place where k is up with r
pub record IsUp (places : List Site) (k j : ℕ) : Type 0 where
  pub replica : Replica
  pub number : j ≡ k
  pub up : slice_get places k ≡ Some (Site.Up replica)

pub up_found : (places : List Site) (k j : ℕ) → Some j ≡ up_in places k → IsUp places k j
unfolding up_in is_up_in is_up
up_found places k j e = at (slice_get places k) refl e
  where
    at : (o : Option Site) → slice_get places k ≡ o → Some j ≡ cond (option_map_or is_up o false) (Some k) None → IsUp places k j
    at (Some (Site.Up r)) f g = record { replica = r; number = cc; up = f }
    at (Some (Site.Down log)) f g = cc
    at None f g = cc

pub turn_silent : (ends : Ending) (v : World) (k : ℕ) (t : Turn) (reading : ℕ) → None ≡ up_in v.sites k → turn_at ends v k t reading ≡ silent v v
unfolding turn_at turn_at_machine up_in is_up_in is_up
turn_silent ends v k t reading e = at (slice_get v.sites k) e
  where
    at : (o : Option Site) → None ≡ cond (option_map_or is_up o false) (Some k) None → turn_at_machine ends v k t reading o ≡ silent v v
    at (Some (Site.Up r)) g = cc
    at (Some (Site.Down log)) g = refl
    at None g = refl

pub turn_here : (ends : Ending) (v : World) (k : ℕ) (t : Turn) (reading : ℕ) (r : Replica) → slice_get v.sites k ≡ Some (Site.Up r) → turn_at ends v k t reading ≡ ends v k (turn r (t, reading))
unfolding turn_at turn_at_machine
turn_here ends v k t reading r e = ap (turn_at_machine ends v k t reading) e

-- ---- inputs

-- a datagram fits in the receive buffer
pub view_short : (m : PacketView) (p : Packet) → IsPacketView m p → take 8192 m.bytes.now ≡ m.bytes.now
view_short m p is = let long = ap length is.bytes in let short : length (datagram_bytes p.datagram) ≤ 8183 = datagram_short p.datagram is.fits in take_all 8192 m.bytes.now (omega (arith, long, short))

pub turn_datagram : (ends : Ending) (v : World) (k from : ℕ) (d : Datagram) (reading : ℕ) → FitsDatagram d → turn_at ends v k (Turn.In from (datagram_bytes d)) reading ≡ step_at ends v k (Input.Came from d) reading
unfolding turn_at turn_at_machine step_at step_at_site turn input_of
turn_datagram ends v k from d reading fits = at (slice_get v.sites k)
  where
    at : (o : Option Site) → turn_at_machine ends v k (Turn.In from (datagram_bytes d)) reading o ≡ step_at_site ends v k (Input.Came from d) reading o
    at (Some (Site.Up r)) = ap (λ i. ends v k (option_map_or (λ i. step r i reading) (option_map (Input.Came from) i) (begun r))) (datagram_of-bytes d fits)
    at (Some (Site.Down log)) = refl
    at None = refl

pub turn_tick : (ends : Ending) (v : World) (k reading : ℕ) → turn_at ends v k Turn.Tick reading ≡ step_at ends v k Input.Ticked reading
unfolding turn_at turn_at_machine step_at step_at_site turn input_of
turn_tick ends v k reading = at (slice_get v.sites k)
  where
    at : (o : Option Site) → turn_at_machine ends v k Turn.Tick reading o ≡ step_at_site ends v k Input.Ticked reading o
    at (Some (Site.Up r)) = refl
    at (Some (Site.Down log)) = refl
    at None = refl

pub turn_suspect : (ends : Ending) (v : World) (k reading : ℕ) (ms : List ℕ) → turn_at ends v k (Turn.Suspect ms) reading ≡ step_at ends v k (Input.Suspected ms) reading
unfolding turn_at turn_at_machine step_at step_at_site turn input_of
turn_suspect ends v k reading ms = at (slice_get v.sites k)
  where
    at : (o : Option Site) → turn_at_machine ends v k (Turn.Suspect ms) reading o ≡ step_at_site ends v k (Input.Suspected ms) reading o
    at (Some (Site.Up r)) = refl
    at (Some (Site.Down log)) = refl
    at None = refl

pub turn_junk : (ends : Ending) (v : World) (k from reading : ℕ) (bytes : List ℕ) → datagram_of bytes ≡ None → turn_at ends v k (Turn.In from bytes) reading ≡ junk_at ends v k (slice_get v.sites k)
unfolding turn_at turn_at_machine junk_at turn input_of
turn_junk ends v k from reading bytes none = at (slice_get v.sites k)
  where
    at : (o : Option Site) → turn_at_machine ends v k (Turn.In from bytes) reading o ≡ junk_at ends v k o
    at (Some (Site.Up r)) = ap (λ i. ends v k (option_map_or (λ i. step r i reading) (option_map (Input.Came from) i) (begun r))) none
    at (Some (Site.Down log)) = refl
    at None = refl

-- ---- datagrams that come

pub come_found : (ends : Ending) (v : World) (reading : ℕ) (m : PacketView) (p : Packet) → IsPacketView m p → turn_at ends v m.to (Turn.In m.from m.bytes.now) reading ≡ come ends v reading (Some p)
unfolding come
come_found ends v reading m p is =
    ap (λ k. turn_at ends v k (Turn.In m.from m.bytes.now) reading) is.to ∙ ap (λ a. turn_at ends v p.to (Turn.In a m.bytes.now) reading) is.from
    ∙ ap (λ b. turn_at ends v p.to (Turn.In p.from b) reading) is.bytes ∙ turn_datagram ends v p.to p.from p.datagram reading is.fits

pub come_missed : (ends : Ending) (v : World) (reading : ℕ) → come ends v reading None ≡ silent v v
unfolding come
come_missed ends v reading = refl

-- whether it was used makes no difference
come_same : (ends : Ending) (v : World) (reading : ℕ) (o : Option Packet) → come ends v reading (option_map {T = Packet} (λ m. record m { used = true }) o) ≡ come ends v reading o
unfolding come
come_same ends v reading None = refl
come_same ends v reading (Some m) = refl

get_used : (packets : List Packet) (i : ℕ) → slice_get (used_up i packets) i ≡ option_map {T = Packet} (λ m. record m { used = true }) (slice_get packets i)
unfolding used_up
get_used [] i = refl
get_used (m ∷ packets) zero = refl
get_used (m ∷ packets) (suc i) = at (slice_get packets i) refl (get_used packets i)
  where
    at : (o : Option Packet) → slice_get packets i ≡ o → slice_get (option_map_or (λ p. set packets i (record p { used = true })) (slice_get packets i) packets) i ≡ option_map {T = Packet} (λ m. record m { used = true }) (slice_get packets i)
        → slice_get (option_map_or (λ p. m ∷ set packets i (record p { used = true })) o (m ∷ packets)) (suc i) ≡ option_map {T = Packet} (λ m. record m { used = true }) o
    at (Some p) e f = (rw e at f)
    at None e f = e

pub come_used : (ends : Ending) (v : World) (reading i : ℕ) → come ends (use_up i v) reading (slice_get (use_up i v).packets i) ≡ come ends (use_up i v) reading (slice_get v.packets i)
unfolding use_up used_up
come_used ends v reading i = ap (come ends (use_up i v) reading) (get_used v.packets i) ∙ come_same ends (use_up i v) reading (slice_get v.packets i)

-- ---- a machine that was set twice

pub set_twice : (ps : List Site) (k : ℕ) (a b : Site) → set (set ps k a) k b ≡ set ps k b
set_twice [] k a b = refl
set_twice (p ∷ ps) zero a b = refl
set_twice (p ∷ ps) (suc k) a b = ap (λ qs. p ∷ qs) (set_twice ps k a b)

pub get_set : (ps : List Site) (k : ℕ) (a p : Site) → slice_get ps k ≡ Some p → slice_get (set ps k a) k ≡ Some a
get_set [] k a p e = cc
get_set (q ∷ ps) zero a p e = refl
get_set (q ∷ ps) (suc k) a p e = get_set ps k a p e

pub log_here : (v : World) (k : ℕ) (p : Site) → slice_get v.sites k ≡ Some p → log_at v k ≡ log_of p
unfolding log_at
log_here v k p e = ap (λ o. option_map_or log_of o []) e
