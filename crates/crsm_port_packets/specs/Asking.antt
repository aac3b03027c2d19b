-- What the port below is asked until a datagram goes up.
use Rattle.std.specs.Prelude.{◌≡◌, ◌⊎◌, ◌≤◌, ℕ, zero, suc, List, take, true, Option, Some, None, Result, Ok, Err}
use Rattle.crsm_base.specs.declared.memory.Failed.{Failed}
use Rattle.crsm_port.specs.Meaning.{Meaning, Receives}
use Rattle.crsm_port.specs.declared.port.Recv.{Recv}
use Rattle.crsm_port.specs.declared.port.Recv.TheVariants.{Nothing, Datagram}
use Rattle.crsm_port_packets.specs.Format.{is_packed}
use Rattle.crsm_port_packets.specs.Receiving.{IsAsItIs, IsOpenedOf, NoneLeft, TakesNext}
use Rattle.crsm_port_packets.specs.declared.packets.PacketsPort.{PacketsPort}
use Rattle.crsm_port_packets.specs.declared.received.Received.{Received}

-- the port below, and what was received
pub record Taker : Type 0 where
  pub below : Meaning
  pub held : Received

abbrev pub taker_of : {P C : Type 0} → Meaning → PacketsPort P C → Taker
taker_of below p = record { below = below; held = p.received }

-- the port below is asked, and answers this
abbrev pub Answers : Result Recv Failed → Meaning → Meaning → Type 0
Answers answer old new = (before after : List ℕ) × Receives old new before after answer

-- no datagram of a bundle is left, and the port below hands up a packet that gives none yet, at this reading: a bundle, or a fragment
abbrev pub PacketComes : List ℕ → (now : ℕ) → Taker → Taker → Type 0
PacketComes addresses now old new =
    (before room : List ℕ) × (from len : ℕ) × NoneLeft old.held.unpacking × Receives old.below new.below before room (Ok (Datagram from len))
    × (is_packed (take len room) ≡ true) × IsOpenedOf addresses from now (take len room) old.held new.held

-- it hands up so many
abbrev pub PacketsCome : List ℕ → (now : ℕ) → ℕ → Taker → Taker → Type 0
PacketsCome addresses now zero old new = new ≡ old
PacketsCome addresses now (suc n) old new = (between : Taker) × PacketsCome addresses now n old between × PacketComes addresses now between new

-- no datagram of a bundle is left, and the port below hands up a packet whose datagram goes up
abbrev pub PacketGoesUp : (most : ℕ) → List ℕ → Taker → Taker → Recv → Type 0
PacketGoesUp most after old new got =
    (before room : List ℕ) × (from len : ℕ) × NoneLeft old.held.unpacking × Receives old.below new.below before room (Ok (Datagram from len)) × IsAsItIs from (take len room) most after got

-- the next datagram of a bundle goes up, and the port below is not asked
abbrev pub NextGoesUp : (most : ℕ) → List ℕ → Taker → Taker → Recv → Type 0
NextGoesUp most after old new got = (new.below ≡ old.below) × TakesNext old.held.unpacking new.held.unpacking most after got

-- one question: the next datagram of a bundle goes up; or the port below is asked, and answers so, or hands up a packet
abbrev pub Asks : List ℕ → (now most : ℕ) → List ℕ → Taker → Taker → Result (Option Recv) Failed → Type 0
Asks addresses now most after old new (Ok None) = PacketComes addresses now old new
Asks addresses now most after old new (Ok (Some Nothing)) = NoneLeft old.held.unpacking × Answers (Ok Nothing) old.below new.below
Asks addresses now most after old new (Ok (Some (Datagram from len))) = NextGoesUp most after old new (Datagram from len) ⊎ PacketGoesUp most after old new (Datagram from len)
Asks addresses now most after old new (Err e) = NoneLeft old.held.unpacking × Answers (Err e) old.below new.below

-- a receive: after packets that give no datagram yet it ends with a datagram that goes up, or with none where the port below has none or 64 came, or as failed where the port below fails
abbrev pub AsksUntil : List ℕ → (now most : ℕ) → List ℕ → Taker → Taker → Result Recv Failed → Type 0
AsksUntil addresses now most after old new (Ok Nothing) = (n : ℕ) × (last : Taker) × PacketsCome addresses now n old last × ((NoneLeft last.held.unpacking × Answers (Ok Nothing) last.below new.below) ⊎ ((new ≡ last) × (64 ≤ n)))
AsksUntil addresses now most after old new (Ok (Datagram from len)) = (n : ℕ) × (last : Taker) × PacketsCome addresses now n old last × Asks addresses now most after last new (Ok (Some (Datagram from len)))
AsksUntil addresses now most after old new (Err e) = (n : ℕ) × (last : Taker) × PacketsCome addresses now n old last × Asks addresses now most after last new (Err e)
