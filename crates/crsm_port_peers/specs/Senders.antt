-- The sender of a datagram, by its bytes and by the address that it came from.
use Rattle.std.specs.Prelude.{◌≡◌, ◌↔◌, ◌⊎◌, ℕ, min, List, [], ◌∷◌, ◌++◌, drop, length, take, Option, Some, None, IsSome, ◌&&◌, if◌then◌else◌, slice_get, nat_eq, nat_le}
use Rattle.crsm_port.specs.Meaning.{Framing, Meaning, Packet, Traffic}
use Rattle.crsm_port.specs.Passing.{Datagrams}
use Rattle.crsm_port.specs.Unknown.{unknown}
use Rattle.crsm_wire.specs.Marks.{behind_any_mark, named_sender}
use Rattle.crsm_port.specs.declared.port.Recv.{Recv}
use Rattle.crsm_port.specs.declared.port.Recv.TheVariants.{Nothing, Datagram}

-- the bytes may come from this address: they name nobody, or the replica with this address
abbrev pub SpeaksForItself : List ℕ → (address : ℕ) → List ℕ → Type 0
SpeaksForItself peers address bytes = (k : ℕ) → named_sender (behind_any_mark bytes) ≡ Some k → slice_get peers k ≡ Some address

-- the datagram that is returned may come from its address
abbrev pub IsOwn : List ℕ → List ℕ → Recv → Type 0
IsOwn peers buffer Nothing = Unit {0}
IsOwn peers buffer (Datagram from len) = SpeaksForItself peers from (take len buffer)

-- the datagrams that a port gives, where the port below gives these: those that may come from their address, and no
-- bytes in place of any other
abbrev pub own_of : List ℕ → Datagrams → Datagrams
own_of peers D address bytes = (bytes ≡ []) ⊎ (SpeaksForItself peers address bytes × D address bytes)

-- ---- received datagrams

-- A datagram is returned whole, as far as the buffer holds it, if its bytes may come from its address, and otherwise
-- without bytes.
pub record HandsUp (peers : List ℕ) (d : Packet) (room : ℕ) (buffer : List ℕ) (from len : ℕ) : Type 0 where
  pub address : from ≡ d.address
  pub own : SpeaksForItself peers d.address (take room d.bytes) → (len ≡ min room (length d.bytes)) × (take len buffer ≡ take room d.bytes)
  pub foreign : (SpeaksForItself peers d.address (take room d.bytes) → ⊥) → len ≡ 0

-- The inner port receives the first waiting datagram, and that is the one returned; or none waits.
abbrev pub IsFirst : List ℕ → Framing → ℕ → Traffic → Traffic → List ℕ → Recv → Type 0
IsFirst peers framing room t u buffer Nothing = (t.waiting ≡ []) × (u ≡ t)
IsFirst peers framing room t u buffer (Datagram from len) = (d : Packet) × (rest : List Packet) × (t.waiting ≡ d ∷ rest)
    × (u ≡ record t { waiting = rest; taken = t.taken ++ d ∷ [] })
    × HandsUp peers (framing.unwrap d) room buffer from len

-- the same, where the inner port specifies its traffic, which it does after the receive if and only if it did before
pub record IsOfFirst (peers : List ℕ) (old new : Meaning) (room : ℕ) (buffer : List ℕ) (got : Recv) : Type 0 where
  pub told : IsSome old.traffic ↔ IsSome new.traffic
  pub first : (t u : Traffic) → old.traffic ≡ Some t → new.traffic ≡ Some u → IsFirst peers old.framing room t u buffer got

-- the counters of a port, and nothing else of it
abbrev pub counts_of : Meaning → Meaning
counts_of m = unknown m.faults m.losses m.empties
