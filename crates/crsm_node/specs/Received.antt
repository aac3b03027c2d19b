-- The readings and inputs that turns take from a clock and a port.
use Rattle.std.specs.Prelude.{◌≡◌, ℕ, List, [], ◌∷◌, ◌++◌, map, take, Option, Some, None}
use Rattle.std.specs.List.{flat_map}
use Rattle.crsm_spec.specs.Node.{Turn}
use Rattle.crsm_clock.specs.Readings.{Gives, Readings}
use Rattle.crsm_port.specs.Meaning.{Framing, Packet, Traffic}

-- ---- the clock

abbrev pub readings_of : List (Turn × ℕ) → List ℕ
readings_of turns = map (λ t. t.1) turns

-- these readings are given, one behind another
unfoldable pub GivesAll : List ℕ → Option Readings → Option Readings → Type 0
GivesAll [] before after = after ≡ before
GivesAll (reading ∷ readings) before after = (between : Option Readings) × Gives before between reading × GivesAll readings between after

-- ---- the port

-- the datagram that a turn takes, with the address that it came from
abbrev pub datagram_in : Turn → List Packet
datagram_in (Turn.In address bytes) = (record { address = address; bytes = bytes }) ∷ []
datagram_in Turn.Tick = []
datagram_in (Turn.Suspect members) = []

unfoldable pub datagrams_in : List (Turn × ℕ) → List Packet
datagrams_in turns = flat_map (λ t. datagram_in t.0) turns

-- a datagram as it is received: what its framing leaves of it, cut to a buffer
abbrev pub received : Framing → Packet → Packet
received framing d = record (framing.unwrap d) { bytes = take 8192 (framing.unwrap d).bytes }

-- These datagrams were taken, in order, as they are received, and those were sent.
pub record Passes (framing : Framing) (took gone : List Packet) (old new : Traffic) : Type 0 where
  pub came : List Packet
  pub waited : old.waiting ≡ came ++ new.waiting
  pub told : new.taken ≡ old.taken ++ came
  pub are : took ≡ map (received framing) came
  pub out : new.sent ≡ old.sent ++ map framing.wrap gone

-- a relation of a port's traffic before and after, if it is specified
abbrev pub BothTell : (Traffic → Traffic → Type 0) → Option Traffic → Option Traffic → Type 0
BothTell R None None = Unit {0}
BothTell R None (Some new) = ⊥
BothTell R (Some old) None = ⊥
BothTell R (Some old) (Some new) = R old new
