-- The premise about the network for nodes that accept a replica's datagrams from that replica's address only.
use Rattle.std.specs.Prelude.{◌≡◌, ℕ, List, Some, slice_get}
use Rattle.std.specs.List.{AllByRecursion}
use Rattle.crsm_base.specs.MessageReading.{datagram_of}
use Rattle.crsm_spec.specs.Types.{Datagram}
use Rattle.crsm_spec.specs.Node.{Turn}
use Rattle.crsm_wire.specs.Marks.{named_sender}
use Rattle.crsm_spec_process.specs.Lives.{Life}
use Rattle.crsm_law_cluster.specs.Clusters.{Event, Cluster}
use Rattle.crsm_law_cluster.specs.Going.{IsAt}
use Rattle.crsm_law_lives.specs.Events.{AreEventsOf}
use Rattle.crsm_law_lives.specs.Premises.{IsProcess, DisksKeep, WasSentBy, Ran}

-- the datagram names this sender and this receiver
abbrev pub IsFromTo : ℕ → ℕ → Datagram → Type 0
IsFromTo j k (Datagram.Frame from to epoch seq payload) = (from ≡ j) × (to ≡ k)
IsFromTo j k (Datagram.Ack from to epoch next) = (from ≡ j) × (to ≡ k)
IsFromTo j k (Datagram.Part from to boot number index count bytes) = (from ≡ j) × (to ≡ k)
IsFromTo j k (Datagram.Request command) = ⊥
IsFromTo j k (Datagram.Reply client number told) = ⊥
IsFromTo j k (Datagram.Operate members) = ⊥

-- A datagram that a node receives and that names a replica as its sender comes from the address of that replica.
abbrev pub AreOwn : List ℕ → List Event → Type 0
AreOwn peers h =
    (i k address reading : ℕ) (bytes : List ℕ) → slice_get h i ≡ Some (Event.Takes k (Turn.In address bytes) reading) →
    (j : ℕ) → named_sender bytes ≡ Some j → slice_get peers j ≡ Some address

-- Nobody but its node sends from a replica's address: a datagram from there that names that replica as its sender and k
-- as its receiver had been sent to k by it.
abbrev pub NobodyBorrows : List ℕ → ℕ → List Event → Type 0
NobodyBorrows peers n h =
    (i j k address reading : ℕ) (bytes : List ℕ) (c : Cluster) (d : Datagram) →
    IsAt n h i c (Event.Takes k (Turn.In address bytes) reading) → slice_get peers j ≡ Some address →
    datagram_of bytes ≡ Some d → IsFromTo j k d → WasSentBy n h i j k d

-- It suffices that addresses are not forged, if datagrams that name a sender are accepted from its address only.
abbrev pub AddressesSuffice : Type 0
AddressesSuffice =
    (n : ℕ) (ls : List Life) (h : List Event) (peers : List ℕ) →
    AreEventsOf ls h → AllByRecursion IsProcess ls → DisksKeep n ls → AreOwn peers h → NobodyBorrows peers n h → Ran n ls h
