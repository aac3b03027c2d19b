-- The premises of a history about the network.
use Rattle.std.specs.Prelude.{◌≡◌, ℕ, ◌<◌, ◌^◌, List, [], ◌∷◌, Some}
use Rattle.std.specs.List.{AllByRecursion}
use Rattle.crsm_base.specs.Members.{IsMembers}
use Rattle.crsm_base.specs.MessageReading.{datagram_of}
use Rattle.crsm_spec.specs.Types.{Datagram}
use Rattle.crsm_spec.specs.Lists.{Among}
use Rattle.crsm_spec.specs.Node.{Turn}
use Rattle.crsm_law_cluster.specs.Clusters.{Event, Cluster, after, unborn}

-- If the datagram names k as its receiver and another as its sender, it had been sent to k. From which address it
-- comes, how often and in which order is free.
abbrev pub WasSentTo : Cluster → ℕ → ℕ → ℕ → Datagram → Type 0
WasSentTo c k from to d = to ≡ k → (from ≡ k → ⊥) → Among c.sent (k, d)

-- The datagram was not forged: what replicas receive from replicas was sent. What clients send is arbitrary.
abbrev pub IsGenuine : Cluster → ℕ → Datagram → Type 0
IsGenuine c k (Datagram.Frame from to epoch seq payload) = WasSentTo c k from to (Datagram.Frame from to epoch seq payload)
IsGenuine c k (Datagram.Ack from to epoch next) = WasSentTo c k from to (Datagram.Ack from to epoch next)
IsGenuine c k (Datagram.Part from to boot number index count bytes) = WasSentTo c k from to (Datagram.Part from to boot number index count bytes)
IsGenuine c k (Datagram.Request command) = Unit {0}
IsGenuine c k (Datagram.Reply client number told) = Unit {0}
IsGenuine c k (Datagram.Operate members) = Unit {0}

-- the number is a byte
abbrev pub IsByte : ℕ → Type 0
IsByte b = b < 256

-- Node k can take this turn: bytes that are no forged datagram, a tick, or a suspicion with any members.
abbrev pub CanTake : Cluster → ℕ → Turn → Type 0
CanTake c k (Turn.In address bytes) = AllByRecursion IsByte bytes × ((d : Datagram) → datagram_of bytes ≡ Some d → IsGenuine c k d)
CanTake c k Turn.Tick = Unit {0}
CanTake c k (Turn.Suspect ms) = IsMembers ms

-- the event may happen in the cluster
abbrev pub MayHappen : Cluster → Event → Type 0
MayHappen c (Event.Takes k t reading) = (reading < 2 ^ 64) × CanTake c k t
MayHappen c (Event.Boots k) = Unit {0}
MayHappen c (Event.Keeps k) = Unit {0}
MayHappen c (Event.Sends k) = Unit {0}
MayHappen c (Event.Fails k) = Unit {0}
MayHappen c (Event.Stops k) = Unit {0}

-- each event may happen in the cluster that those before it led to
abbrev pub IsLawfulFrom : Cluster → List Event → Type 0
IsLawfulFrom c [] = Unit {0}
IsLawfulFrom c (e ∷ es) = MayHappen c e × IsLawfulFrom (after c e) es

-- the history of a cluster that began with n replicas is lawful
abbrev pub IsLawful : ℕ → List Event → Type 0
IsLawful n h = IsLawfulFrom (unborn n) h
