-- The laws of what is cut, each of every lawful history of a cluster that began with at most 15 replicas.
use Rattle.std.specs.Prelude.{ℕ, ◌<◌, ◌≤◌, List, ◌++◌, length}
use Rattle.crsm_base.specs.Messages.{FitsDatagram, datagram_bytes}
use Rattle.crsm_spec.specs.Types.{Datagram}
use Rattle.crsm_wire.specs.Marks.{mark_in}
use Rattle.crsm_law_cluster.specs.Clusters.{Event, Outgoing}
use Rattle.crsm_law_cluster.specs.ClusterLaws.{IsHistory}
use Rattle.crsm_law_parts.specs.Handed.{IsHanded, bytes_in, datagram_in}
use Rattle.crsm_law_parts.specs.Cuts.{AreApart, cuts_of, most_whole}

-- the datagram is a part of a control message
abbrev pub IsPart : Datagram → Type 0
IsPart (Datagram.Part from to boot number index count bytes) = Unit {0}
IsPart _ = ⊥

-- Every datagram that has an encoding and is no part is no longer than a packet, with the mark of any cluster.
abbrev pub OthersAreShort : Type 0
OthersAreShort =
    (cluster : ℕ) (d : Datagram) → FitsDatagram d → (IsPart d → ⊥) →
    length (mark_in cluster ++ datagram_bytes d) ≤ most_whole

-- Of what nodes hand out only parts of control messages are cut: frames, acknowledgements and replies are shorter.
abbrev pub OnlyPartsAreCut : Type 0
OnlyPartsAreCut =
    (n : ℕ) (h : List Event) → IsHistory n h → (cluster k : ℕ) (o : Outgoing) → IsHanded n h k o →
    most_whole < length (bytes_in cluster o) → IsPart (datagram_in o)

-- What is cut has names of its own, over all processes of each node, whatever was lost, repeated, killed and
-- restarted.
abbrev pub CutsAreApart : Type 0
CutsAreApart =
    (n : ℕ) (h : List Event) → IsHistory n h → (cluster : ℕ) (peers : List ℕ) → AreApart (cuts_of n h cluster peers)
