-- The datagrams that a running node hands to its port, whether their sends succeed or fail, as bytes on the wire.
use Rattle.std.specs.Prelude.{◌≡◌, ◌⊎◌, ℕ, List, ◌++◌, Some}
use Rattle.crsm_base.specs.Messages.{datagram_bytes}
use Rattle.crsm_wire.specs.Marks.{mark_in}
use Rattle.crsm_spec.specs.Types.{Datagram}
use Rattle.crsm_law_cluster.specs.Clusters.{Event, Outgoing, Cluster, next_out}
use Rattle.crsm_law_cluster.specs.Going.{IsAt}

-- the event is a send at the node of replica k, or one that fails: of that a part may have been sent
abbrev pub IsSendAt : ℕ → Event → Type 0
IsSendAt k e = (e ≡ Event.Sends k) ⊎ (e ≡ Event.Fails k)

-- at some event the node of replica k hands this datagram or reply to its port
abbrev pub IsHanded : ℕ → List Event → ℕ → Outgoing → Type 0
IsHanded n h k o = (i : ℕ) × (c : Cluster) × (e : Event) × IsAt n h i c e × IsSendAt k e × (next_out c k ≡ Some o)

-- the datagram that it is
abbrev pub datagram_in : Outgoing → Datagram
datagram_in (Outgoing.ToReplica to d) = d
datagram_in (Outgoing.ToClient a) = Datagram.Reply a.client a.number a.says

-- its bytes on the wire, in the cluster of this number
abbrev pub bytes_in : ℕ → Outgoing → List ℕ
bytes_in cluster o = mark_in cluster ++ datagram_bytes (datagram_in o)
