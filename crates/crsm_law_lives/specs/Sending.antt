-- The datagrams and replies that a process sends, and those of a history.
use Rattle.std.specs.Prelude.{ℕ, ◌==◌, List, [], ◌∷◌, ◌++◌, if◌then◌else◌, option_to_list}
use Rattle.std.specs.List.{flat_map}
use Rattle.crsm_spec.specs.Replica.{Replica}
use Rattle.crsm_spec.specs.Step.{boot}
use Rattle.crsm_spec.specs.Node.{Turn, outputs_from}
use Rattle.crsm_spec_process.specs.Lives.{Group, HaveFates, Life, before_last}
use Rattle.crsm_spec_process.specs.Turns.{gone, replica_after}
use Rattle.crsm_law_cluster.specs.Clusters.{Event, Outgoing, outgoing_of, Cluster, next_out, after}

-- ---- of a process

-- the datagrams and replies of turns, in order
unfoldable pub handed_by : Replica → List (Turn × ℕ) → List Outgoing
handed_by r turns = flat_map outgoing_of (outputs_from r turns)

-- those that are sent of groups, from this state on
unfoldable pub sent_from : Replica → List Group → List Outgoing
sent_from r [] = []
sent_from r (g ∷ groups) = gone (handed_by r g.turns) g.fates ++ sent_from (replica_after r g.turns) groups

-- the datagrams and replies that a process sends, in a cluster that began with n replicas
unfoldable pub sent_by : ℕ → Life → List Outgoing
sent_by n l = sent_from (boot l.me n l.found).replica l.groups

-- Each datagram and reply of a group was sent or failed before the next group is kept; the process may end within the
-- last.
abbrev pub HasFates : ℕ → Life → Type 0
HasFates n l = HaveFates handed_by (boot l.me n l.found).replica (before_last l.groups)

-- ---- of a history

-- the datagram or reply that an event sends at the node of replica k
unfoldable pub out_at : ℕ → Cluster → Event → List Outgoing
out_at k c (Event.Sends j) = if j == k then option_to_list (next_out c k) else []
out_at k c _ = []

-- those sent at the node of replica k, from a cluster on
unfoldable pub outs_from : ℕ → Cluster → List Event → List Outgoing
outs_from k c [] = []
outs_from k c (e ∷ es) = out_at k c e ++ outs_from k (after c e) es
