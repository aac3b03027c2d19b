-- The events of nodes' processes, as they are in a history.
use Rattle.std.specs.Prelude.{◌≡◌, ℕ, ◌==◌, Bool, List, [], ◌∷◌, ◌++◌, map, filter, if◌then◌else◌}
use Rattle.std.specs.List.{flat_map}
use Rattle.crsm_spec.specs.Log.{Log}
use Rattle.crsm_spec.specs.Step.{boot}
use Rattle.crsm_spec.specs.Node.{Turn}
use Rattle.crsm_spec_process.specs.Lives.{Group, Life, kept_turns}
use Rattle.crsm_spec_process.specs.Turns.{replica_after}
use Rattle.crsm_law_cluster.specs.Clusters.{Event}

-- ---- one process

unfoldable pub take_events : ℕ → List (Turn × ℕ) → List Event
take_events k turns = map (λ t. Event.Takes k t.0 t.1) turns

-- the datagrams and replies of a group are sent or fail to be, in order
unfoldable pub fate_events : ℕ → List Bool → List Event
fate_events k fates = map (λ fate. if fate then Event.Sends k else Event.Fails k) fates

-- a group: its turns are taken, kept together, and then their datagrams and replies are sent
unfoldable pub group_events : ℕ → Group → List Event
group_events k g = take_events k g.turns ++ Event.Keeps k ∷ fate_events k g.fates

-- a process boots, keeps its groups, takes the turns that it does not keep, and ends
unfoldable pub life_events : Life → List Event
life_events l =
    Event.Boots l.me ∷ flat_map (group_events l.me) l.groups ++ take_events l.me l.lost ++ (if l.ended then Event.Stops l.me ∷ [] else [])

-- the log that a process leaves behind, in a cluster that began with n replicas
unfoldable pub left_by : ℕ → Life → Log
left_by n l = (replica_after (boot l.me n l.found).replica (kept_turns l.groups)).log

-- ---- all processes

unfoldable pub node_of : Event → ℕ
node_of (Event.Boots k) = k
node_of (Event.Takes k t reading) = k
node_of (Event.Keeps k) = k
node_of (Event.Sends k) = k
node_of (Event.Fails k) = k
node_of (Event.Stops k) = k

-- the events of replica k's node
unfoldable pub events_of : ℕ → List Event → List Event
events_of k h = filter (λ e. node_of e == k) h

-- the processes of replica k's node, in order
unfoldable pub lives_of : ℕ → List Life → List Life
lives_of k ls = filter (λ l. l.me == k) ls

-- The history has the events of these processes, those of each node in order. Between nodes any order is allowed.
abbrev pub AreEventsOf : List Life → List Event → Type 0
AreEventsOf ls h = (k : ℕ) → events_of k h ≡ flat_map life_events (lives_of k ls)
