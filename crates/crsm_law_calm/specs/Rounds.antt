-- Rounds of running nodes: each member takes a tick, and then what the others have sent it.
use Rattle.std.specs.Prelude.{◌≡◌, ◌≢◌, ◌⊎◌, ℕ, ◌==◌, if◌then◌else◌, List, [], ◌∷◌, ◌++◌, length, drop, Contains, Some, option_to_list}
use Rattle.std.specs.List.{AllByRecursion}
use Rattle.crsm_base.specs.MessageReading.{datagram_of}
use Rattle.crsm_spec.specs.Types.{Datagram}
use Rattle.crsm_spec.specs.Lists.{Among}
use Rattle.crsm_spec.specs.Node.{Turn}
use Rattle.crsm_spec.specs.Calm.{IsPart}
use Rattle.crsm_law_cluster.specs.Clusters.{Event, Outgoing, Process, Cluster}
use Rattle.crsm_law_cluster.specs.Histories.{last_from}
use Rattle.crsm_law_lives.specs.Sending.{outs_from}
use Rattle.crsm_law_calm.specs.Calm.{HasKept, HasSent}

-- ---- events

-- the turn that node k takes at an event, if it takes one
unfoldable pub turn_at : ℕ → Event → List (Turn × ℕ)
turn_at k (Event.Takes j t reading) = if j == k then (t, reading) ∷ [] else []
turn_at k _ = []

-- the turns that node k takes, in order
unfoldable pub turns_of : ℕ → List Event → List (Turn × ℕ)
turns_of k [] = []
turns_of k (e ∷ es) = turn_at k e ++ turns_of k es

-- a member takes a turn, keeps or sends
abbrev pub IsOfMember : List ℕ → Event → Type 0
IsOfMember members (Event.Takes k t reading) = Contains members k
IsOfMember members (Event.Keeps k) = Contains members k
IsOfMember members (Event.Sends k) = Contains members k
IsOfMember members _ = ⊥

-- ---- datagrams

-- those among them that go to replica j
unfoldable pub to_replica : ℕ → List Outgoing → List Datagram
to_replica j [] = []
to_replica j (Outgoing.ToReplica k d ∷ os) = if k == j then d ∷ to_replica j os else to_replica j os
to_replica j (Outgoing.ToClient a ∷ os) = to_replica j os

-- the one that is received in a turn, if one is
unfoldable pub datagram_in : Turn × ℕ → List Datagram
datagram_in (Turn.In address bytes, reading) = option_to_list (datagram_of bytes)
datagram_in _ = []

-- those that are received in these turns
unfoldable pub received_in : List (Turn × ℕ) → List Datagram
received_in [] = []
received_in (t ∷ ts) = datagram_in t ++ received_in ts

-- the first list stands in the second one, in order, perhaps between others
abbrev pub StandsIn : List Datagram → List Datagram → Type 0
StandsIn ds [] = ds ≡ []
StandsIn ds (x ∷ xs) = StandsIn ds xs ⊎ ((rest : List Datagram) × (ds ≡ x ∷ rest) × StandsIn rest xs)

-- Replica k receives a datagram that had been sent to it, and a part of a control message only if it was sent since
-- the cluster `calm`.
abbrev pub IsCalmTurn : Cluster → Cluster → ℕ → Turn × ℕ → Type 0
IsCalmTurn calm c k (Turn.In address bytes, reading) =
    (d : Datagram) × (datagram_of bytes ≡ Some d) × Among c.sent (k, d) × (IsPart d → Among (drop (length calm.sent) c.sent) (k, d))
IsCalmTurn calm c k _ = ⊥

-- ---- rounds

-- A round from cluster c. In its first half each member takes a tick at this reading, keeps it and sends all that waits.
-- In its second half it takes, in order, at least all that each other member has sent it in the first, and keeps that.
pub record IsRound (members : List ℕ) (calm c : Cluster) (at : ℕ → ℕ) (round : List Event) : Type 0 where
  pub first : List Event
  pub second : List Event
  pub halves : round ≡ first ++ second
  pub own : AllByRecursion (IsOfMember members) round
  pub ticks : (k : ℕ) → Contains members k → turns_of k first ≡ (Turn.Tick, at k) ∷ []
  pub sent : (k : ℕ) → Contains members k → HasSent (last_from c first) k
  pub takes : (k : ℕ) → Contains members k → AllByRecursion (IsCalmTurn calm (last_from c first) k) (turns_of k second)
  pub come : (k j : ℕ) → Contains members k → Contains members j → k ≢ j →
      StandsIn (to_replica j (outs_from k c first)) (received_in (turns_of j second))
  pub kept : (k : ℕ) → Contains members k → (x : Process) × HasKept (last_from c round) k x
