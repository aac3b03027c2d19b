-- The states and messages of replicas, slot by slot: for each slot they are in one instance of single-decree Paxos.
use Rattle.std.specs.Prelude.{◌≡◌, ℕ, ◌<◌, ◌≤◌, ◌⊎◌, false, true, nat_eq, List, map, Contains, Option, Some}
use Rattle.std.specs.List.{IsDistinct}
use Rattle.crsm_base.specs.Order.{ballot_lt}
use Rattle.crsm_spec.specs.Paxos.{Held, Proposal, Instance, IsMajority, IsChosen}
use Rattle.crsm_spec.specs.Following.{IsReached, IsUnused, IsUsed, lowest}
use Rattle.crsm_mpspec.specs.declared.MpMessage.{MpMessage}
use Rattle.crsm_mpspec.specs.declared.MpChosen.{MpChosen}
use Rattle.crsm_mpspec.specs.Types.{Ballot, Command, Value}
use Rattle.crsm_mpspec.specs.Replica.{Report, Note, voters_at}
use Rattle.crsm_mpspec.specs.Electing.{held_at, next_slot}

-- the seat of a replica: its promise, what it has accepted and knows to be chosen at each slot, and its phase
pub record Seat : Type 0 where
  pub promised : Ballot
  pub accepted : ℕ → Held Value
  pub chosen : ℕ → Option Value
  pub note : Note

-- which messages were sent, by their senders
abbrev pub Sent : Type 1
Sent = ℕ → MpMessage → Type 0

-- an instance for each slot
abbrev pub Slots : Type 0
Slots = ℕ → Instance Value

-- acceptor k answered with its promise of b that it had accepted this
abbrev pub HasPromised : Instance Value → Ballot → ℕ → Held Value → Type 0
HasPromised s b k held = Contains s.promises (record { ballot = b; answer = record { replica = k; accepted = held } })

-- acceptor k accepted v in b
abbrev pub HasVoted : Instance Value → Ballot → ℕ → Value → Type 0
HasVoted s b k v = Contains s.votes (record { ballot = b; acceptor = k; value = v })

-- b proposed v
abbrev pub HasProposed : Instance Value → Ballot → Value → Type 0
HasProposed s b v = Contains s.proposals (record { ballot = b; value = v })

-- each choice that a report names was made
abbrev pub AreChosen : List ℕ → Slots → Report → Type 0
AreChosen spec slots y = (c : MpChosen) → Contains y.chosen c → IsChosen spec (slots c.slot) c.value

-- The invariant of a replica that prepares ballot b: the ballot is its promise, is its own and has proposed nothing,
-- and what it counted is what replicas answered with their promises, from its first slot on.
pub record IsAsking (spec : List ℕ) (slots : Slots) (k : ℕ) (x : Seat) (b : Ballot) (start : ℕ) (reports : List Report) : Type 0 where
  pub by : b.by ≡ k
  pub high : ballot_lt lowest b ≡ true
  pub current : x.promised ≡ b
  pub unused : (s : ℕ) → IsUnused (slots s) b
  pub answered : (s : ℕ) → start ≤ s → (y : Report) → Contains reports y → HasPromised (slots s) b y.from (held_at s y.accepted)
  pub chosen : (y : Report) → Contains reports y → AreChosen spec slots y
  pub distinct : IsDistinct nat_eq (map (λ y. y.from) reports)
  pub of_spec : (j : ℕ) → Contains (map (λ y. y.from) reports) j → Contains spec j

-- The invariant of a leader in ballot b: a majority reported, it voted itself wherever the ballot proposed, and the
-- votes that it counted were cast for what it accepted.
pub record IsLeading (spec : List ℕ) (slots : Slots) (k : ℕ) (x : Seat) (b : Ballot) (start next : ℕ) (reports : List Report) (votes : List (ℕ × ℕ)) : Type 0 where
  pub by : b.by ≡ k
  pub current : x.promised ≡ b
  pub used : (s : ℕ) → IsUsed (slots s) b → Contains votes (s, k)
  pub answered : (s : ℕ) → start ≤ s → (y : Report) → Contains reports y → HasPromised (slots s) b y.from (held_at s y.accepted)
  pub majority : IsMajority spec (map (λ y. y.from) reports)
  pub above : next_slot start reports ≤ next
  pub below : (s j : ℕ) → Contains votes (s, j) → s < next
  pub voted : (s j : ℕ) → Contains votes (s, j) → Contains spec j × (v : Value) × (x.accepted s ≡ Some (b, v)) × HasVoted (slots s) b j v
  pub once : (s : ℕ) → IsDistinct nat_eq (voters_at s votes)

-- the invariant of a replica's phase
abbrev pub NoteHolds : List ℕ → Slots → ℕ → Seat → Note → Type 0
NoteHolds spec slots k x Note.Idle = Unit {0}
NoteHolds spec slots k x (Note.Asking b start reports) = IsAsking spec slots k x b start reports
NoteHolds spec slots k x (Note.Leading b start next reports votes) = IsLeading spec slots k x b start next reports votes

-- This replica prepared ballot b from a slot on: its promise is not below b, and if it still prepares b, it does so
-- from this slot on.
pub record HasAsked (x : Seat) (b : Ballot) (start : ℕ) : Type 0 where
  pub promised : ballot_lt x.promised b ≡ false
  pub same : (from : ℕ) (reports : List Report) → x.note ≡ Note.Asking b from reports → from ≡ start

-- replica k reported with its promise of b what it had accepted from a slot on, or b has proposed there
pub record HasReported (spec : List ℕ) (slots : Slots) (b : Ballot) (start : ℕ) (y : Report) : Type 0 where
  pub answered : (s : ℕ) → start ≤ s → HasPromised (slots s) b y.from (held_at s y.accepted) ⊎ IsUsed (slots s) b
  pub chosen : AreChosen spec slots y

-- The contents of a message of replica k are true.
abbrev pub IsTrueMessage : List ℕ → (ℕ → Seat) → Sent → Slots → ℕ → MpMessage → Type 0
IsTrueMessage spec seats sent slots k (MpMessage.Prep b start) = (ballot_lt lowest b ≡ true) × HasAsked (seats b.by) b start
IsTrueMessage spec seats sent slots k (MpMessage.Prom b accepted chosen) =
    Contains spec k × (j : ℕ) × (start : ℕ) × sent j (MpMessage.Prep b start)
    × HasReported spec slots b start (record { from = k; accepted = accepted; chosen = chosen })
IsTrueMessage spec seats sent slots k (MpMessage.No p) = Unit {0}
IsTrueMessage spec seats sent slots k (MpMessage.Acc b s v) = HasProposed (slots s) b v
IsTrueMessage spec seats sent slots k (MpMessage.Accd b s) = Contains spec k × (v : Value) × HasVoted (slots s) b k v
IsTrueMessage spec seats sent slots k (MpMessage.Learn s v) = IsChosen spec (slots s) v
IsTrueMessage spec seats sent slots k (MpMessage.Ask start) = Unit {0}

-- the commands submitted, and the known values of slots
pub record Past : Type 0 where
  pub submitted : List Command
  pub known : List (ℕ × Value)

-- The states and messages of replicas are one instance for each slot. Each command proposed was submitted, and each
-- known value is chosen.
pub record Holds (spec : List ℕ) (past : Past) (seats : ℕ → Seat) (sent : Sent) (slots : Slots) : Type 0 where
  pub reached : (s : ℕ) → IsReached spec (slots s)
  pub same : (s k : ℕ) → (slots s).acceptor k ≡ record { promised = (seats k).promised; accepted = (seats k).accepted s }
  pub owners : (s : ℕ) (q : Proposal Value) → Contains (slots s).proposals q → ballot_lt (seats q.ballot.by).promised q.ballot ≡ false
  pub owned : (s : ℕ) (q : Proposal Value) (c : Command) → Contains (slots s).proposals q → q.value ≡ Some c → Contains past.submitted c
  pub stays : (s : ℕ) (v : Value) → Contains past.known (s, v) → IsChosen spec (slots s) v
  pub chosen : (s k : ℕ) (v : Value) → (seats k).chosen s ≡ Some v → IsChosen spec (slots s) v
  pub notes : (k : ℕ) → NoteHolds spec slots k (seats k) (seats k).note
  pub sound : (k : ℕ) (m : MpMessage) → sent k m → IsTrueMessage spec seats sent slots k m

-- no two seats know different values of a slot
abbrev pub SlotsAgree : Type 0
SlotsAgree =
    (spec : List ℕ) (past : Past) (seats : ℕ → Seat) (sent : List (ℕ × MpMessage)) (slots : Slots) →
    Holds spec past seats (λ k m. Contains sent (k, m)) slots →
    (s j k : ℕ) (v w : Value) → (seats j).chosen s ≡ Some v → (seats k).chosen s ≡ Some w → v ≡ w
