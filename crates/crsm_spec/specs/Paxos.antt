-- Single-decree Paxos over arbitrary decisions D: acceptors, the value of a proposal, and which decision is chosen.
use Rattle.std.specs.Prelude.{◌≡◌, ◌≢◌, ℕ, ◌≤◌, Bool, false, ◌==◌, ◌||◌, ◌&&◌, not, nat_lt, nat_eq, if◌then◌else◌, List, [], ◌∷◌, ◌++◌, map, fold, length, Contains, IsTrue, Option, Some, None}
use Rattle.std.specs.List.{IsDistinct}
use Rattle.std.specs.Option.{ForSome}
use Rattle.crsm_spec.specs.Types.{Ballot}
use Rattle.crsm_base.specs.Order.{ballot_lt}
pub use Rattle.crsm_base.specs.Replicas.{majority}

-- a decision that was accepted, with its ballot
abbrev pub Held : Type 0 → Type 0
Held D = Option (Ballot × D)

-- an acceptor's state in the instance: its promise, and what it accepted
pub record Acceptance (D : Type 0) : Type 0 where
  pub promised : Ballot
  pub accepted : Held D

-- an acceptor's answer with a promise: its number, and the decision that it had accepted
pub record Answer (D : Type 0) : Type 0 where
  pub replica : ℕ
  pub accepted : Held D

-- a promise of a ballot, with its answer
pub record Promise (D : Type 0) : Type 0 where
  pub ballot : Ballot
  pub answer : Answer D

-- an acceptor accepted a value in a ballot
pub record Vote (D : Type 0) : Type 0 where
  pub ballot : Ballot
  pub acceptor : ℕ
  pub value : D

-- a ballot proposed a value
pub record Proposal (D : Type 0) : Type 0 where
  pub ballot : Ballot
  pub value : D

-- an instance: the state of each acceptor, and every promise, vote and proposal ever made
pub record Instance (D : Type 0) : Type 0 where
  pub acceptor : ℕ → Acceptance D
  pub promises : List (Promise D)
  pub votes : List (Vote D)
  pub proposals : List (Proposal D)

-- ---- one acceptor

-- an acceptor at the beginning of an instance
abbrev pub fresh_acceptance : {D : Type 0} → Acceptance D
fresh_acceptance = record { promised = record { round = 0; by = 0 }; accepted = None }

-- a promise raises the ballot and keeps what was accepted
abbrev pub after_promise : {D : Type 0} → Acceptance D → Ballot → Acceptance D
after_promise a b = record { promised = b; accepted = a.accepted }

-- an accept raises the promise to its ballot
abbrev pub after_accept : {D : Type 0} → Acceptance D → Ballot → D → Acceptance D
after_accept a b d = record { promised = b; accepted = Some (b, d) }

-- ---- the value of a proposal

-- an accepted decision, with the replica that named it
pub record Found (D : Type 0) : Type 0 where
  pub ballot : Ballot
  pub replica : ℕ
  pub value : D

-- whether x counts before y: by the greater ballot, and at one ballot by the lesser replica
abbrev pub counts_before : {D : Type 0} → Found D → Found D → Bool
counts_before x y = ballot_lt y.ballot x.ballot || (not (ballot_lt x.ballot y.ballot) && nat_lt x.replica y.replica)

-- the better of two such decisions
abbrev pub better : {D : Type 0} → Option (Found D) → Found D → Option (Found D)
better None x = Some x
better (Some y) x = if counts_before x y then Some x else Some y

-- the better one, after a replica's accepted decision
abbrev pub better_held : {D : Type 0} → Option (Found D) → ℕ → Held D → Option (Found D)
better_held best replica None = best
better_held best replica (Some held) = better best (record { ballot = held.0; replica = replica; value = held.1 })

-- the better one, after an answer
abbrev pub better_answer : {D : Type 0} → Option (Found D) → Answer D → Option (Found D)
better_answer best x = better_held best x.replica x.accepted

-- the accepted decision of the greatest ballot among the answers, of the least replica where they differ on it
abbrev pub best_of : {D : Type 0} → List (Answer D) → Option (Found D)
best_of answers = fold better_answer None answers

-- the same as a relation: it is named in the greatest ballot, by the least replica for that ballot
pub record IsGreatest {D : Type 0} (answers : List (Answer D)) (f : Found D) : Type 0 where
  pub named : Contains answers (record { replica = f.replica; accepted = Some (f.ballot, f.value) })
  pub greatest : (x : Answer D) → Contains answers x → ForSome x.accepted (λ held. ballot_lt f.ballot held.0 ≡ false)
  pub least : (x : Answer D) → Contains answers x → ForSome x.accepted (λ held. held.0 ≡ f.ballot → f.replica ≤ x.replica)

-- its decision, or the proposer's own where there is none
abbrev pub value_of_best : {D : Type 0} → D → Option (Found D) → D
value_of_best own None = own
value_of_best own (Some x) = x.value

-- the value that a ballot proposes after these answers
abbrev pub value_of : {D : Type 0} → D → List (Answer D) → D
value_of own answers = value_of_best own (best_of answers)

-- ---- majorities

-- these are distinct replicas of the Spec, and at least a majority of it
pub record IsMajority (spec replicas : List ℕ) : Type 0 where
  pub distinct : IsDistinct nat_eq replicas
  pub of_spec : (r : ℕ) → Contains replicas r → Contains spec r
  pub enough : majority (length spec) ≤ length replicas

-- ---- the steps

-- a step of one replica: an acceptor promises or accepts, or a ballot proposes the value that the answers allow
pub data PaxosStep (D : Type 0) : Type 0 where
  Promises : (replica : ℕ) (ballot : Ballot) → PaxosStep D
  Accepts : (replica : ℕ) (ballot : Ballot) (value : D) → PaxosStep D
  Proposes : (ballot : Ballot) (own : D) (answers : List (Answer D)) → PaxosStep D

-- a promise is of a ballot above the acceptor's promise
abbrev pub MayPromise : {D : Type 0} → Acceptance D → Ballot → Type 0
MayPromise a b = IsTrue (ballot_lt a.promised b)

-- an accept is in a ballot that is not below the acceptor's promise and is above its accepted ballot
pub record TakesVote {D : Type 0} (a : Acceptance D) (b : Ballot) : Type 0 where
  pub not_below : ballot_lt b a.promised ≡ false
  pub above : ForSome a.accepted (λ held. IsTrue (ballot_lt held.0 b))

-- and it is of the decision that this ballot proposed before
pub record MayAccept {D : Type 0} (a : Acceptance D) (proposals : List (Proposal D)) (b : Ballot) (d : D) : Type 0 where
  pub takes : TakesVote a b
  pub proposed : Contains proposals (record { ballot = b; value = d })

-- a ballot proposes once, over what the promises of a majority answered
pub record MayPropose {D : Type 0} (spec : List ℕ) (s : Instance D) (b : Ballot) (answers : List (Answer D)) : Type 0 where
  pub first : (p : Proposal D) → Contains s.proposals p → p.ballot ≢ b
  pub promised : (x : Answer D) → Contains answers x → Contains s.promises (record { ballot = b; answer = x })
  pub majority : IsMajority spec (map (λ x. x.replica) answers)

-- the step may be taken in this instance, whose acceptors are counted over the Spec
abbrev pub MayTake : {D : Type 0} → List ℕ → Instance D → PaxosStep D → Type 0
MayTake spec s (Promises r b) = MayPromise (s.acceptor r) b
MayTake spec s (Accepts r b d) = MayAccept (s.acceptor r) s.proposals b d
MayTake spec s (Proposes b own answers) = MayPropose spec s b answers

-- the acceptors with one of them replaced
abbrev pub with_acceptor : {D : Type 0} → (ℕ → Acceptance D) → ℕ → Acceptance D → ℕ → Acceptance D
with_acceptor f r a q = if q == r then a else f q

-- the instance after a step
abbrev pub after_step : {D : Type 0} → Instance D → PaxosStep D → Instance D
after_step s (Promises r b) =
    record s {
      acceptor = with_acceptor s.acceptor r (after_promise (s.acceptor r) b);
      promises = s.promises ++ record { ballot = b; answer = record { replica = r; accepted = (s.acceptor r).accepted } } ∷ [];
    }
after_step s (Accepts r b d) =
    record s {
      acceptor = with_acceptor s.acceptor r (after_accept (s.acceptor r) b d);
      votes = s.votes ++ record { ballot = b; acceptor = r; value = d } ∷ [];
    }
after_step s (Proposes b own answers) =
    record s { proposals = s.proposals ++ record { ballot = b; value = value_of own answers } ∷ [] }

-- ---- runs

-- an instance in which nothing has happened
abbrev pub fresh : {D : Type 0} → Instance D
fresh = record { acceptor = λ _. fresh_acceptance; promises = []; votes = []; proposals = [] }

-- the instance after steps
abbrev pub after_steps : {D : Type 0} → Instance D → List (PaxosStep D) → Instance D
after_steps s [] = s
after_steps s (e ∷ es) = after_steps (after_step s e) es

-- each step may be taken in the instance that those before it left
abbrev pub IsRun : {D : Type 0} → List ℕ → Instance D → List (PaxosStep D) → Type 0
IsRun spec s [] = Unit {0}
IsRun spec s (e ∷ es) = MayTake spec s e × IsRun spec (after_step s e) es

-- for one ballot the votes for d name at least a majority of the Spec
pub record IsChosen {D : Type 0} (spec : List ℕ) (s : Instance D) (d : D) : Type 0 where
  pub ballot : Ballot
  pub voters : List ℕ
  pub majority : IsMajority spec voters
  pub voted : (r : ℕ) → Contains voters r → Contains s.votes (record { ballot = ballot; acceptor = r; value = d })
