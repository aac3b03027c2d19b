-- A proposer's state in one ballot.
use Rattle.std.specs.Prelude.{ℕ, ◌+◌, Bool, false, ◌==◌, ◌&&◌, not, nat_le, if◌then◌else◌, List, [], ◌∷◌, ◌++◌, length, Option, None}
use Rattle.std.specs.List.{list_any}
use Rattle.crsm_spec.specs.Types.{Ballot}
use Rattle.crsm_base.specs.Order.{ballot_eq}
use Rattle.crsm_spec.specs.Paxos.{majority}
use Rattle.crsm_spec.specs.Paxos.{Held, Found, better_held, value_of_best}

-- a proposer's state in its ballot
pub record Proposing (D : Type 0) : Type 0 where
  pub ballot : Ballot
  pub own : D
  -- the size of the Spec
  pub size : ℕ
  -- the replicas whose promises were counted, and the accepted decision that counts among their answers
  pub received : List ℕ
  pub best : Option (Found D)
  -- whether a majority promised, so that the value is proposed
  pub has_proposed : Bool
  -- the replicas whose votes were counted
  pub voters : List ℕ

-- the value that the ballot proposes
abbrev pub value_proposed : {D : Type 0} → Proposing D → D
value_proposed p = value_of_best p.own p.best

-- whether the promise of this replica was counted
abbrev pub is_received : List ℕ → ℕ → Bool
is_received replicas r = list_any (λ q. q == r) replicas

-- the state before any answer
abbrev pub start_proposing : {D : Type 0} → Ballot → D → ℕ → Proposing D
start_proposing ballot own size = record { ballot = ballot; own = own; size = size; received = []; best = None; has_proposed = false; voters = [] }

-- whether an answer with a promise counts: it is for this ballot, before the proposal, and the first of its replica
abbrev pub counts_answer : {D : Type 0} → Proposing D → ℕ → Ballot → Bool
counts_answer p from b = ballot_eq b p.ballot && (not p.has_proposed && not (is_received p.received from))

-- the state after an answer was counted
abbrev pub after_answer : {D : Type 0} → Proposing D → ℕ → Held D → Proposing D
after_answer p from accepted =
    record {
      ballot = p.ballot;
      own = p.own;
      size = p.size;
      received = p.received ++ from ∷ [];
      best = better_held p.best from accepted;
      has_proposed = nat_le (majority p.size) (length p.received + 1);
      voters = p.voters;
    }

-- the state after a promise was received
abbrev pub after_p1b : {D : Type 0} → Proposing D → ℕ → Ballot → Held D → Proposing D
after_p1b p from b accepted = if counts_answer p from b then after_answer p from accepted else p

-- whether a vote counts: it is for this ballot, after the proposal, and the first of its replica
abbrev pub counts_vote : {D : Type 0} → Proposing D → ℕ → Ballot → Bool
counts_vote p from b = ballot_eq b p.ballot && (p.has_proposed && not (is_received p.voters from))

-- the state after a vote was received
abbrev pub after_p2b : {D : Type 0} → Proposing D → ℕ → Ballot → Proposing D
after_p2b p from b = if counts_vote p from b then record p { voters = p.voters ++ from ∷ [] } else p

-- whether this vote makes the majority
abbrev pub makes_majority : {D : Type 0} → Proposing D → Bool
makes_majority p = length p.voters + 1 == majority p.size
