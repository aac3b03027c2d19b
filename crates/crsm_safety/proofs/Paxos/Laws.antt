-- The laws of one instance, for the crates above.
use Rattle.std.proofs.Common.{◌≡◌, ℕ, ◌+◌, ◌≤◌, ◌⊎◌, true, List, length}
use Rattle.std.specs.List.{Contains}
use Rattle.std.specs.Option.{ForSome}
use Rattle.crsm_base.specs.declared.stamp.Ballot.{Ballot}
use Rattle.crsm_base.specs.Order.{ballot_lt}
use Rattle.crsm_spec.specs.Paxos.{Held, Answer, Instance, PaxosStep, MayTake, MayPropose, after_step, IsChosen, value_of, majority}
use Rattle.crsm_spec.specs.Paxos.PaxosStep.{Proposes}
use Rattle.crsm_spec.specs.Proposing.{Proposing, start_proposing, value_proposed, counts_answer, counts_vote, after_answer, after_p1b, after_p2b, makes_majority}
use Rattle.crsm_spec.specs.InstanceLaws.{OneIsChosen}
use Rattle.crsm_spec.specs.Following.{IsReached, IsUnused, IsUsed, IsOther, Follows, lowest}

-- the laws of one instance, as their functions state them
pub record Laws (D : Type 0) : Type 0 where
  pub choice : (spec : List ℕ) → OneIsChosen D spec
  pub repeated : (spec : List ℕ) (s : Instance D) (r : ℕ) → IsReached spec s → ballot_lt lowest (s.acceptor r).promised ≡ true →
      Contains s.promises (record { ballot = (s.acceptor r).promised; answer = record { replica = r; accepted = (s.acceptor r).accepted } }) ⊎ IsUsed s (s.acceptor r).promised
  pub voted : (spec : List ℕ) (s : Instance D) (r : ℕ) → IsReached spec s → ForSome (s.acceptor r).accepted (λ held. Contains s.votes (record { ballot = held.0; acceptor = r; value = held.1 }))
  pub reached : (spec : List ℕ) (s : Instance D) (e : PaxosStep D) → IsReached spec s → MayTake spec s e → IsReached spec (after_step s e)
  pub chosen : (spec : List ℕ) (s : Instance D) (e : PaxosStep D) (d : D) → IsChosen spec s d → IsChosen spec (after_step s e) d
  pub starts : (spec : List ℕ) (s : Instance D) (b : Ballot) (own : D) → IsUnused s b → Follows spec s (start_proposing b own (length spec))
  pub others : (spec : List ℕ) (s : Instance D) (p : Proposing D) (e : PaxosStep D) → IsOther e p.ballot → Follows spec s p → Follows spec (after_step s e) p
  pub waits : (spec : List ℕ) (s : Instance D) (p : Proposing D) (from : ℕ) (b : Ballot) (accepted : Held D) →
      Follows spec s p → Contains spec from → Contains s.promises (record { ballot = b; answer = record { replica = from; accepted = accepted } }) →
      (after_p1b p from b accepted).has_proposed ≡ p.has_proposed → Follows spec s (after_p1b p from b accepted)
  pub proposes : (spec : List ℕ) (s : Instance D) (p : Proposing D) (from : ℕ) (b : Ballot) (accepted : Held D) →
      Follows spec s p → Contains spec from → Contains s.promises (record { ballot = b; answer = record { replica = from; accepted = accepted } }) →
      counts_answer p from b ≡ true → majority p.size ≤ length p.received + 1 →
      (answers : List (Answer D)) × MayPropose spec s p.ballot answers × (value_of p.own answers ≡ value_proposed (after_answer p from accepted)) ×
      Follows spec (after_step s (Proposes p.ballot p.own answers)) (after_answer p from accepted)
  pub votes : (spec : List ℕ) (s : Instance D) (p : Proposing D) (from : ℕ) (b : Ballot) (d : D) → IsReached spec s → Follows spec s p → Contains spec from →
      Contains s.votes (record { ballot = b; acceptor = from; value = d }) → Follows spec s (after_p2b p from b)
  pub chooses : (spec : List ℕ) (s : Instance D) (p : Proposing D) (from : ℕ) (b : Ballot) (d : D) → IsReached spec s → Follows spec s p → Contains spec from →
      Contains s.votes (record { ballot = b; acceptor = from; value = d }) → counts_vote p from b ≡ true → makes_majority p ≡ true → IsChosen spec s (value_proposed p)
