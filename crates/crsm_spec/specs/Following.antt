-- The relation between a proposer's state and the instance that it proposes in.
use Rattle.std.specs.Prelude.{◌≡◌, ◌≢◌, ℕ, true, false, nat_eq, List, [], map, length, Contains}
use Rattle.std.specs.List.{IsDistinct}
use Rattle.crsm_spec.specs.Types.{Ballot}
use Rattle.crsm_spec.specs.Paxos.{Answer, Proposal, Instance, PaxosStep, best_of, IsRun, fresh, after_steps}
use Rattle.crsm_spec.specs.Paxos.PaxosStep.{Promises, Accepts, Proposes}
use Rattle.crsm_spec.specs.Proposing.{Proposing, value_proposed}

-- the promise of a fresh acceptor
abbrev pub lowest : Ballot
lowest = record { round = 0; by = 0 }

-- some list of steps leads from a fresh instance to this one
pub record IsReached {D : Type 0} (spec : List ℕ) (s : Instance D) : Type 0 where
  pub steps : List (PaxosStep D)
  pub run : IsRun spec fresh steps
  pub is : s ≡ after_steps fresh steps

-- nothing was proposed in this ballot
abbrev pub IsUnused : {D : Type 0} → Instance D → Ballot → Type 0
IsUnused {D} s b = (q : Proposal D) → Contains s.proposals q → q.ballot ≢ b

-- something was proposed in this ballot
abbrev pub IsUsed : {D : Type 0} → Instance D → Ballot → Type 0
IsUsed {D} s b = (q : Proposal D) × Contains s.proposals q × (q.ballot ≡ b)

-- the step does not propose in this ballot
abbrev pub IsOther : {D : Type 0} → PaxosStep D → Ballot → Type 0
IsOther (Promises r c) b = Unit {0}
IsOther (Accepts r c d) b = Unit {0}
IsOther (Proposes c own answers) b = c ≢ b

-- the promises and votes that the proposer counted were made by replicas of the Spec in its ballot, each counted once
pub record Follows {D : Type 0} (spec : List ℕ) (s : Instance D) (p : Proposing D) : Type 0 where
  pub size : p.size ≡ length spec
  pub answers : List (Answer D)
  pub received : p.received ≡ map (λ x. x.replica) answers
  pub best : p.best ≡ best_of answers
  pub promised : (x : Answer D) → Contains answers x → Contains s.promises (record { ballot = p.ballot; answer = x })
  pub distinct : IsDistinct nat_eq p.received
  pub of_spec : (r : ℕ) → Contains p.received r → Contains spec r
  pub unused : p.has_proposed ≡ false → IsUnused s p.ballot
  pub proposed : p.has_proposed ≡ true → Contains s.proposals (record { ballot = p.ballot; value = value_proposed p })
  pub none_yet : p.has_proposed ≡ false → p.voters ≡ []
  pub voters_distinct : IsDistinct nat_eq p.voters
  pub voters_of_spec : (r : ℕ) → Contains p.voters r → Contains spec r
  pub voted : (r : ℕ) → Contains p.voters r → Contains s.votes (record { ballot = p.ballot; acceptor = r; value = value_proposed p })
