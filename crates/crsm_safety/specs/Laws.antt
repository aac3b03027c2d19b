-- Definitions for the laws of Paxos.
use Rattle.std.specs.Prelude.{◌≡◌, ℕ, List, Contains}
use Rattle.crsm_spec.specs.Types.{Ballot}
use Rattle.crsm_spec.specs.Epochs.{Event, world_after, start_world}
use Rattle.crsm_spec.specs.Epochs.Message.{Decide}
use Rattle.crsm_spec.specs.Paxos.{Answer, Held, Instance, PaxosStep, MayPropose, after_step, value_of}
use Rattle.crsm_spec.specs.Paxos.PaxosStep.{Proposes}
use Rattle.crsm_spec.specs.Proposing.{Proposing, value_proposed}
use Rattle.crsm_spec.specs.Following.{Follows, IsReached}

-- some replica has sent this decision of instance i
abbrev pub IsDecided : {D : Type 0} → (ℕ → List ℕ) → List (Event D) → ℕ → D → Type 0
IsDecided spec_of events i d = Contains (world_after spec_of start_world events).sent (Decide i d)

-- some proposer has proposed this as its own decision
abbrev pub ProposesOwn : {D : Type 0} → List (PaxosStep D) → D → Type 0
ProposesOwn {D} steps d = (b : Ballot) × (answers : List (Answer D)) × Contains steps (Proposes b d answers)

-- this replica has promised the ballot, with this as its accepted decision
abbrev pub HasPromised : {D : Type 0} → Instance D → ℕ → Ballot → Held D → Type 0
HasPromised s from b accepted = Contains s.promises (record { ballot = b; answer = record { replica = from; accepted = accepted } })

-- the same of what this acceptor has accepted now
abbrev pub HasPromisedLast : {D : Type 0} → Instance D → ℕ → Type 0
HasPromisedLast s r = HasPromised s r (s.acceptor r).promised (s.acceptor r).accepted

-- this replica has accepted the decision in the ballot
abbrev pub HasVoted : {D : Type 0} → Instance D → ℕ → Ballot → D → Type 0
HasVoted s from b d = Contains s.votes (record { ballot = b; acceptor = from; value = d })

-- the proposer may take the step that proposes, and its state then is this one
abbrev pub MayBecome : {D : Type 0} → List ℕ → Instance D → Proposing D → Proposing D → Type 0
MayBecome {D} spec s p q =
    (answers : List (Answer D)) × MayPropose spec s p.ballot answers × (value_of p.own answers ≡ value_proposed q) ×
    Follows spec (after_step s (Proposes p.ballot p.own answers)) q

-- for a proposer in an instance, and a promise of a replica of the Spec
abbrev pub WherePromised : (D : Type 0) → (List ℕ → Instance D → Proposing D → ℕ → Ballot → Held D → Type 0) → Type 0
WherePromised D P =
    (spec : List ℕ) (s : Instance D) (p : Proposing D) (from : ℕ) (b : Ballot) (accepted : Held D) →
    Follows spec s p → Contains spec from → HasPromised s from b accepted → P spec s p from b accepted

-- for a proposer in an instance, and a vote of a replica of the Spec
abbrev pub WhereVoted : (D : Type 0) → (List ℕ → Instance D → Proposing D → ℕ → Ballot → D → Type 0) → Type 0
WhereVoted D P =
    (spec : List ℕ) (s : Instance D) (p : Proposing D) (from : ℕ) (b : Ballot) (d : D) →
    IsReached spec s → Follows spec s p → Contains spec from → HasVoted s from b d → P spec s p from b d
