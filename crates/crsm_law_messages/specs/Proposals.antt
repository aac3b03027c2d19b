-- A coordinator's past: it asked for the ballot, counted its answers, and proposed its decision.
use Rattle.std.specs.Prelude.{◌≡◌, ℕ, IsTrue, List, map}
use Rattle.crsm_base.specs.Order.{ballot_lt}
use Rattle.crsm_spec.specs.Types.{Ballot, Decision, Control}
use Rattle.crsm_spec.specs.Lists.{Among}
use Rattle.crsm_spec.specs.Log.{promised}
use Rattle.crsm_spec.specs.Quorum.{has_majority}
use Rattle.crsm_spec.specs.Paxos.{Answer, value_of}
use Rattle.crsm_spec.specs.Replica.{Replica, Coordinator, spec_of}
use Rattle.crsm_spec.specs.Draft.{Draft}
use Rattle.crsm_spec.specs.Coordinate.{instance}
use Rattle.crsm_spec.specs.Step.{Input}
use Rattle.crsm_spec.specs.World.{World}
use Rattle.crsm_fact_step.specs.Changes.{IsAnswer, IsVote}
use Rattle.crsm_law_messages.specs.SentMessages.{SentMessage, Past, WasSentBefore}

-- replica k once had a draft with this property
pub record Did (n : ℕ) (w : World) (k : ℕ) (G : Replica → Input → Draft → Type 0) : Type 0 where
  pub past : Past n w k
  pub held : G past.replica past.input past.draft

-- ---- what a coordinator does, in instance i and ballot b

-- it promises a ballot of its own, greater than its promise before, and requests promises for it
abbrev pub Asks : ℕ → Ballot → Decision → Replica → Input → Draft → Type 0
Asks i b own r input x =
    (i ≡ instance x) × (b.by ≡ x.replica.me) × IsTrue (ballot_lt (promised x.replica.log) b) × (seen : Ballot) × (x.replica.coordinator ≡ Coordinator.Preempted own seen)

-- it counts an answer
abbrev pub Counts : ℕ → Ballot → Answer Decision → Replica → Input → Draft → Type 0
Counts i b a r input x = (i ≡ instance x) × IsAnswer r input x b a

-- it has the answers of a majority, and proposes
abbrev pub Proposes : ℕ → Ballot → Decision → List (Answer Decision) → Replica → Input → Draft → Type 0
Proposes i b own answers r input x =
    (i ≡ instance x) × (x.replica.coordinator ≡ Coordinator.Preparing b own answers) × IsTrue (has_majority (spec_of x.replica) (map (λ f. f.replica) answers))

-- it counts the vote of replica j
abbrev pub CountsVote : ℕ → Ballot → ℕ → Replica → Input → Draft → Type 0
CountsVote i b j r input x = (i ≡ instance x) × IsVote r input x b j

-- ---- coordinators

-- k has asked for the ballot and counted these answers
pub record HasAsked (n : ℕ) (w : World) (k i : ℕ) (b : Ballot) (own : Decision) (answers : List (Answer Decision)) : Type 0 where
  pub asked : Did n w k (Asks i b own)
  pub counted : (a : Answer Decision) → Among answers a → Did n w k (Counts i b a)

-- k has proposed the value that Paxos allows for its own decision after the answers of a majority
pub record HasProposed (n : ℕ) (w : World) (k i : ℕ) (b : Ballot) (own value : Decision) : Type 0 where
  pub answers : List (Answer Decision)
  pub asked : HasAsked n w k i b own answers
  pub proposed : Did n w k (Proposes i b own answers)
  pub is : value ≡ value_of own answers

abbrev pub CoordinatorIsTrue : ℕ → World → ℕ → ℕ → Coordinator → Type 0
CoordinatorIsTrue n w k i Coordinator.Idle = Unit {0}
CoordinatorIsTrue n w k i (Coordinator.Collecting ms pages) = Unit {0}
CoordinatorIsTrue n w k i (Coordinator.Preparing b own answers) = HasAsked n w k i b own answers
CoordinatorIsTrue n w k i (Coordinator.Proposing b own value acceptors) =
    HasProposed n w k i b own value × ((j : ℕ) → Among acceptors j → Did n w k (CountsVote i b j))
CoordinatorIsTrue n w k i (Coordinator.Preempted own seen) = Unit {0}

-- The coordinator of every draft of every replica is true of its past.
abbrev pub CoordinatorsAreTrue : Type 0
CoordinatorsAreTrue = (n : ℕ) (w : World) (k : ℕ) (p : Past n w k) → CoordinatorIsTrue n w k (instance p.draft) p.draft.replica.coordinator

-- The sender of a P1a has asked for that ballot.
abbrev pub AskedWasAsked : Type 0
AskedWasAsked =
    (n : ℕ) (w : World) (s : SentMessage) (i : ℕ) (b : Ballot) → WasSentBefore n w s → s.message ≡ Control.P1a i b →
    (own : Decision) × (answers : List (Answer Decision)) × HasAsked n w s.from i b own answers

-- The decision of a P2a was proposed in that ballot by its sender.
abbrev pub ProposedWasProposed : Type 0
ProposedWasProposed =
    (n : ℕ) (w : World) (s : SentMessage) (i : ℕ) (b : Ballot) (d : Decision) → WasSentBefore n w s → s.message ≡ Control.P2a i b d →
    (own : Decision) × HasProposed n w s.from i b own d
