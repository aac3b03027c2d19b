-- The relation of the coordinator in memory to that of the definitions.
use Rattle.std.specs.Prelude.{◌≡◌, ℕ, ◌+◌, Bool, true, false, ◌&&◌, not, List, [], ◌∷◌, ◌++◌, length, map, count_by, nat_le, if◌then◌else◌, Option, None, Some, bytes_eq}
use Rattle.std.specs.List.{list_all}
use Rattle.std.specs.Option.{option_map_or}
use Rattle.crsm_base.specs.Members.{IsMembers}
use Rattle.crsm_base.specs.Order.{ballot_lt, ballot_eq}
use Rattle.crsm_base.specs.Spelling.{FitsBallot, FitsDecision}
use Rattle.crsm_spec.specs.Types.{Ballot, Decision}
use Rattle.crsm_spec.specs.Lists.{has}
use Rattle.crsm_spec.specs.Paxos.{Held, majority, Answer, best_of, value_of}
use Rattle.crsm_spec.specs.Proposing.{Proposing, value_proposed, after_answer}
use Rattle.crsm_spec.specs.Quorum.{spec_decided, has_majority}
use Rattle.crsm_spec.specs.Replica.{LogPage, Coordinator as CoordinatorOnPaper}
use Rattle.crsm_spec.specs.Log.{Log, decision}
use Rattle.crsm_paxos.specs.Best.{FitsFound}
use Rattle.crsm_suspend.specs.declared.collect.Collect.{Collect}
use Rattle.crsm_suspend.specs.Collecting.{CollectStands}
use Rattle.crsm_spec.specs.Choice.{when◌then◌otherwise◌}
use Rattle.crsm_replica_coordinator.specs.declared.coordinator.Coordinator.{Coordinator}
use Rattle.crsm_replica_coordinator.specs.declared.coordinator.Stage.{Stage}
use Rattle.crsm_replica_coordinator.specs.declared.coordinator.Voted.{Voted}

-- ---- counting

-- These are counted over a Spec: each is of it, and stands here once.
pub record IsCounted (spec ks : List ℕ) : Type 0 where
  pub members : IsMembers spec
  pub once : count_by (has ks) spec ≡ length ks

-- ---- a decision of one's own, and one that counts

-- the epoch that this decision begins, the first where there is none
unfoldable pub epoch_of : Option Decision → ℕ
epoch_of d = option_map_or (λ d. d.epoch) d 0

-- replica me is counted where this is the known decision, and this is a decision for the next epoch
pub record IsOwn (me n : ℕ) (known : Option Decision) (own : Decision) : Type 0 where
  pub counted : has (spec_decided n known) me ≡ true
  pub next : own.epoch ≡ epoch_of known + 1
  pub spelt : FitsDecision own

-- ---- a collection

-- the Spec after the known one, where these are to be the members, and how a decision names it
unfoldable pub next_in : ℕ → Option Decision → List ℕ → List ℕ
next_in n known ms = if list_all (has (spec_decided n known)) ms then spec_decided n known else ms

unfoldable pub named_in : ℕ → Option Decision → List ℕ → Option (List ℕ)
named_in n known ms = if bytes_eq (next_in n known ms) (spec_decided n None) then None else Some (next_in n known ms)

-- The collection has these pages, whatever log the replica has that knows this decision.
pub record IsGathering (c : Collect) (me n : ℕ) (known : Option Decision) (ms : List ℕ) (pages : List LogPage) : Type 0 where
  pub counted : has (spec_decided n known) me ≡ true
  pub collects : (log : Log) → decision log ≡ known → CollectStands log (spec_decided n known) (named_in n known ms) ms pages c

-- ---- a proposal in memory

-- whose promises or votes it counts
abbrev pub counted_by : Proposing Decision → List ℕ
counted_by p = if p.has_proposed then p.voters else p.received

-- its votes are a majority with this one, which may be counted already
abbrev pub is_chosen_with : Proposing Decision → ℕ → Bool
is_chosen_with p k = if has p.voters k then nat_le (majority p.size) (length p.voters) else nat_le (majority p.size) (length p.voters + 1)

-- its proposal
abbrev pub proposal_by : Proposing Decision → Option (Ballot × Decision)
proposal_by p = if p.has_proposed then Some (p.ballot, value_proposed p) else None

-- its proposal after the answer of a replica
abbrev pub proposal_by_with : Proposing Decision → ℕ → Held Decision → Option (Ballot × Decision)
proposal_by_with p k accepted = if p.has_proposed then None else Some (p.ballot, value_proposed (after_answer p k accepted))

-- ---- the coordinator

-- the promises of a ballot are counted
pub record IsAsking (p : Proposing Decision) (me n : ℕ) (known : Option Decision) (b : Ballot) (own : Decision) (answers : List (Answer Decision)) : Type 0 where
  pub mine : IsOwn me n known own
  pub ballot : p.ballot ≡ b
  pub round : FitsBallot b
  pub own_is : p.own ≡ own
  pub size : p.size ≡ length (spec_decided n known)
  pub received : p.received ≡ map (λ a. a.replica) answers
  pub counted : IsCounted (spec_decided n known) p.received
  pub best : p.best ≡ best_of answers
  pub found : FitsFound p.best
  pub waits : p.has_proposed ≡ false
  pub unvoted : p.voters ≡ []

-- The votes for a proposal are counted. Of one replica a further vote says nothing.
pub record IsProposing (p : Proposing Decision) (me n : ℕ) (known : Option Decision) (b : Ballot) (own value : Decision) (acceptors : List ℕ) : Type 0 where
  pub mine : IsOwn me n known own
  pub ballot : p.ballot ≡ b
  pub round : FitsBallot b
  pub own_is : p.own ≡ own
  pub size : p.size ≡ length (spec_decided n known)
  pub value_is : value_proposed p ≡ value
  pub spelt : FitsDecision value
  pub proposes : p.has_proposed ≡ true
  pub voted : (k : ℕ) → has p.voters k ≡ has acceptors k
  pub counted : IsCounted (spec_decided n known) p.voters

-- a decision of one's own that is to be proposed again
pub record IsOver (me n : ℕ) (known : Option Decision) (own : Decision) (seen : Ballot) : Type 0 where
  pub mine : IsOwn me n known own
  pub round : FitsBallot seen

-- At replica me of a cluster that began with n, whose known epoch has this decision, the coordinator stands for one of
-- the definitions.
unfoldable pub CoordinatorStands : Coordinator → ℕ → ℕ → Option Decision → CoordinatorOnPaper → Type 0
CoordinatorStands Coordinator.Idle me n known CoordinatorOnPaper.Idle = Unit {0}
CoordinatorStands (Coordinator.Collecting c) me n known (CoordinatorOnPaper.Collecting ms pages) = IsGathering c me n known ms pages
CoordinatorStands (Coordinator.Proposing p) me n known (CoordinatorOnPaper.Preparing b own answers) = IsAsking p me n known b own answers
CoordinatorStands (Coordinator.Proposing p) me n known (CoordinatorOnPaper.Proposing b own value acceptors) = IsProposing p me n known b own value acceptors
CoordinatorStands (Coordinator.Preempted retry) me n known (CoordinatorOnPaper.Preempted own seen) = (retry.0 ≡ own) × (retry.1 ≡ seen) × IsOver me n known own seen
CoordinatorStands _ me n known _ = ⊥

-- ---- the readers of a coordinator of the definitions

-- which of these the coordinator in memory is
unfoldable pub stage_of : CoordinatorOnPaper → Stage
stage_of CoordinatorOnPaper.Idle = Stage.Idle
stage_of (CoordinatorOnPaper.Collecting ms pages) = Stage.Collecting
stage_of (CoordinatorOnPaper.Preparing b own answers) = Stage.Preparing
stage_of (CoordinatorOnPaper.Proposing b own value acceptors) = Stage.Proposing
stage_of (CoordinatorOnPaper.Preempted own seen) = Stage.Preempted

-- whose promises or votes are counted
unfoldable pub counted_of : CoordinatorOnPaper → List ℕ
counted_of (CoordinatorOnPaper.Preparing b own answers) = map (λ a. a.replica) answers
counted_of (CoordinatorOnPaper.Proposing b own value acceptors) = acceptors
counted_of _ = []

-- a promise of this ballot by replica k counts
unfoldable pub takes_answer : CoordinatorOnPaper → Ballot → ℕ → Bool
takes_answer (CoordinatorOnPaper.Preparing c own answers) b k = ballot_eq b c && not (has (map (λ a. a.replica) answers) k)
takes_answer _ b k = false

-- a vote in this ballot by replica k counts
unfoldable pub takes_vote : CoordinatorOnPaper → Ballot → ℕ → Bool
takes_vote (CoordinatorOnPaper.Proposing c own value acceptors) b k = ballot_eq b c && not (has acceptors k)
takes_vote _ b k = false

-- a greater promise for this ballot ends it
unfoldable pub is_ended_by : CoordinatorOnPaper → Ballot → Ballot → Bool
is_ended_by (CoordinatorOnPaper.Preparing c own answers) b top = ballot_eq b c && ballot_lt b top
is_ended_by (CoordinatorOnPaper.Proposing c own value acceptors) b top = ballot_eq b c && ballot_lt b top
is_ended_by _ b top = false

-- the ballot that is asked for or proposes
unfoldable pub ballot_of : CoordinatorOnPaper → Option Ballot
ballot_of (CoordinatorOnPaper.Preparing b own answers) = Some b
ballot_of (CoordinatorOnPaper.Proposing b own value acceptors) = Some b
ballot_of _ = None

-- the proposal
unfoldable pub proposal_of : CoordinatorOnPaper → Option (Ballot × Decision)
proposal_of (CoordinatorOnPaper.Proposing b own value acceptors) = Some (b, value)
proposal_of _ = None

-- the proposal after this answer
unfoldable pub proposal_with : CoordinatorOnPaper → Answer Decision → Option (Ballot × Decision)
proposal_with (CoordinatorOnPaper.Preparing b own answers) a = Some (b, value_of own (answers ++ a ∷ []))
proposal_with _ a = None

-- the coordinator where these have answered: at a majority of the Spec the value that they leave is proposed
unfoldable pub answered : List ℕ → Ballot → Decision → List (Answer Decision) → CoordinatorOnPaper
answered spec b own answers =
    when has_majority spec (map (λ a. a.replica) answers)
    then CoordinatorOnPaper.Proposing b own (value_of own answers) [] otherwise CoordinatorOnPaper.Preparing b own answers

-- the coordinator where that ballot is over, since this one was seen
unfoldable pub preempted_by : CoordinatorOnPaper → Ballot → CoordinatorOnPaper
preempted_by (CoordinatorOnPaper.Preparing b own answers) top = CoordinatorOnPaper.Preempted own top
preempted_by (CoordinatorOnPaper.Proposing b own value acceptors) top = CoordinatorOnPaper.Preempted own top
preempted_by m top = m

-- the result of a further vote
unfoldable pub VotedIs : Voted → ℕ → ℕ → Option Decision → Ballot → Decision → Decision → List ℕ → Type 0
VotedIs (Voted.More coordinator) me n known b own value acceptors =
    (has_majority (spec_decided n known) acceptors ≡ false) × CoordinatorStands coordinator me n known (CoordinatorOnPaper.Proposing b own value acceptors)
VotedIs (Voted.Chosen d) me n known b own value acceptors =
    (has_majority (spec_decided n known) acceptors ≡ true) × (d ≡ value) × FitsDecision value

-- for each coordinator that the one in memory stands for
abbrev pub WhereStands : Coordinator → (ℕ → ℕ → Option Decision → CoordinatorOnPaper → Type 0) → Type 0
WhereStands coordinator P =
    (me n : ℕ) (known : Option Decision) (m : CoordinatorOnPaper) → CoordinatorStands coordinator me n known m → P me n known m
