-- For each draft that a state stands for and whose coordinator has a given stage.
use Rattle.std.specs.Prelude.{◌≡◌, ℕ, ◌+◌, Bool, true, false, ◌==◌, ◌&&◌, ◌||◌, not, List, ◌∷◌, [], ◌++◌, filter, map, Option, None, Some}
use Rattle.crsm_base.specs.Spelling.{FitsDecision}
use Rattle.crsm_spec.specs.Types.{Ballot, Decision}
use Rattle.crsm_spec.specs.Lists.{has, numbers_below}
use Rattle.crsm_spec.specs.Log.{accepted, decision}
use Rattle.crsm_spec.specs.Paxos.{Answer, Held}
use Rattle.crsm_spec.specs.Quorum.{has_majority}
use Rattle.crsm_spec.specs.Replica.{Replica, LogPage, Coordinator as CoordinatorOnPaper, spec_of, others}
use Rattle.crsm_spec.specs.Draft.{Draft}
use Rattle.crsm_spec.specs.Step.{if_fitting}
use Rattle.crsm_suspend.specs.declared.collect.Collect.{Collect}
use Rattle.crsm_replica_coordinator.specs.declared.coordinator.Coordinator.{Coordinator}
use Rattle.crsm_replica_coordinator.specs.Coordinator.{CoordinatorStands, IsGathering, IsOwn, counted_of}
use Rattle.crsm_replica_coordinator.specs.Stages.{answer_of}
use Rattle.crsm_replica.specs.declared.state.ReplicaState.{ReplicaState}
use Rattle.crsm_replica.specs.Replica.{ReplicaStands}
use Rattle.crsm_spec.specs.Coordinate.{accept_own}

-- ---- what comes of a rule

-- the answer says whether the records of y fit; where they do the state stands for y, and otherwise for x
abbrev pub TriesTo : Bool → ReplicaState → Draft → Draft → Type 0
TriesTo fit new x y = (fit ≡ y.fitting) × ReplicaStands new (if_fitting x y)

-- the replicas of two Specs but this one, ascending
abbrev pub others_of_both : List ℕ → List ℕ → ℕ → List ℕ
others_of_both old new me = filter (λ k. (has old k || has new k) && not (k == me)) (numbers_below 15)

-- ---- it collects

abbrev pub WhereCollecting : ReplicaState → (Draft → List ℕ → List LogPage → Type 0) → Type 0
WhereCollecting state P =
    (x : Draft) (ms : List ℕ) (pages : List LogPage) →
    ReplicaStands state x → x.replica.coordinator ≡ CoordinatorOnPaper.Collecting ms pages → P x ms pages

-- the collection is in hand
abbrev pub WhereGathering : ReplicaState → Collect → (Draft → List ℕ → List LogPage → Type 0) → Type 0
WhereGathering state collect P =
    (x : Draft) (ms : List ℕ) (pages : List LogPage) →
    ReplicaStands state x → IsGathering collect x.replica.me x.replica.n (decision x.replica.log) ms pages → P x ms pages

-- ---- it prepares

-- this coordinator may be the draft's
abbrev pub CoordinatesAs : Coordinator → Draft → CoordinatorOnPaper → Type 0
CoordinatesAs coordinator x m = CoordinatorStands coordinator x.replica.me x.replica.n (decision x.replica.log) m

-- the replica's own answer
abbrev pub own_answer : Draft → Answer Decision
own_answer x = answer_of x.replica.me (accepted x.replica.log)

-- for a decision of its own, and its ballot in the round after that of another ballot
abbrev pub WhereNextRound : ReplicaState → Decision → Ballot → (Draft → Ballot → Type 0) → Type 0
WhereNextRound state own above P =
    (x : Draft) (round : ℕ) →
    ReplicaStands state x → IsOwn x.replica.me x.replica.n (decision x.replica.log) own →
    round ≡ above.round + 1 → P x (record { round = round; by = x.replica.me })

abbrev pub WherePreparing : ReplicaState → (Draft → Ballot → Decision → List (Answer Decision) → Type 0) → Type 0
WherePreparing state P =
    (x : Draft) (b : Ballot) (own : Decision) (answers : List (Answer Decision)) →
    ReplicaStands state x → x.replica.coordinator ≡ CoordinatorOnPaper.Preparing b own answers → P x b own answers

-- for the answer of a replica of the Spec that has not answered
abbrev pub WhereAnswerCounts : ReplicaState → ℕ → (Draft → Ballot → Decision → List (Answer Decision) → Type 0) → Type 0
WhereAnswerCounts state k P =
    (x : Draft) (b : Ballot) (own : Decision) (answers : List (Answer Decision)) →
    ReplicaStands state x → x.replica.coordinator ≡ CoordinatorOnPaper.Preparing b own answers →
    has (spec_of x.replica) k ≡ true → has (map (λ f. f.replica) answers) k ≡ false → P x b own answers

-- the answer of this replica makes a majority
abbrev pub WhereAnswerIsLast : ReplicaState → ℕ → Held Decision → (Draft → Ballot → Decision → List (Answer Decision) → Type 0) → Type 0
WhereAnswerIsLast state k held P =
    (x : Draft) (b : Ballot) (own : Decision) (answers : List (Answer Decision)) →
    ReplicaStands state x → x.replica.coordinator ≡ CoordinatorOnPaper.Preparing b own answers →
    has_majority (spec_of x.replica) (map (λ f. f.replica) (answers ++ answer_of k held ∷ [])) ≡ true → P x b own answers

-- ---- it prepares or proposes

-- the instance for which its own decision is, and its ballot
unfoldable pub round_of : CoordinatorOnPaper → Option (ℕ × Ballot)
round_of (CoordinatorOnPaper.Preparing b own answers) = Some (own.epoch, b)
round_of (CoordinatorOnPaper.Proposing b own value acceptors) = Some (own.epoch, b)
round_of _ = None

-- the other counted replicas whose promise or vote is not counted
abbrev pub not_counted : Replica → List ℕ
not_counted r = filter (λ k. not (has (counted_of r.coordinator) k)) (others r)

-- ---- it proposes

abbrev pub WhereProposing : ReplicaState → (Draft → Ballot → Decision → Decision → List ℕ → Type 0) → Type 0
WhereProposing state P =
    (x : Draft) (b : Ballot) (own value : Decision) (acceptors : List ℕ) →
    ReplicaStands state x → x.replica.coordinator ≡ CoordinatorOnPaper.Proposing b own value acceptors → P x b own value acceptors

-- the records of the proposer's own acceptance fit
abbrev pub CanAcceptOwn : Ballot → Decision → Decision → List ℕ → Draft → Type 0
CanAcceptOwn b own value acceptors x = (accept_own b own value acceptors x).fitting ≡ true

-- for a value that can be sent, and whether it is chosen where the replica itself accepts it, besides these
abbrev pub WhereOwnVote : ReplicaState → Decision → Bool → (Draft → Decision → List ℕ → Type 0) → Type 0
WhereOwnVote state value is_chosen P =
    (x : Draft) (own : Decision) (acceptors : List ℕ) →
    ReplicaStands state x → FitsDecision value → is_chosen ≡ has_majority (spec_of x.replica) (x.replica.me ∷ acceptors) → P x own acceptors

-- ---- its ballot is over

abbrev pub WherePreempted : ReplicaState → (Draft → Decision → Ballot → Type 0) → Type 0
WherePreempted state P =
    (x : Draft) (own : Decision) (seen : Ballot) →
    ReplicaStands state x → x.replica.coordinator ≡ CoordinatorOnPaper.Preempted own seen → P x own seen
