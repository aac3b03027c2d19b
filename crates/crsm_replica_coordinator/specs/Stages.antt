-- For each coordinator of the definitions of one stage that the one in memory stands for.
use Rattle.std.specs.Prelude.{◌≡◌, ℕ, ◌+◌, List, Option, true, false, map}
use Rattle.crsm_spec.specs.Types.{Ballot, Decision}
use Rattle.crsm_spec.specs.Lists.{has}
use Rattle.crsm_spec.specs.Log.{Log, decision}
use Rattle.crsm_spec.specs.Paxos.{Answer, Held}
use Rattle.crsm_spec.specs.Quorum.{spec_decided}
use Rattle.crsm_spec.specs.Replica.{LogPage, Coordinator as CoordinatorOnPaper}
use Rattle.crsm_suspend.specs.declared.collect.Collect.{Collect}
use Rattle.crsm_suspend.specs.Collecting.{CollectStands}
use Rattle.crsm_replica_coordinator.specs.Coordinator.{CoordinatorStands, IsOwn, answered, named_in}
use Rattle.crsm_replica_coordinator.specs.declared.coordinator.Coordinator.{Coordinator}

-- ---- it collects

-- the collection is of this log, for these members
abbrev pub Collects : Collect → ℕ → Log → List ℕ → List LogPage → Type 0
Collects c n log ms pages = CollectStands log (spec_decided n (decision log)) (named_in n (decision log) ms) ms pages c

-- the coordinator collects, where the log knows the decision
abbrev pub CollectsOver : Coordinator → ℕ → ℕ → Log → List ℕ → List LogPage → Type 0
CollectsOver coordinator me n log ms pages = CoordinatorStands coordinator me n (decision log) (CoordinatorOnPaper.Collecting ms pages)

abbrev pub WhereCollecting : Coordinator → (ℕ → ℕ → Option Decision → List ℕ → List LogPage → Type 0) → Type 0
WhereCollecting coordinator P =
    (me n : ℕ) (known : Option Decision) (ms : List ℕ) (pages : List LogPage) →
    CoordinatorStands coordinator me n known (CoordinatorOnPaper.Collecting ms pages) → P me n known ms pages

-- ---- it prepares

-- the answer of a replica that had accepted this
abbrev pub answer_of : ℕ → Held Decision → Answer Decision
answer_of k accepted = record { replica = k; accepted = accepted }

-- the coordinator where these have answered
abbrev pub AnsweredIs : Coordinator → ℕ → ℕ → Option Decision → Ballot → Decision → List (Answer Decision) → Type 0
AnsweredIs coordinator me n known b own answers = CoordinatorStands coordinator me n known (answered (spec_decided n known) b own answers)

-- for a decision of replica me's own over this Spec, and its ballot in the round after that of another ballot
abbrev pub WhereNextRound : ℕ → Decision → List ℕ → Ballot → (ℕ → Option Decision → Ballot → Type 0) → Type 0
WhereNextRound me own spec above P =
    (n round : ℕ) (known : Option Decision) →
    IsOwn me n known own → spec ≡ spec_decided n known → round ≡ above.round + 1 → P n known (record { round = round; by = me })

-- for a coordinator that prepares, and a replica of the Spec that has not answered
abbrev pub WhereUnanswered : Coordinator → ℕ → (ℕ → ℕ → Option Decision → Ballot → Decision → List (Answer Decision) → Type 0) → Type 0
WhereUnanswered coordinator k P =
    (me n : ℕ) (known : Option Decision) (b : Ballot) (own : Decision) (answers : List (Answer Decision)) →
    CoordinatorStands coordinator me n known (CoordinatorOnPaper.Preparing b own answers) →
    has (spec_decided n known) k ≡ true → has (map (λ f. f.replica) answers) k ≡ false → P me n known b own answers

-- the same for the answer of whichever such replica
abbrev pub WhereAnswerCounts : Coordinator → (ℕ → ℕ → Option Decision → List (Answer Decision) → Answer Decision → Type 0) → Type 0
WhereAnswerCounts coordinator P =
    (me n : ℕ) (known : Option Decision) (b : Ballot) (own : Decision) (answers : List (Answer Decision)) (a : Answer Decision) →
    CoordinatorStands coordinator me n known (CoordinatorOnPaper.Preparing b own answers) →
    has (spec_decided n known) a.replica ≡ true → has (map (λ f. f.replica) answers) a.replica ≡ false → P me n known answers a

-- ---- it proposes

abbrev pub WhereProposing : Coordinator → (ℕ → ℕ → Option Decision → Ballot → Decision → Decision → List ℕ → Type 0) → Type 0
WhereProposing coordinator P =
    (me n : ℕ) (known : Option Decision) (b : Ballot) (own value : Decision) (acceptors : List ℕ) →
    CoordinatorStands coordinator me n known (CoordinatorOnPaper.Proposing b own value acceptors) → P me n known b own value acceptors

-- ---- its ballot is over

abbrev pub WherePreempted : Coordinator → (ℕ → ℕ → Option Decision → Decision → Ballot → Type 0) → Type 0
WherePreempted coordinator P =
    (me n : ℕ) (known : Option Decision) (own : Decision) (seen : Ballot) →
    CoordinatorStands coordinator me n known (CoordinatorOnPaper.Preempted own seen) → P me n known own seen
