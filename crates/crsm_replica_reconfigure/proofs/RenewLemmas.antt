-- The retries of a coordinator, by its stage.
use Rattle.std.proofs.Common.{◌≡◌, ◌∙◌, ℕ, refl, sym, ap, subst, List, [], ◌∷◌, Bool, true}
use Rattle.std.specs.Prelude.{fold}
use Rattle.crsm_spec.specs.Types.{Ballot, Decision}
use Rattle.crsm_spec.specs.Paxos.{Answer}
use Rattle.crsm_spec.specs.Replica.{Coordinator, LogPage}
use Rattle.crsm_spec.specs.Draft.{Draft}
use Rattle.crsm_spec.specs.Coordinate.{send_ask}
use Rattle.crsm_spec.specs.Step.{ask_page, missing, send_collect, ask_all, renew, if_fitting}
use Rattle.crsm_replica.specs.declared.state.ReplicaState.{ReplicaState}
use Rattle.crsm_replica.specs.Replica.{ReplicaStands}
use Rattle.crsm_replica_coordinator.specs.declared.coordinator.Stage.{Stage}
use Rattle.crsm_replica_coordinator.specs.Coordinator.{stage_of}
use Rattle.crsm_replica_reconfigure.proofs.DraftLemmas.{when_same, instead, is_whole, send_fitting, each_fitting, all_fitting}

-- ---- the coordinator of a stage

pub is_quiet : (m : Coordinator) → Stage.Idle ≡ stage_of m → m ≡ Coordinator.Idle
unfolding stage_of
is_quiet Coordinator.Idle h = refl
is_quiet (Coordinator.Collecting ms pages) h = absurd (cc)
is_quiet (Coordinator.Preparing b own answers) h = absurd (cc)
is_quiet (Coordinator.Proposing b own value acceptors) h = absurd (cc)
is_quiet (Coordinator.Preempted own seen) h = absurd (cc)

pub is_collecting : (m : Coordinator) → Stage.Collecting ≡ stage_of m → (ms : List ℕ) × (pages : List LogPage) × (m ≡ Coordinator.Collecting ms pages)
unfolding stage_of
is_collecting Coordinator.Idle h = absurd (cc)
is_collecting (Coordinator.Collecting ms pages) h = (ms, pages, refl)
is_collecting (Coordinator.Preparing b own answers) h = absurd (cc)
is_collecting (Coordinator.Proposing b own value acceptors) h = absurd (cc)
is_collecting (Coordinator.Preempted own seen) h = absurd (cc)

pub is_asking : (m : Coordinator) → Stage.Preparing ≡ stage_of m → (b : Ballot) × (own : Decision) × (answers : List (Answer Decision)) × (m ≡ Coordinator.Preparing b own answers)
unfolding stage_of
is_asking Coordinator.Idle h = absurd (cc)
is_asking (Coordinator.Collecting ms pages) h = absurd (cc)
is_asking (Coordinator.Preparing b own answers) h = (b, own, answers, refl)
is_asking (Coordinator.Proposing b own value acceptors) h = absurd (cc)
is_asking (Coordinator.Preempted own seen) h = absurd (cc)

-- what is proposed
pub record Proposes (m : Coordinator) : Type 0 where
  pub ballot : Ballot
  pub own : Decision
  pub value : Decision
  pub acceptors : List ℕ
  pub is : m ≡ Coordinator.Proposing ballot own value acceptors

pub is_proposing : (m : Coordinator) → Stage.Proposing ≡ stage_of m → Proposes m
unfolding stage_of
is_proposing Coordinator.Idle h = absurd (cc)
is_proposing (Coordinator.Collecting ms pages) h = absurd (cc)
is_proposing (Coordinator.Preparing b own answers) h = absurd (cc)
is_proposing (Coordinator.Proposing b own value acceptors) h = record { ballot = b; own = own; value = value; acceptors = acceptors; is = refl }
is_proposing (Coordinator.Preempted own seen) h = absurd (cc)

pub is_over : (m : Coordinator) → Stage.Preempted ≡ stage_of m → (own : Decision) × (seen : Ballot) × (m ≡ Coordinator.Preempted own seen)
unfolding stage_of
is_over Coordinator.Idle h = absurd (cc)
is_over (Coordinator.Collecting ms pages) h = absurd (cc)
is_over (Coordinator.Preparing b own answers) h = absurd (cc)
is_over (Coordinator.Proposing b own value acceptors) h = absurd (cc)
is_over (Coordinator.Preempted own seen) h = (own, seen, refl)

-- ---- what is done again

pub renews_nothing : (x : Draft) → renew Coordinator.Idle x ≡ x
unfolding renew
renews_nothing x = refl

pub renews_collection : (ms : List ℕ) (pages : List LogPage) (x : Draft) → send_collect pages x ≡ renew (Coordinator.Collecting ms pages) x
unfolding renew
renews_collection ms pages x = refl

pub renews_question : (b : Ballot) (own : Decision) (answers : List (Answer Decision)) (x : Draft) →
    send_ask (Coordinator.Preparing b own answers) x ≡ renew (Coordinator.Preparing b own answers) x
unfolding renew
renews_question b own answers x = refl

-- ---- it keeps nothing

pages_fitting : (ks : List ℕ) (pages : List LogPage) (x : Draft) → (fold (ask_page pages) x ks).fitting ≡ x.fitting
unfolding ask_page
pages_fitting [] pages x = refl
pages_fitting (k ∷ ks) pages x = pages_fitting ks pages (ask_page pages x k) ∙ send_fitting _ x k

pub collect_fitting : (pages : List LogPage) (x : Draft) → (send_collect pages x).fitting ≡ x.fitting
unfolding send_collect
collect_fitting pages x = pages_fitting (missing x.replica pages) pages x

pub question_fitting : (b : Ballot) (own : Decision) (answers : List (Answer Decision)) (x : Draft) → (send_ask (Coordinator.Preparing b own answers) x).fitting ≡ x.fitting
unfolding send_ask
question_fitting b own answers x = each_fitting _ _ x

pub asked_all_fitting : (x : Draft) → (ask_all x).fitting ≡ x.fitting
unfolding ask_all
asked_all_fitting x = when_same (λ y. y.fitting) _ _ _ x.fitting refl (all_fitting _ x)

-- ---- the answer, and the state

-- a rule that fits makes this of the state, and the answer is that it does
pub all_fits : (state : ReplicaState) (x y z : Draft) → y ≡ z → y.fitting ≡ true → ReplicaStands state y → (true ≡ z.fitting) × ReplicaStands state (if_fitting x z)
all_fits state x y z e f s = (sym (ap (λ w. w.fitting) (sym e) ∙ f), instead state x y z e (is_whole state x y f s))

-- what holds of a coordinator's renewal holds of that of a coordinator that is the same
pub renewed_as : (state : ReplicaState) (x : Draft) (fit : Bool) (m k : Coordinator) → m ≡ k → (fit ≡ (renew k x).fitting) × ReplicaStands state (if_fitting x (renew k x)) →
    (fit ≡ (renew m x).fitting) × ReplicaStands state (if_fitting x (renew m x))
renewed_as state x fit m k e h = subst (λ n. (fit ≡ (renew n x).fitting) × ReplicaStands state (if_fitting x (renew n x))) (sym e) h
