-- The counting of votes and refusals, and the choice of a decision.
use Rattle.std.proofs.Common.{◌≡◌, ℕ, ◌+◌, List, ◌∷◌, refl, sym, ◌∙◌, ap, subst, Bool, true, false}
use Rattle.std.specs.Prelude.{◌==◌, ◌&&◌, ◌||◌, not, filter, Option, Some}
use Rattle.std.proofs.lemmas.Bool.{false≢true}
use Rattle.std.proofs.lemmas.Option.{same_Some}
use Rattle.crsm_base.specs.Order.{ballot_lt, ballot_eq}
use Rattle.crsm_spec.specs.Types.{Ballot, Decision, Control}
use Rattle.crsm_spec.specs.Choice.{when◌then◌otherwise◌}
use Rattle.crsm_spec.specs.Lists.{has, numbers_below}
use Rattle.crsm_spec.specs.Log.{known, decision, spec}
use Rattle.crsm_spec.specs.Quorum.{spec_decided, has_majority}
use Rattle.crsm_spec.specs.Replica.{Replica, Coordinator, spec_of}
use Rattle.crsm_spec.specs.Draft.{Draft, keep, noting, send_to_each}
use Rattle.crsm_spec.specs.Coordinate.{learn, both_specs, on_chosen, count_acceptor}
use Rattle.crsm_spec.specs.Controls.{if_spec, on_p1no, on_p2b}
use Rattle.crsm_replica_coordinator.specs.Coordinator.{CoordinatorStands, VotedIs, takes_vote, is_ended_by, preempted_by}
use Rattle.crsm_replica_coordinator.specs.declared.coordinator.Coordinator.{Coordinator as InMemory}
use Rattle.crsm_replica_coordinator.specs.declared.coordinator.Voted.{Voted}
use Rattle.crsm_replica_reconfigure.specs.Rules.{receives_no, receives_vote}
use Rattle.crsm_replica_reconfigure.proofs.DraftLemmas.{when_yes, when_no, each_fitting}

-- ---- a decision is chosen

pub chosen_fitting : (d : Decision) (x : Draft) → (on_chosen d x).fitting ≡ (learn d x).fitting
unfolding on_chosen
chosen_fitting d x = each_fitting _ _ (learn d x)

pub chosen_as : (d : Decision) (x : Draft) (old new : List ℕ) (me : ℕ) → old ≡ spec_of x.replica → me ≡ x.replica.me → new ≡ spec_of ((learn d x).replica) →
    send_to_each (filter (λ k. (has old k || has new k) && not (k == me)) (numbers_below 15)) (Control.Decide d) (learn d x) ≡ on_chosen d x
unfolding on_chosen both_specs
chosen_as d x old new me o m n =
    ap (λ s. send_to_each (filter (λ k. (has s k || has new k) && not (k == me)) (numbers_below 15)) (Control.Decide d) (learn d x)) o
    ∙ ap (λ s. send_to_each (filter (λ k. (has (spec_of x.replica) k || has s k) && not (k == me)) (numbers_below 15)) (Control.Decide d) (learn d x)) n
    ∙ ap (λ i. send_to_each (filter (λ k. (has (spec_of x.replica) k || has (spec_of ((learn d x).replica)) k) && not (k == i)) (numbers_below 15)) (Control.Decide d) (learn d x)) m

-- whatever the coordinator was
pub chosen_coordinator : (d : Decision) (m : Coordinator) (x : Draft) → on_chosen d (noting m x) ≡ on_chosen d x
unfolding on_chosen learn both_specs noting keep spec_of
chosen_coordinator d m x = refl

-- ---- votes

pub spec_is : (r : Replica) → spec_of r ≡ spec_decided r.n (decision r.log)
unfolding spec_of spec
spec_is r = refl

pub vote_last : (b : Ballot) (own value : Decision) (acceptors : List ℕ) (k : ℕ) (x : Draft) → has_majority (spec_decided x.replica.n (decision x.replica.log)) (k ∷ acceptors) ≡ true →
    count_acceptor b own value acceptors k x ≡ on_chosen value x
unfolding count_acceptor
vote_last b own value acceptors k x h =
    when_yes _ _ _ (ap (λ s. has_majority s (k ∷ acceptors)) (spec_is x.replica) ∙ h) ∙ chosen_coordinator value (Coordinator.Proposing b own value (k ∷ acceptors)) x

pub vote_more : (b : Ballot) (own value : Decision) (acceptors : List ℕ) (k : ℕ) (x : Draft) → has_majority (spec_decided x.replica.n (decision x.replica.log)) (k ∷ acceptors) ≡ false →
    count_acceptor b own value acceptors k x ≡ noting (Coordinator.Proposing b own value (k ∷ acceptors)) x
unfolding count_acceptor
vote_more b own value acceptors k x h = when_no _ _ _ (ap (λ s. has_majority s (k ∷ acceptors)) (spec_is x.replica) ∙ h)

pub noted_twice : (m : Coordinator) (x : Draft) → noting m (noting Coordinator.Idle x) ≡ noting m x
unfolding noting
noted_twice m x = refl

pub noted_fitting : (m : Coordinator) (x : Draft) → (noting m x).fitting ≡ x.fitting
unfolding noting
noted_fitting m x = refl

pub voted_more : (voted : Voted) (coordinator : InMemory) (me n : ℕ) (known : Option Decision) (b : Ballot) (own value : Decision) (acceptors : List ℕ) → voted ≡ Voted.More coordinator →
    VotedIs voted me n known b own value acceptors → CoordinatorStands coordinator me n known (Coordinator.Proposing b own value acceptors)
unfolding VotedIs
voted_more voted coordinator me n known b own value acceptors e v = (subst (λ u. VotedIs u me n known b own value acceptors) e v).1

pub voted_not_more : (voted : Voted) (me n : ℕ) (known : Option Decision) (b : Ballot) (own value : Decision) (acceptors : List ℕ) → VotedIs voted me n known b own value acceptors →
    has_majority (spec_decided n known) acceptors ≡ false → ((coordinator : InMemory) → voted ≡ Voted.More coordinator → ⊥) → ⊥
unfolding VotedIs
voted_not_more (Voted.More coordinator) me n known b own value acceptors v h not_more = not_more coordinator refl
voted_not_more (Voted.Chosen d) me n known b own value acceptors v h not_more = false≢true (sym h ∙ v.0)

pub same_value : (o : Option (Ballot × Decision)) (p b : Ballot) (v w : Decision) → o ≡ Some (p, v) → o ≡ Some (b, w) → v ≡ w
same_value o p b v w h i = ap (λ q. q.1) (same_Some _ _ (sym h ∙ i))

pub same_round : (o : Option (Ballot × Decision)) (p b : Ballot) (v w : Decision) → o ≡ Some (p, v) → o ≡ Some (b, w) → p ≡ b
same_round o p b v w h i = ap (λ q. q.0) (same_Some _ _ (sym h ∙ i))

-- what is known of a vote that counts
pub record IsVoteFor (k i : ℕ) (b : Ballot) (x : Draft) : Type 0 where
  pub c : Ballot
  pub own : Decision
  pub value : Decision
  pub acceptors : List ℕ
  pub is : x.replica.coordinator ≡ Coordinator.Proposing c own value acceptors
  pub counted : has (spec_of x.replica) k ≡ true
  pub rule : receives_vote k i b x ≡ count_acceptor c own value acceptors k x

vote_in : (k i : ℕ) (b : Ballot) (x : Draft) (m : Coordinator) → x.replica.coordinator ≡ m → has (spec_of x.replica) k ≡ true → (i == known x.replica.log + 1) ≡ true → takes_vote m b k ≡ true → IsVoteFor k i b x
unfolding takes_vote receives_vote if_spec on_p2b
vote_in k i b x Coordinator.Idle e h n t = absurd (false≢true t)
vote_in k i b x (Coordinator.Collecting ms pages) e h n t = absurd (false≢true t)
vote_in k i b x (Coordinator.Preparing c own answers) e h n t = absurd (false≢true t)
vote_in k i b x (Coordinator.Preempted own seen) e h n t = absurd (false≢true t)
vote_in k i b x (Coordinator.Proposing c own value acceptors) e h n t = record {
  c = c;
  own = own;
  value = value;
  acceptors = acceptors;
  is = e;
  counted = h;
  rule = when_yes _ _ x h ∙ ap (λ m. on_p2b k i b m x) e ∙ when_yes _ _ x (joined (i == known x.replica.log + 1) (ballot_eq b c) (not (has acceptors k)) n t);
}
  where
    joined : (p q r : Bool) → p ≡ true → (q && r) ≡ true → ((p && q) && r) ≡ true
    joined true q r h i = i
    joined false q r h i = absurd (false≢true h)

pub vote_counts : (k i : ℕ) (b : Ballot) (x : Draft) → (has (spec_of x.replica) k && (i == known x.replica.log + 1)) ≡ true → takes_vote x.replica.coordinator b k ≡ true → IsVoteFor k i b x
vote_counts k i b x h t = vote_in k i b x x.replica.coordinator refl (first _ _ h) (second _ _ h) t
  where
    first : (p q : Bool) → (p && q) ≡ true → p ≡ true
    first true q h = refl
    first false q h = h

    second : (p q : Bool) → (p && q) ≡ true → q ≡ true
    second true q h = h
    second false q h = absurd (false≢true h)

no_vote_in : (k i : ℕ) (b : Ballot) (x : Draft) (m : Coordinator) → ((has (spec_of x.replica) k && (i == known x.replica.log + 1)) && takes_vote m b k) ≡ false → if_spec k x (on_p2b k i b m x) ≡ x
unfolding takes_vote if_spec on_p2b when◌then◌otherwise◌
no_vote_in k i b x Coordinator.Idle h = same (has (spec_of x.replica) k)
  where
    same : (p : Bool) → (when p then x otherwise x) ≡ x
    same true = refl
    same false = refl
no_vote_in k i b x (Coordinator.Collecting ms pages) h = same (has (spec_of x.replica) k)
  where
    same : (p : Bool) → (when p then x otherwise x) ≡ x
    same true = refl
    same false = refl
no_vote_in k i b x (Coordinator.Preparing c own answers) h = same (has (spec_of x.replica) k)
  where
    same : (p : Bool) → (when p then x otherwise x) ≡ x
    same true = refl
    same false = refl
no_vote_in k i b x (Coordinator.Preempted own seen) h = same (has (spec_of x.replica) k)
  where
    same : (p : Bool) → (when p then x otherwise x) ≡ x
    same true = refl
    same false = refl
no_vote_in k i b x (Coordinator.Proposing c own value acceptors) h = go (has (spec_of x.replica) k) (i == known x.replica.log + 1) (ballot_eq b c) (not (has acceptors k)) h
  where
    go : (p q r s : Bool) → ((p && q) && (r && s)) ≡ false → (when p then (when (q && r) && s then count_acceptor c own value acceptors k x otherwise x) otherwise x) ≡ x
    go false q r s h = refl
    go true false r s h = refl
    go true true false s h = refl
    go true true true false h = refl
    go true true true true h = absurd (false≢true (sym h))

pub vote_ignored : (k i : ℕ) (b : Ballot) (x : Draft) → ((has (spec_of x.replica) k && (i == known x.replica.log + 1)) && takes_vote x.replica.coordinator b k) ≡ false → receives_vote k i b x ≡ x
unfolding receives_vote
vote_ignored k i b x h = no_vote_in k i b x x.replica.coordinator h

-- ---- refusals

refused_in : (k i : ℕ) (b top : Ballot) (x : Draft) (m : Coordinator) → (t : Bool) → ((has (spec_of x.replica) k && (i == known x.replica.log + 1)) && is_ended_by m b top) ≡ t →
    if_spec k x (on_p1no i b top m x) ≡ (when t then noting (preempted_by m top) x otherwise x)
unfolding is_ended_by preempted_by if_spec on_p1no when◌then◌otherwise◌
refused_in k i b top x Coordinator.Idle t h = go (has (spec_of x.replica) k) (i == known x.replica.log + 1) t h
  where
    go : (p q t : Bool) → ((p && q) && false) ≡ t → (when p then x otherwise x) ≡ (when t then noting Coordinator.Idle x otherwise x)
    go true true true h = absurd (false≢true h)
    go true false true h = absurd (false≢true h)
    go false q true h = absurd (false≢true h)
    go true q false h = refl
    go false q false h = refl
refused_in k i b top x (Coordinator.Collecting ms pages) t h = go (has (spec_of x.replica) k) (i == known x.replica.log + 1) t h
  where
    go : (p q t : Bool) → ((p && q) && false) ≡ t → (when p then x otherwise x) ≡ (when t then noting (Coordinator.Collecting ms pages) x otherwise x)
    go true true true h = absurd (false≢true h)
    go true false true h = absurd (false≢true h)
    go false q true h = absurd (false≢true h)
    go true q false h = refl
    go false q false h = refl
refused_in k i b top x (Coordinator.Preempted own seen) t h = go (has (spec_of x.replica) k) (i == known x.replica.log + 1) t h
  where
    go : (p q t : Bool) → ((p && q) && false) ≡ t → (when p then x otherwise x) ≡ (when t then noting (Coordinator.Preempted own seen) x otherwise x)
    go true true true h = absurd (false≢true h)
    go true false true h = absurd (false≢true h)
    go false q true h = absurd (false≢true h)
    go true q false h = refl
    go false q false h = refl
refused_in k i b top x (Coordinator.Preparing c own answers) t h = go (has (spec_of x.replica) k) (i == known x.replica.log + 1) (ballot_eq b c) (ballot_lt b top) t h
  where
    go : (p q r s t : Bool) → ((p && q) && (r && s)) ≡ t → (when p then (when (q && r) && s then noting (Coordinator.Preempted own top) x otherwise x) otherwise x) ≡ (when t then noting (Coordinator.Preempted own top) x otherwise x)
    go true true true true true h = refl
    go true true true true false h = absurd (false≢true (sym h))
    go true true true false true h = absurd (false≢true h)
    go true true true false false h = refl
    go true true false s true h = absurd (false≢true h)
    go true true false s false h = refl
    go true false r s true h = absurd (false≢true h)
    go true false r s false h = refl
    go false q r s true h = absurd (false≢true h)
    go false q r s false h = refl
refused_in k i b top x (Coordinator.Proposing c own value acceptors) t h = go (has (spec_of x.replica) k) (i == known x.replica.log + 1) (ballot_eq b c) (ballot_lt b top) t h
  where
    go : (p q r s t : Bool) → ((p && q) && (r && s)) ≡ t → (when p then (when (q && r) && s then noting (Coordinator.Preempted own top) x otherwise x) otherwise x) ≡ (when t then noting (Coordinator.Preempted own top) x otherwise x)
    go true true true true true h = refl
    go true true true true false h = absurd (false≢true (sym h))
    go true true true false true h = absurd (false≢true h)
    go true true true false false h = refl
    go true true false s true h = absurd (false≢true h)
    go true true false s false h = refl
    go true false r s true h = absurd (false≢true h)
    go true false r s false h = refl
    go false q r s true h = absurd (false≢true h)
    go false q r s false h = refl

pub no_ends : (k i : ℕ) (b top : Ballot) (x : Draft) → ((has (spec_of x.replica) k && (i == known x.replica.log + 1)) && is_ended_by x.replica.coordinator b top) ≡ true → receives_no k i b top x ≡ noting (preempted_by x.replica.coordinator top) x
unfolding receives_no
no_ends k i b top x h = refused_in k i b top x x.replica.coordinator true h ∙ when_yes true _ x refl

pub no_ignored : (k i : ℕ) (b top : Ballot) (x : Draft) → ((has (spec_of x.replica) k && (i == known x.replica.log + 1)) && is_ended_by x.replica.coordinator b top) ≡ false → receives_no k i b top x ≡ x
unfolding receives_no
no_ignored k i b top x h = refused_in k i b top x x.replica.coordinator false h ∙ when_no false _ x refl
