-- The counting of promises for the ballot in progress.
use Rattle.std.proofs.Common.{◌≡◌, ℕ, ◌+◌, List, [], ◌∷◌, ◌++◌, refl, sym, ◌∙◌, ap, Bool, true, false, map}
use Rattle.std.specs.Prelude.{◌==◌, ◌&&◌, not, Some}
use Rattle.std.proofs.lemmas.Bool.{false≢true}
use Rattle.crsm_base.specs.Order.{ballot_eq}
use Rattle.crsm_spec.specs.Types.{Ballot, Decision}
use Rattle.crsm_spec.specs.Choice.{when◌then◌otherwise◌}
use Rattle.crsm_spec.specs.Lists.{has}
use Rattle.crsm_spec.specs.Log.{known}
use Rattle.crsm_spec.specs.Paxos.{Held, Answer, value_of}
use Rattle.crsm_spec.specs.Quorum.{has_majority}
use Rattle.crsm_spec.specs.Replica.{Coordinator, spec_of}
use Rattle.crsm_spec.specs.Draft.{Draft, keep, noting}
use Rattle.crsm_spec.specs.Coordinate.{instance, has_accepted, count_acceptor, accept_own, count_answer}
use Rattle.crsm_spec.specs.Controls.{if_spec, on_p1b}
use Rattle.crsm_replica_coordinator.specs.Coordinator.{takes_answer, proposal_with}
use Rattle.crsm_replica_reconfigure.specs.Rules.{receives_answer}
use Rattle.crsm_replica_reconfigure.proofs.DraftLemmas.{when_yes}
use Rattle.crsm_replica_reconfigure.proofs.BeginLemmas.{count_last}
use Rattle.crsm_replica_reconfigure.proofs.OwnLemmas.{renewed_fitting}

-- ---- the own acceptance fits alike whatever the coordinator is

either_fits : (p q : Bool) (a c x y : Draft) → x.fitting ≡ y.fitting → (when p then a otherwise when q then c otherwise x).fitting ≡ (when p then a otherwise when q then c otherwise y).fitting
unfolding when◌then◌otherwise◌
either_fits true q a c x y h = refl
either_fits false true a c x y h = refl
either_fits false false a c x y h = h

own_noted : (b : Ballot) (own value : Decision) (acceptors : List ℕ) (m : Coordinator) (x : Draft) → (accept_own b own value acceptors (noting m x)).fitting ≡ (accept_own b own value acceptors x).fitting
unfolding accept_own count_acceptor has_accepted instance noting keep spec_of
own_noted b own value acceptors m x = either_fits _ _ _ _ _ _ refl

-- where this promise makes the majority
pub last_fitting : (b : Ballot) (own : Decision) (answers : List (Answer Decision)) (a : Answer Decision) (x : Draft) → has_majority (spec_of x.replica) (map (λ f. f.replica) (answers ++ a ∷ [])) ≡ true →
    (accept_own b own (value_of own (answers ++ a ∷ [])) [] x).fitting ≡ (count_answer b own answers a x).fitting
last_fitting b own answers a x h =
    let v = value_of own (answers ++ a ∷ []) in
    let y : Draft = noting (Coordinator.Proposing b own v []) x in
    sym (ap (λ z. z.fitting) (count_last b own answers a x h) ∙ renewed_fitting b own v [] y ∙ own_noted b own v [] (Coordinator.Proposing b own v []) x)

pub proposes_with : (b : Ballot) (own : Decision) (answers : List (Answer Decision)) (a : Answer Decision) → proposal_with (Coordinator.Preparing b own answers) a ≡ Some (b, value_of own (answers ++ a ∷ []))
unfolding proposal_with
proposes_with b own answers a = refl

-- ---- which promises count

-- what is known of a promise that counts
pub record IsAnswerFor (k i : ℕ) (b : Ballot) (held : Held Decision) (x : Draft) : Type 0 where
  pub c : Ballot
  pub own : Decision
  pub answers : List (Answer Decision)
  pub is : x.replica.coordinator ≡ Coordinator.Preparing c own answers
  pub counted : has (spec_of x.replica) k ≡ true
  pub first : has (map (λ f. f.replica) answers) k ≡ false
  pub rule : receives_answer k i b held x ≡ count_answer c own answers (record { replica = k; accepted = held }) x

not_is : (p : Bool) → not p ≡ true → p ≡ false
not_is true h = sym h
not_is false h = refl

both_first : (p q : Bool) → (p && q) ≡ true → p ≡ true
both_first true q h = refl
both_first false q h = h

both_second : (p q : Bool) → (p && q) ≡ true → q ≡ true
both_second true q h = h
both_second false q h = absurd (false≢true h)

joined : (p q r : Bool) → p ≡ true → (q && r) ≡ true → ((p && q) && r) ≡ true
joined true q r h i = i
joined false q r h i = absurd (false≢true h)

answer_in : (k i : ℕ) (b : Ballot) (held : Held Decision) (x : Draft) (m : Coordinator) → x.replica.coordinator ≡ m → has (spec_of x.replica) k ≡ true → (i == known x.replica.log + 1) ≡ true → takes_answer m b k ≡ true → IsAnswerFor k i b held x
unfolding takes_answer receives_answer if_spec on_p1b
answer_in k i b held x Coordinator.Idle e h n t = absurd (false≢true t)
answer_in k i b held x (Coordinator.Collecting ms pages) e h n t = absurd (false≢true t)
answer_in k i b held x (Coordinator.Proposing c own value acceptors) e h n t = absurd (false≢true t)
answer_in k i b held x (Coordinator.Preempted own seen) e h n t = absurd (false≢true t)
answer_in k i b held x (Coordinator.Preparing c own answers) e h n t = record {
  c = c;
  own = own;
  answers = answers;
  is = e;
  counted = h;
  first = not_is _ (both_second (ballot_eq b c) _ t);
  rule = when_yes _ _ x h ∙ ap (λ m. on_p1b i b (record { replica = k; accepted = held }) m x) e
      ∙ when_yes _ _ x (joined (i == known x.replica.log + 1) (ballot_eq b c) (not (has (map (λ f. f.replica) answers) k)) n t);
}

pub answer_counts : (k i : ℕ) (b : Ballot) (held : Held Decision) (x : Draft) → (has (spec_of x.replica) k && (i == known x.replica.log + 1)) ≡ true → takes_answer x.replica.coordinator b k ≡ true → IsAnswerFor k i b held x
answer_counts k i b held x h t = answer_in k i b held x x.replica.coordinator refl (both_first _ _ h) (both_second _ _ h) t

no_rule : (p : Bool) (x : Draft) → (when p then x otherwise x) ≡ x
unfolding when◌then◌otherwise◌
no_rule true x = refl
no_rule false x = refl

no_count : (p q r s : Bool) (x y : Draft) → ((p && q) && (r && s)) ≡ false → (when p then (when (q && r) && s then y otherwise x) otherwise x) ≡ x
unfolding when◌then◌otherwise◌
no_count false q r s x y h = refl
no_count true false r s x y h = refl
no_count true true false s x y h = refl
no_count true true true false x y h = refl
no_count true true true true x y h = absurd (false≢true (sym h))

no_answer_in : (k i : ℕ) (b : Ballot) (held : Held Decision) (x : Draft) (m : Coordinator) → ((has (spec_of x.replica) k && (i == known x.replica.log + 1)) && takes_answer m b k) ≡ false → if_spec k x (on_p1b i b (record { replica = k; accepted = held }) m x) ≡ x
unfolding takes_answer if_spec on_p1b
no_answer_in k i b held x Coordinator.Idle h = no_rule _ x
no_answer_in k i b held x (Coordinator.Collecting ms pages) h = no_rule _ x
no_answer_in k i b held x (Coordinator.Proposing c own value acceptors) h = no_rule _ x
no_answer_in k i b held x (Coordinator.Preempted own seen) h = no_rule _ x
no_answer_in k i b held x (Coordinator.Preparing c own answers) h =
    no_count (has (spec_of x.replica) k) (i == known x.replica.log + 1) (ballot_eq b c) (not (has (map (λ f. f.replica) answers) k)) x (count_answer c own answers (record { replica = k; accepted = held }) x) h

pub answer_ignored : (k i : ℕ) (b : Ballot) (held : Held Decision) (x : Draft) → ((has (spec_of x.replica) k && (i == known x.replica.log + 1)) && takes_answer x.replica.coordinator b k) ≡ false → receives_answer k i b held x ≡ x
unfolding receives_answer
answer_ignored k i b held x h = no_answer_in k i b held x x.replica.coordinator h
