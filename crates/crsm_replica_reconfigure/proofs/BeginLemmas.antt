-- The beginning of a proposal of an own decision: its effect, and whether its records fit.
use Rattle.std.proofs.Common.{◌≡◌, ℕ, ◌+◌, List, [], ◌∷◌, ◌++◌, refl, sym, ◌∙◌, ap, subst, arith, Bool, true, false, map}
use Rattle.std.specs.Prelude.{◌&&◌, ◌==◌, Option, Some, None}
use Rattle.std.proofs.lemmas.Bool.{false≢true, eq-eqb}
use Rattle.std.proofs.lemmas.Bool.Decides.{nat_tests}
use Rattle.crsm_base.specs.Messages.{FitsVote}
use Rattle.crsm_base.specs.Order.{ballot_lt}
use Rattle.crsm_base.specs.Spelling.{FitsDecision, FitsOption}
use Rattle.crsm_spec.specs.Types.{Ballot, Entry, Decision, Rec}
use Rattle.crsm_spec.specs.Choice.{when◌then◌otherwise◌}
use Rattle.crsm_spec.specs.Clock.{u64_max}
use Rattle.crsm_spec.specs.Log.{known, decision, spec, executed, promised, accepted}
use Rattle.crsm_spec.specs.Fits.{fits, booted}
use Rattle.crsm_spec.specs.Paxos.{Held, Answer, value_of}
use Rattle.crsm_spec.specs.Quorum.{spec_decided, has_majority}
use Rattle.crsm_spec.specs.Replica.{Coordinator, spec_of}
use Rattle.crsm_spec.specs.Draft.{Draft, keep, noting}
use Rattle.crsm_spec.specs.Coordinate.{instance, accept_own, send_ask, propose, count_answer, ask, greater_ballot, begin_proposing}
use Rattle.crsm_spec.specs.Step.{renew}
use Rattle.crsm_fact_log.proofs.Tests.{above_top}
use Rattle.crsm_fact_log.proofs.LogsFit.{accepted_fits}
use Rattle.crsm_replica_coordinator.specs.declared.coordinator.Coordinator.{Coordinator as InMemory}
use Rattle.crsm_replica_coordinator.specs.Coordinator.{CoordinatorStands, answered}
use Rattle.crsm_replica.specs.Sound.{IsSound}
use Rattle.crsm_replica_reconfigure.specs.Rules.{CanPropose, BeginsAlike}
use Rattle.crsm_replica_reconfigure.proofs.AlikeLemmas.{alike_self}
use Rattle.crsm_replica_reconfigure.proofs.DraftLemmas.{when_yes, when_no, and_first, booted_more, keep_fitting}
use Rattle.crsm_replica_reconfigure.proofs.ChoiceLemmas.{noted_fitting}
use Rattle.crsm_replica_reconfigure.proofs.OwnLemmas.{own_fits, own_fitting, spec_as, ask_fitting, renewed_asks, renewed_fitting}

-- ---- ballots

below_not_above : (a b : Ballot) → ballot_lt a b ≡ true → ballot_lt b a ≡ false
unfolding ballot_lt
below_not_above a b h = grind (arith, nat_tests)

not_below_itself : (b : Ballot) → ballot_lt b b ≡ false
unfolding ballot_lt
not_below_itself b = grind (arith, nat_tests)

-- ---- promises are counted

pub count_more : (b : Ballot) (own : Decision) (answers : List (Answer Decision)) (a : Answer Decision) (x : Draft) → has_majority (spec_of x.replica) (map (λ f. f.replica) (answers ++ a ∷ [])) ≡ false →
    count_answer b own answers a x ≡ noting (Coordinator.Preparing b own (answers ++ a ∷ [])) x
unfolding count_answer
count_more b own answers a x h = when_no _ _ _ h

pub count_last : (b : Ballot) (own : Decision) (answers : List (Answer Decision)) (a : Answer Decision) (x : Draft) → has_majority (spec_of x.replica) (map (λ f. f.replica) (answers ++ a ∷ [])) ≡ true →
    count_answer b own answers a x ≡ renew (Coordinator.Proposing b own (value_of own (answers ++ a ∷ [])) []) (noting (Coordinator.Proposing b own (value_of own (answers ++ a ∷ [])) []) x)
unfolding count_answer propose renew noting
count_last b own answers a x h = when_yes _ _ _ h

pub answered_more : (spec : List ℕ) (b : Ballot) (own : Decision) (answers : List (Answer Decision)) → has_majority spec (map (λ f. f.replica) answers) ≡ false → answered spec b own answers ≡ Coordinator.Preparing b own answers
unfolding answered
answered_more spec b own answers h = when_no _ _ _ h

pub answered_last : (spec : List ℕ) (b : Ballot) (own : Decision) (answers : List (Answer Decision)) → has_majority spec (map (λ f. f.replica) answers) ≡ true → answered spec b own answers ≡ Coordinator.Proposing b own (value_of own answers) []
unfolding answered
answered_last spec b own answers h = when_yes _ _ _ h

-- ---- a ballot is asked for

-- a replica's own answer
abbrev pub mine : Draft → Answer Decision
mine x = record { replica = x.replica.me; accepted = accepted x.replica.log }

promised_spec : (i : ℕ) (b : Ballot) (m : Coordinator) (x : Draft) → spec_of ((noting m (keep (Rec.Promise i b) x)).replica) ≡ spec_of x.replica
unfolding noting keep spec_of spec decision
promised_spec i b m x = refl

pub ask_more : (b : Ballot) (own : Decision) (x : Draft) → has_majority (spec_of x.replica) (x.replica.me ∷ []) ≡ false →
    ask b own x ≡ send_ask (Coordinator.Preparing b own (mine x ∷ [])) (noting (Coordinator.Preparing b own (mine x ∷ [])) (keep (Rec.Promise (instance x) b) x))
unfolding ask noting
ask_more b own x h =
    ap (λ y. send_ask y.replica.coordinator y) (count_more b own [] (mine x) (noting (Coordinator.Preparing b own []) (keep (Rec.Promise (instance x) b) x))
    (ap (λ ks. has_majority ks (x.replica.me ∷ [])) (promised_spec (instance x) b (Coordinator.Preparing b own []) x) ∙ h))

pub ask_last : (b : Ballot) (own : Decision) (x : Draft) → has_majority (spec_of x.replica) (x.replica.me ∷ []) ≡ true →
    ask b own x ≡ renew (Coordinator.Proposing b own (value_of own (mine x ∷ [])) []) (noting (Coordinator.Proposing b own (value_of own (mine x ∷ [])) []) (keep (Rec.Promise (instance x) b) x))
unfolding ask noting
ask_last b own x h =
    ap (λ y. send_ask y.replica.coordinator y) (count_last b own [] (mine x) (noting (Coordinator.Preparing b own []) (keep (Rec.Promise (instance x) b) x))
    (ap (λ ks. has_majority ks (x.replica.me ∷ [])) (promised_spec (instance x) b (Coordinator.Preparing b own []) x) ∙ h))
    ∙ renewed_asks b own (value_of own (mine x ∷ [])) [] (noting (Coordinator.Proposing b own (value_of own (mine x ∷ [])) []) (keep (Rec.Promise (instance x) b) x)) refl

-- ---- the beginning

-- the ballot of a replica in the round after that of another
abbrev pub after : Ballot → ℕ → Ballot
after top me = record { round = top.round + 1; by = me }

pub round_left : (top : Ballot) → (top.round ≡ u64_max → ⊥) → (top.round == u64_max) ≡ false
round_left top h = grind (arith, nat_tests)

pub begin_spent : (own : Decision) (seen : Ballot) (x : Draft) → ((greater_ballot (promised x.replica.log) seen).round == u64_max) ≡ true → begin_proposing own seen x ≡ noting Coordinator.Idle x
unfolding begin_proposing
begin_spent own seen x h = when_yes _ _ _ h

pub begin_asks : (own : Decision) (seen : Ballot) (x : Draft) → ((greater_ballot (promised x.replica.log) seen).round == u64_max) ≡ false →
    begin_proposing own seen x ≡ ask (after (greater_ballot (promised x.replica.log) seen) x.replica.me) own x
unfolding begin_proposing
begin_asks own seen x h = when_no _ _ _ h

pub promise_kept : (seen : Ballot) (x : Draft) → x.fitting ≡ true → booted x.replica.log ≡ true → (keep (Rec.Promise (instance x) (after (greater_ballot (promised x.replica.log) seen) x.replica.me)) x).fitting ≡ true
unfolding fits instance
promise_kept seen x fit on =
    keep_fitting _ x ∙ and_first _ _ fit
    ∙ both (booted x.replica.log) (known x.replica.log + 1 == known x.replica.log + 1) _ on (eq-eqb (known x.replica.log + 1) (known x.replica.log + 1) refl) (above_top (promised x.replica.log) seen x.replica.me)
  where
    both : (p q r : Bool) → p ≡ true → q ≡ true → r ≡ true → ((p && q) && r) ≡ true
    both true true r h i j = j
    both true false r h i j = absurd (false≢true i)
    both false q r h i j = absurd (false≢true h)

-- whether the records fit, by the facts on which they depend
unfoldable begin_fits : Decision → Ballot → ℕ → ℕ → Option Decision → Held Decision → List Entry → Bool
begin_fits own top me n d held done =
    when top.round == u64_max then true
    otherwise when has_majority (spec_decided n d) (me ∷ [])
    then own_fits (after top me) (value_of own (record { replica = me; accepted = held } ∷ [])) [] me n d held done
    otherwise true

pub value_spelt : (me : ℕ) (own : Decision) (held : Held Decision) → FitsDecision own → FitsOption FitsVote held → FitsDecision (value_of own (record { replica = me; accepted = held } ∷ []))
value_spelt me own None f h = f
value_spelt me own (Some p) f h = h.1

-- after the own promise
promised_fits_same : (i : ℕ) (b : Ballot) (v : Decision) (m : Coordinator) (x : Draft) →
    own_fits b v [] (noting m (keep (Rec.Promise i b) x)).replica.me (noting m (keep (Rec.Promise i b) x)).replica.n (decision ((noting m (keep (Rec.Promise i b) x)).replica.log)) (accepted ((noting m (keep (Rec.Promise i b) x)).replica.log)) (executed ((noting m (keep (Rec.Promise i b) x)).replica.log))
    ≡ own_fits b v [] x.replica.me x.replica.n (decision x.replica.log) (accepted x.replica.log) (executed x.replica.log)
unfolding noting keep decision accepted executed
promised_fits_same i b v m x = refl

promised_booted : (i : ℕ) (b : Ballot) (m : Coordinator) (x : Draft) → booted x.replica.log ≡ true → booted ((noting m (keep (Rec.Promise i b) x)).replica.log) ≡ true
unfolding noting keep
promised_booted i b m x on = booted_more (Rec.Promise i b) x.replica.log on

promised_not_below : (i : ℕ) (b : Ballot) (m : Coordinator) (x : Draft) → ballot_lt b (promised ((noting m (keep (Rec.Promise i b) x)).replica.log)) ≡ false
unfolding noting keep promised
promised_not_below i b m x = not_below_itself b

begin_fitting : (own : Decision) (seen : Ballot) (x : Draft) → x.fitting ≡ true → booted x.replica.log ≡ true → FitsDecision own → FitsOption FitsVote (accepted x.replica.log) →
    (begin_proposing own seen x).fitting ≡ begin_fits own (greater_ballot (promised x.replica.log) seen) x.replica.me x.replica.n (decision x.replica.log) (accepted x.replica.log) (executed x.replica.log)
unfolding begin_fits
begin_fitting own seen x fit on f held = go ((greater_ballot (promised x.replica.log) seen).round == u64_max) (has_majority (spec_decided x.replica.n (decision x.replica.log)) (x.replica.me ∷ [])) refl refl
  where
    go : (t m : Bool) → ((greater_ballot (promised x.replica.log) seen).round == u64_max) ≡ t → has_majority (spec_decided x.replica.n (decision x.replica.log)) (x.replica.me ∷ []) ≡ m →
        (begin_proposing own seen x).fitting ≡ begin_fits own (greater_ballot (promised x.replica.log) seen) x.replica.me x.replica.n (decision x.replica.log) (accepted x.replica.log) (executed x.replica.log)
    go true m t h = ap (λ y. y.fitting) (begin_spent own seen x t) ∙ noted_fitting Coordinator.Idle x ∙ fit ∙ sym (when_yes _ _ _ t)
    go false false t h =
        ap (λ y. y.fitting) (begin_asks own seen x t ∙ ask_more (after (greater_ballot (promised x.replica.log) seen) x.replica.me) own x (ap (λ ks. has_majority ks (x.replica.me ∷ [])) (spec_as x) ∙ h))
        ∙ ask_fitting _ _ ∙ noted_fitting _ _ ∙ promise_kept seen x fit on ∙ sym (when_no _ _ _ t ∙ when_no _ _ _ h)
    go false true t h =
        let v = value_of own (mine x ∷ []) in
        let m : Coordinator = Coordinator.Proposing (after (greater_ballot (promised x.replica.log) seen) x.replica.me) own v [] in
        let y : Draft = noting m (keep (Rec.Promise (instance x) (after (greater_ballot (promised x.replica.log) seen) x.replica.me)) x) in
        ap (λ y. y.fitting) (begin_asks own seen x t ∙ ask_last (after (greater_ballot (promised x.replica.log) seen) x.replica.me) own x (ap (λ ks. has_majority ks (x.replica.me ∷ [])) (spec_as x) ∙ h))
        ∙ renewed_fitting (after (greater_ballot (promised x.replica.log) seen) x.replica.me) own v [] y
        ∙ own_fitting (after (greater_ballot (promised x.replica.log) seen) x.replica.me) own v [] y (noted_fitting m _ ∙ promise_kept seen x fit on) (promised_booted (instance x) _ m x on)
        (value_spelt x.replica.me own (accepted x.replica.log) f held) (promised_not_below (instance x) _ m x)
        ∙ promised_fits_same (instance x) _ v m x ∙ sym (when_no _ _ _ t ∙ when_yes _ _ _ h)

-- ---- drafts that are alike

begins_alike : (own : Decision) (seen : Ballot) (x y : Draft) → IsSound x → CanPropose own seen x → BeginsAlike x y →
    (begin_proposing own seen y).fitting ≡ begin_fits own (greater_ballot (promised x.replica.log) seen) x.replica.me x.replica.n (decision x.replica.log) (accepted x.replica.log) (executed x.replica.log)
begins_alike own seen x y s c a =
    begin_fitting own seen y a.fitting a.on_record c.0.spelt (subst (λ o. FitsOption FitsVote o) (sym a.accepts) (accepted_fits x.replica.log s.spelt))
    ∙ ap (λ p. begin_fits own (greater_ballot p seen) y.replica.me y.replica.n (decision y.replica.log) (accepted y.replica.log) (executed y.replica.log)) a.promises
    ∙ ap (λ k. begin_fits own (greater_ballot (promised x.replica.log) seen) k y.replica.n (decision y.replica.log) (accepted y.replica.log) (executed y.replica.log)) a.me
    ∙ ap (λ n. begin_fits own (greater_ballot (promised x.replica.log) seen) x.replica.me n (decision y.replica.log) (accepted y.replica.log) (executed y.replica.log)) a.n
    ∙ ap (λ d. begin_fits own (greater_ballot (promised x.replica.log) seen) x.replica.me x.replica.n d (accepted y.replica.log) (executed y.replica.log)) a.knows
    ∙ ap (λ h. begin_fits own (greater_ballot (promised x.replica.log) seen) x.replica.me x.replica.n (decision x.replica.log) h (executed y.replica.log)) a.accepts
    ∙ ap (begin_fits own (greater_ballot (promised x.replica.log) seen) x.replica.me x.replica.n (decision x.replica.log) (accepted x.replica.log)) a.executes

module _ (own : Decision) (seen top : Ballot) (x y : Draft) (s : IsSound x) (c : CanPropose own seen x) (a : BeginsAlike x y) (t : top ≡ greater_ballot (promised x.replica.log) seen) where
  same_round : (top.round == u64_max) ≡ ((greater_ballot (promised x.replica.log) seen).round == u64_max)
  same_round = ap (λ p. p.round == u64_max) t

  -- no round is left
  pub fits_spent : (top.round == u64_max) ≡ true → true ≡ (begin_proposing own seen y).fitting
  unfolding begin_fits
  fits_spent h = sym (begins_alike own seen x y s c a ∙ when_yes _ _ _ (sym same_round ∙ h))

  -- others are asked
  pub fits_asking : (top.round == u64_max) ≡ false → has_majority (spec_of x.replica) (x.replica.me ∷ []) ≡ false → true ≡ (begin_proposing own seen y).fitting
  unfolding begin_fits
  fits_asking h few = sym (begins_alike own seen x y s c a ∙ when_no _ _ _ (sym same_round ∙ h) ∙ when_no _ _ _ (ap (λ ks. has_majority ks (x.replica.me ∷ [])) (sym (spec_as x)) ∙ few))

  -- the replica is alone
  pub fits_alone : (b : Ballot) (value : Decision) → (top.round == u64_max) ≡ false → has_majority (spec_of x.replica) (x.replica.me ∷ []) ≡ true → b ≡ after top x.replica.me → value ≡ value_of own (mine x ∷ []) →
      (accept_own b own value [] x).fitting ≡ (begin_proposing own seen y).fitting
  unfolding begin_fits
  fits_alone b value h many is v =
      ap (λ d. (accept_own b own d [] x).fitting) v ∙ ap (λ c. (accept_own c own (value_of own (mine x ∷ [])) [] x).fitting) (is ∙ ap (λ p. after p x.replica.me) t)
      ∙ own_fitting (after (greater_ballot (promised x.replica.log) seen) x.replica.me) own (value_of own (mine x ∷ [])) [] x s.fitting s.on_record
      (value_spelt x.replica.me own (accepted x.replica.log) c.0.spelt (accepted_fits x.replica.log s.spelt))
      (below_not_above (promised x.replica.log) _ (above_top (promised x.replica.log) seen x.replica.me))
      ∙ sym (begins_alike own seen x y s c a ∙ when_no _ _ _ (sym same_round ∙ h) ∙ when_yes _ _ _ (ap (λ ks. has_majority ks (x.replica.me ∷ [])) (sym (spec_as x)) ∙ many))

-- where the replica is no majority alone
pub begins_shared : (own : Decision) (seen : Ballot) (x : Draft) → IsSound x → CanPropose own seen x → has_majority (spec_of x.replica) (x.replica.me ∷ []) ≡ false → (begin_proposing own seen x).fitting ≡ true
begins_shared own seen x s c few = go ((greater_ballot (promised x.replica.log) seen).round == u64_max) refl
  where
    go : (t : Bool) → ((greater_ballot (promised x.replica.log) seen).round == u64_max) ≡ t → (begin_proposing own seen x).fitting ≡ true
    go true h = sym (fits_spent own seen _ x x s c (alike_self x s) refl h)
    go false h = sym (fits_asking own seen _ x x s c (alike_self x s) refl h few)

-- ---- on a state

-- what a coordinator stands for does not depend on promises
pub kept_stands : (coordinator : InMemory) (i : ℕ) (b : Ballot) (m : Coordinator) (x : Draft) → CoordinatorStands coordinator x.replica.me x.replica.n (decision x.replica.log) m →
    CoordinatorStands coordinator (keep (Rec.Promise i b) x).replica.me (keep (Rec.Promise i b) x).replica.n (decision ((keep (Rec.Promise i b) x).replica.log)) m
unfolding keep decision
kept_stands coordinator i b m x s = s

pub kept_instance : (x : Draft) (i : ℕ) (b c : Ballot) → i ≡ instance x → b ≡ c → keep (Rec.Promise i b) x ≡ keep (Rec.Promise (instance x) c) x
kept_instance x i b c h e = ap (λ j. keep (Rec.Promise j b) x) h ∙ ap (λ q. keep (Rec.Promise (instance x) q) x) e
