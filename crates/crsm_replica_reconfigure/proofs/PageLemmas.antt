-- The transfer of executed entries.
use Rattle.std.proofs.Common.{◌≡◌, ℕ, ◌<◌, List, [], ◌∷◌, ◌++◌, length, drop, refl, sym, ◌∙◌, ap, subst, arith, Bool, true, false}
use Rattle.std.specs.Prelude.{◌-◌, ◌==◌, ◌&&◌, ◌||◌, not, nat_lt, nat_le, take, Option, Some, None, if◌then◌else◌}
use Rattle.std.specs.Option.{option_map_or}
use Rattle.std.proofs.lemmas.Bool.{false≢true, eqb-true}
use Rattle.std.proofs.lemmas.Bool.Decides.{nat_tests}
use Rattle.std.proofs.lemmas.Option.{none-some, same_Some}
use Rattle.crsm_base.specs.Messages.{FitsControl}
use Rattle.crsm_base.specs.Spelling.{FitsOption, FitsEntries, FitsDecision}
use Rattle.crsm_spec.specs.Types.{Entry, Decision, Rec, Control}
use Rattle.crsm_spec.specs.Choice.{when◌then◌otherwise◌}
use Rattle.crsm_spec.specs.Log.{Log, known, decision, executed, live, suspended, active}
use Rattle.crsm_spec.specs.Fits.{booted}
use Rattle.crsm_spec.specs.Draft.{Draft, keep, send_control, send_decision, send_retrieve}
use Rattle.crsm_spec.specs.Coordinate.{advance, adopt_tail}
use Rattle.crsm_spec.specs.Controls.{page_from, on_retrieve, new_entries, may_adopt, on_page}
use Rattle.crsm_replica.specs.Sound.{IsSound}
use Rattle.crsm_transfer.specs.declared.answer.Fit.{Fit}
use Rattle.crsm_transfer.specs.declared.answer.Fit.TheVariants.{Ahead, Gap, Nothing, Adopt}
use Rattle.crsm_transfer.specs.Fitting.{IsPage, fit_of, fit_in}
use Rattle.crsm_transfer.specs.Paging.{page_at}
use Rattle.crsm_fact_log.proofs.EntriesFit.{take_fits, drop_fits}
use Rattle.crsm_fact_log.proofs.LogsFit.{decision_fits}
use Rattle.crsm_replica_reconfigure.specs.Rules.{CanAdopt, on_page_in, send_executed, take_executed, rest_goes_on}
use Rattle.crsm_replica_reconfigure.proofs.DraftLemmas.{when_yes, when_no, booted_more, rest_fits, enter_fitting, retrieve_fitting}

-- ---- sending

pub page_gone : (k from : ℕ) (x : Draft) → None ≡ page_at x.replica.log from → send_executed k from x ≡ x
unfolding page_at send_executed
page_gone k from x h = go (nat_lt from (length (executed x.replica.log))) refl h
  where
    go : (b : Bool) → nat_lt from (length (executed x.replica.log)) ≡ b → None ≡ (if b then Some (page_from x.replica.log from) else None) →
        (when nat_lt from (length (executed x.replica.log)) then send_control (page_from x.replica.log from) x k otherwise x) ≡ x
    go true e h = absurd (none-some _ h)
    go false e h = when_no _ _ x e

pub page_there : (k from : ℕ) (x : Draft) (c : Control) → Some c ≡ page_at x.replica.log from → (c ≡ page_from x.replica.log from) × (send_executed k from x ≡ send_control (page_from x.replica.log from) x k)
unfolding page_at send_executed
page_there k from x c h = go (nat_lt from (length (executed x.replica.log))) refl h
  where
    go : (b : Bool) → nat_lt from (length (executed x.replica.log)) ≡ b → Some c ≡ (if b then Some (page_from x.replica.log from) else None) →
        (c ≡ page_from x.replica.log from) × ((when nat_lt from (length (executed x.replica.log)) then send_control (page_from x.replica.log from) x k otherwise x) ≡ send_control (page_from x.replica.log from) x k)
    go true e h = (same_Some c _ h, when_yes _ _ x e)
    go false e h = absurd (none-some c (sym h))

pub retrieve_old : (k e from : ℕ) (x : Draft) → e < known x.replica.log → on_retrieve k e from x ≡ send_decision k x
unfolding on_retrieve
retrieve_old k e from x h = when_yes _ _ _ (grind (arith, nat_tests))

pub retrieve_more : (k e from : ℕ) (x : Draft) → known x.replica.log < e → on_retrieve k e from x ≡ send_retrieve k (send_executed k from x)
unfolding on_retrieve send_executed
retrieve_more k e from x h = when_no _ _ _ (grind (arith, nat_tests)) ∙ when_yes _ _ _ (grind (arith, nat_tests))

pub retrieve_same : (k e from : ℕ) (x : Draft) → known x.replica.log ≡ e → on_retrieve k e from x ≡ send_executed k from x
unfolding on_retrieve send_executed
retrieve_same k e from x h = when_no _ _ _ (grind (arith, nat_tests)) ∙ when_no _ _ _ (grind (arith, nat_tests))

-- ---- taking

-- the tests of a rule and of a fit
some_is : (es : List Entry) (t : Bool) → (length es == 0) ≡ t → (nat_lt 0 (length es) ≡ not t)
some_is es true h = grind (arith, nat_tests)
some_is es false h = grind (arith, nat_tests)

apart_is : (log : Log) → not (live log && not (suspended log)) ≡ not (active log)
unfolding active
apart_is log = refl

le_not : (a b : ℕ) → nat_le a b ≡ not (nat_lt b a)
le_not a b = go (nat_lt b a) refl
  where
    go : (t : Bool) → nat_lt b a ≡ t → nat_le a b ≡ not t
    go true h = grind (arith, nat_tests)
    go false h = grind (arith, nat_tests)

-- the rule by the four tests of a fit
page_as : (k e from : ℕ) (es : List Entry) (x : Draft) (p q r t : Bool) → nat_lt (known x.replica.log) e ≡ p → nat_lt (length (executed x.replica.log)) from ≡ q → active x.replica.log ≡ r →
    (length (new_entries x.replica.log from es) == 0) ≡ t → on_page k e from es x ≡ (when ((not p && not q) && not r) && not t then take_executed k (new_entries x.replica.log from es) x otherwise x)
unfolding on_page may_adopt take_executed
page_as k e from es x p q r t hp hq hr ht =
    ap (λ b. when b then take_executed k (new_entries x.replica.log from es) x otherwise x) (tests
    (nat_le e (known x.replica.log)) (nat_le from (length (executed x.replica.log))) (not (live x.replica.log && not (suspended x.replica.log))) (nat_lt 0 (length (new_entries x.replica.log from es)))
    (le_not e (known x.replica.log) ∙ ap not hp) (le_not from (length (executed x.replica.log)) ∙ ap not hq) (apart_is x.replica.log ∙ ap not hr) (some_is (new_entries x.replica.log from es) t ht))
  where
    tests : (a b c d : Bool) → a ≡ not p → b ≡ not q → c ≡ not r → d ≡ not t → (((a && b) && c) && d) ≡ (((not p && not q) && not r) && not t)
    tests a b c d h i j l = ap (λ y. ((y && b) && c) && d) h ∙ ap (λ y. ((not p && y) && c) && d) i ∙ ap (λ y. ((not p && not q) && y) && d) j ∙ ap (λ y. ((not p && not q) && not r) && y) l

fit_as : (log : Log) (e from : ℕ) (es : List Entry) (p q r t : Bool) → nat_lt (known log) e ≡ p → nat_lt (length (executed log)) from ≡ q → active log ≡ r → (length (new_entries log from es) == 0) ≡ t →
    fit_of log e from es ≡ (if p then Ahead else if q then Gap else if r || t then Nothing else Adopt (new_entries log from es))
unfolding fit_of
fit_as log e from es p q r t hp hq hr ht =
    ap (λ b. if b then Ahead else if nat_lt (length (executed log)) from then Gap else if active log || (length (new_entries log from es) == 0) then Nothing else Adopt (new_entries log from es)) hp
    ∙ ap (λ b. if p then Ahead else if b then Gap else if active log || (length (new_entries log from es) == 0) then Nothing else Adopt (new_entries log from es)) hq
    ∙ ap (λ b. if p then Ahead else if q then Gap else if b || (length (new_entries log from es) == 0) then Nothing else Adopt (new_entries log from es)) hr
    ∙ ap (λ b. if p then Ahead else if q then Gap else if r || b then Nothing else Adopt (new_entries log from es)) ht

not_taken : (k e from : ℕ) (es : List Entry) (x : Draft) (fit : Fit) → fit ≡ fit_of x.replica.log e from es → ((zs : List Entry) → fit ≡ Adopt zs → ⊥) → on_page k e from es x ≡ x
not_taken k e from es x fit is never =
    go (nat_lt (known x.replica.log) e) (nat_lt (length (executed x.replica.log)) from) (active x.replica.log) (length (new_entries x.replica.log from es) == 0) refl refl refl refl
  where
    go : (p q r t : Bool) → nat_lt (known x.replica.log) e ≡ p → nat_lt (length (executed x.replica.log)) from ≡ q → active x.replica.log ≡ r → (length (new_entries x.replica.log from es) == 0) ≡ t → on_page k e from es x ≡ x
    go true q r t hp hq hr ht = page_as k e from es x true q r t hp hq hr ht ∙ when_no _ _ x refl
    go false true r t hp hq hr ht = page_as k e from es x false true r t hp hq hr ht ∙ when_no _ _ x refl
    go false false true t hp hq hr ht = page_as k e from es x false false true t hp hq hr ht ∙ when_no _ _ x refl
    go false false false true hp hq hr ht = page_as k e from es x false false false true hp hq hr ht ∙ when_no _ _ x refl
    go false false false false hp hq hr ht = absurd (never (new_entries x.replica.log from es) (is ∙ fit_as x.replica.log e from es false false false false hp hq hr ht))

pub page_ignored : (k : ℕ) (page : Control) (x : Draft) (fit : Fit) → IsPage page → fit ≡ fit_in x.replica.log page → ((zs : List Entry) → fit ≡ Adopt zs → ⊥) → on_page_in k page x ≡ x
page_ignored k (Control.Page e from es) x fit p is never = not_taken k e from es x fit is never
page_ignored k (Control.Suspend e after) x fit p is never = absurd p
page_ignored k (Control.SuspendOk e done last after whole es) x fit p is never = absurd p
page_ignored k (Control.P1a i b) x fit p is never = absurd p
page_ignored k (Control.P1b i b v) x fit p is never = absurd p
page_ignored k (Control.P1no i b top) x fit p is never = absurd p
page_ignored k (Control.P2a i b d) x fit p is never = absurd p
page_ignored k (Control.P2b i b) x fit p is never = absurd p
page_ignored k (Control.Decide d) x fit p is never = absurd p
page_ignored k (Control.Retrieve e from) x fit p is never = absurd p

new_fits : (log : Log) (from : ℕ) (es : List Entry) → FitsEntries es → FitsEntries (new_entries log from es)
unfolding new_entries when◌then◌otherwise◌
new_fits log from es f = go (decision log)
  where
    dropped : FitsEntries (drop (length (executed log) - from) es)
    dropped = drop_fits (length (executed log) - from) es f

    go : (o : Option Decision) → FitsEntries (option_map_or (λ d. when nat_lt (length (executed log)) d.base_len then take (d.base_len - length (executed log)) (drop (length (executed log) - from) es) otherwise drop (length (executed log) - from) es) o (drop (length (executed log) - from) es))
    go None = dropped
    go (Some d) = either (nat_lt (length (executed log)) d.base_len)
      where
        either : (b : Bool) → FitsEntries (when b then take (d.base_len - length (executed log)) (drop (length (executed log) - from) es) otherwise drop (length (executed log) - from) es)
        either true = take_fits (d.base_len - length (executed log)) (drop (length (executed log) - from) es) dropped
        either false = dropped

-- what is known of the entries that fit
pub record IsTaken (k : ℕ) (page : Control) (x : Draft) (es : List Entry) : Type 0 where
  pub rule : on_page_in k page x ≡ take_executed k es x
  pub spelt : FitsEntries es
  pub can : CanAdopt x es

no_length : (es : List Entry) → (length es == 0) ≡ false → es ≡ [] → ⊥
no_length [] h e = false≢true (sym h)
no_length (z ∷ es) h e = absurd (cc e)

taken : (k e from : ℕ) (es : List Entry) (x : Draft) (zs : List Entry) → FitsEntries es → Adopt zs ≡ fit_of x.replica.log e from es → IsTaken k (Control.Page e from es) x zs
taken k e from es x zs f is =
    go (nat_lt (known x.replica.log) e) (nat_lt (length (executed x.replica.log)) from) (active x.replica.log) (length (new_entries x.replica.log from es) == 0) refl refl refl refl
  where
    go : (p q r t : Bool) → nat_lt (known x.replica.log) e ≡ p → nat_lt (length (executed x.replica.log)) from ≡ q → active x.replica.log ≡ r → (length (new_entries x.replica.log from es) == 0) ≡ t → IsTaken k (Control.Page e from es) x zs
    go true q r t hp hq hr ht = absurd (cc (is ∙ fit_as x.replica.log e from es true q r t hp hq hr ht))
    go false true r t hp hq hr ht = absurd (cc (is ∙ fit_as x.replica.log e from es false true r t hp hq hr ht))
    go false false true t hp hq hr ht = absurd (cc (is ∙ fit_as x.replica.log e from es false false true t hp hq hr ht))
    go false false false true hp hq hr ht = absurd (cc (is ∙ fit_as x.replica.log e from es false false false true hp hq hr ht))
    go false false false false hp hq hr ht =
        let same : zs ≡ new_entries x.replica.log from es = adopt_same zs (new_entries x.replica.log from es) (is ∙ fit_as x.replica.log e from es false false false false hp hq hr ht) in
        record {
          rule = page_as k e from es x false false false false hp hq hr ht ∙ when_yes _ _ x refl ∙ ap (λ ys. take_executed k ys x) (sym same);
          spelt = subst (λ ys. FitsEntries ys) (sym same) (new_fits x.replica.log from es f);
          can = record { apart = hr; some = λ none. no_length (new_entries x.replica.log from es) ht (sym same ∙ none) };
        }
      where
        adopt_same : (ys zs : List Entry) → Adopt ys ≡ Adopt zs → ys ≡ zs
        adopt_same ys zs h = cc h

pub page_taken : (k : ℕ) (page : Control) (x : Draft) (zs : List Entry) → IsPage page → FitsControl page → Adopt zs ≡ fit_in x.replica.log page → IsTaken k page x zs
page_taken k (Control.Page e from es) x zs p f is = taken k e from es x zs f.2 is
page_taken k (Control.Suspend e after) x zs p f is = absurd p
page_taken k (Control.SuspendOk e done last after whole es) x zs p f is = absurd p
page_taken k (Control.P1a i b) x zs p f is = absurd p
page_taken k (Control.P1b i b v) x zs p f is = absurd p
page_taken k (Control.P1no i b top) x zs p f is = absurd p
page_taken k (Control.P2a i b d) x zs p f is = absurd p
page_taken k (Control.P2b i b) x zs p f is = absurd p
page_taken k (Control.Decide d) x zs p f is = absurd p
page_taken k (Control.Retrieve e from) x zs p f is = absurd p

-- ---- whether all of it fits

kept_booted : (x : Draft) (es : List Entry) (place : ℕ) → booted x.replica.log ≡ true → booted ((keep (Rec.Adopt place es) x).replica.log) ≡ true
unfolding keep
kept_booted x es place b = booted_more (Rec.Adopt place es) x.replica.log b

kept_decision : (x : Draft) (es : List Entry) (place : ℕ) → decision ((keep (Rec.Adopt place es) x).replica.log) ≡ decision x.replica.log
unfolding keep decision
kept_decision x es place = refl

kept_apart : (x : Draft) (es : List Entry) (place : ℕ) → active x.replica.log ≡ false → active ((keep (Rec.Adopt place es) x).replica.log) ≡ false
unfolding keep active live suspended
kept_apart x es place h = h

kept_executed : (x : Draft) (es : List Entry) (place : ℕ) → executed ((keep (Rec.Adopt place es) x).replica.log) ≡ executed x.replica.log ++ es
unfolding keep executed
kept_executed x es place = refl

pub tail_fits : (x : Draft) (es : List Entry) (place : ℕ) → IsSound x → CanAdopt x es →
    (adopt_tail (keep (Rec.Adopt place es) x)).fitting ≡ ((keep (Rec.Adopt place es) x).fitting && rest_goes_on (decision x.replica.log) (executed x.replica.log ++ es))
tail_fits x es place s c =
    rest_fits (keep (Rec.Adopt place es) x) (kept_booted x es place s.on_record)
    (subst (λ o. FitsOption FitsDecision o) (sym (kept_decision x es place)) (decision_fits x.replica.log s.spelt)) (kept_apart x es place c.apart)
    ∙ ap (λ o. (keep (Rec.Adopt place es) x).fitting && rest_goes_on o (executed ((keep (Rec.Adopt place es) x).replica.log))) (kept_decision x es place)
    ∙ ap (λ l. (keep (Rec.Adopt place es) x).fitting && rest_goes_on (decision x.replica.log) l) (kept_executed x es place)

pub take_fitting : (k : ℕ) (x : Draft) (es : List Entry) → IsSound x → CanAdopt x es →
    (take_executed k es x).fitting ≡ ((keep (Rec.Adopt (length (executed x.replica.log)) es) x).fitting && rest_goes_on (decision x.replica.log) (executed x.replica.log ++ es))
unfolding take_executed advance
take_fitting k x es s c =
    retrieve_fitting k _ ∙ enter_fitting (adopt_tail (keep (Rec.Adopt (length (executed x.replica.log)) es) x)) ∙ tail_fits x es (length (executed x.replica.log)) s c

pub no_entries : (es : List Entry) → (length es == 0) ≡ true → es ≡ []
no_entries [] h = refl
no_entries (e ∷ es) h = let z = eqb-true (length (e ∷ es)) 0 h in absurd (omega (arith, z))
