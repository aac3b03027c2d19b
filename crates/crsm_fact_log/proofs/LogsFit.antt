-- The values read off a log can be encoded if each of its records can.
use Rattle.std.proofs.Common.{◌≡◌, ℕ, ◌*◌, ◌<◌, ◌≤◌, List, [], ◌∷◌, ◌++◌, length, drop, refl, sym, ◌∙◌, subst, inl, inr, Bool, true, false, cond, arith}
use Rattle.std.specs.Prelude.{◌⊎◌, ◌^◌, IsTrue, Option, Some, None, nat_le, nat_lt, ◌==◌, find, filter, option_to_list, option_map}
use Rattle.std.specs.List.{AllByRecursion, list_all, last_or}
use Rattle.std.specs.Option.{option_map_or}
use Rattle.std.proofs.lemmas.Bool.{and_parts, leb-true, ltb-true, ltb-false, eq-eqb, false≢true}
use Rattle.std.proofs.lemmas.Option.{none-some, same_Some}
use Rattle.std.proofs.lemmas.List.{append-nil, length-append}
use Rattle.crsm_base.specs.Order.{stamp_lt, stamp_eq, entry_lt}
use Rattle.crsm_base.specs.Spelling.{FitsOption, FitsStamp, FitsBallot, FitsEntry, FitsEntries, FitsDecision, IsBefore, Rises}
use Rattle.crsm_base.specs.Messages.{FitsVote}
use Rattle.crsm_base.specs.Records.{FitsRec}
use Rattle.crsm_spec.specs.Types.{Stamp, Entry, Decision, Rec}
use Rattle.crsm_spec.specs.Lists.{Among, first_of, last_of}
use Rattle.crsm_spec.specs.Log.{Log, known, decision, executed, logged, logged_in, entry_of, unexecuted, above, last_stamp, promised, accepted, no_ballot}
use Rattle.crsm_spec.specs.Fits.{fits, goes_on}
use Rattle.crsm_spec.specs.Collect.{first_page, frozen, asked_of}
use Rattle.crsm_fact_log.specs.Logs.{AllFit, Logged, AreSpelt}
use Rattle.crsm_fact_log.proofs.Tests.{same_stamp}
use Rattle.crsm_fact_log.proofs.Lists.{kept_from, all-drop, list_all_at, all_at, all_from, all-append, first_among, last_among}
use Rattle.crsm_fact_log.proofs.Sorted.{rises_above, above_from}
use Rattle.crsm_fact_log.proofs.Logged.{logged_rises, logged_is, decide_above}
use Rattle.crsm_fact_log.proofs.EntriesFit.{drop_rises, page_fits, IsBehind, rises_then, stamp_before, entry_before, rises_in}

-- ---- decisions, promises and acceptances

pub decision_fits : (log : Log) → AreSpelt log → FitsOption FitsDecision (decision log)
unfolding decision
decision_fits [] h = tt
decision_fits (Rec.Boot me n ∷ log) h = decision_fits log h.1
decision_fits (Rec.Prepare e ∷ log) h = decision_fits log h.1
decision_fits (Rec.Commit s ∷ log) h = decision_fits log h.1
decision_fits (Rec.Adopt place es ∷ log) h = decision_fits log h.1
decision_fits (Rec.Suspend x ∷ log) h = decision_fits log h.1
decision_fits (Rec.Promise i b ∷ log) h = decision_fits log h.1
decision_fits (Rec.Accept i b d ∷ log) h = decision_fits log h.1
decision_fits (Rec.Decide d ∷ log) h = h.0
decision_fits (Rec.Enter x ∷ log) h = decision_fits log h.1

pub known_small : (log : Log) → AreSpelt log → known log < 2 ^ 64
unfolding known
known_small log h = go (decision log) (decision_fits log h)
  where
    go : (o : Option Decision) → FitsOption FitsDecision o → option_map_or (λ d. d.epoch) o 0 < 2 ^ 64
    go None f = omega arith
    go (Some d) f = f.epoch

pub accepted_fits : (log : Log) → AreSpelt log → FitsOption FitsVote (accepted log)
unfolding accepted
accepted_fits [] h = tt
accepted_fits (Rec.Boot me n ∷ log) h = accepted_fits log h.1
accepted_fits (Rec.Prepare e ∷ log) h = accepted_fits log h.1
accepted_fits (Rec.Commit s ∷ log) h = accepted_fits log h.1
accepted_fits (Rec.Adopt place es ∷ log) h = accepted_fits log h.1
accepted_fits (Rec.Suspend x ∷ log) h = accepted_fits log h.1
accepted_fits (Rec.Promise i b ∷ log) h = accepted_fits log h.1
accepted_fits (Rec.Accept i b d ∷ log) h = (h.0.1, h.0.2)
accepted_fits (Rec.Decide d ∷ log) h = tt
accepted_fits (Rec.Enter x ∷ log) h = accepted_fits log h.1

pub no_fits : FitsBallot no_ballot
unfolding no_ballot
no_fits = record { round = omega arith; by = omega arith }

pub promised_fits : (log : Log) → AreSpelt log → FitsBallot (promised log)
unfolding promised
promised_fits [] h = no_fits
promised_fits (Rec.Boot me n ∷ log) h = promised_fits log h.1
promised_fits (Rec.Prepare e ∷ log) h = promised_fits log h.1
promised_fits (Rec.Commit s ∷ log) h = promised_fits log h.1
promised_fits (Rec.Adopt place es ∷ log) h = promised_fits log h.1
promised_fits (Rec.Suspend x ∷ log) h = promised_fits log h.1
promised_fits (Rec.Promise i b ∷ log) h = h.0.1
promised_fits (Rec.Accept i b d ∷ log) h = h.0.1
promised_fits (Rec.Decide d ∷ log) h = no_fits
promised_fits (Rec.Enter x ∷ log) h = promised_fits log h.1

-- ---- entries

pub logged_fits : (log : Log) (z : Entry) → AreSpelt log → Logged log z → FitsEntry z
logged_fits log z h a = all_at FitsRec log (Rec.Prepare z) h a

find_among : (test : Entry → Bool) (es : List Entry) (z : Entry) → find test es ≡ Some z → Among es z × IsTrue (test z)
find_among test [] z h = absurd (none-some z h)
find_among test (e ∷ es) z h = go (λ q. find_among test es z q) (test e) refl h
  where
    go : (find test es ≡ Some z → Among es z × IsTrue (test z)) → (c : Bool) → test e ≡ c → cond c (Some e) (find test es) ≡ Some z → Among (e ∷ es) z × IsTrue (test z)
    go more true t q = (inl (same_Some e z q), subst (λ y. test y ≡ true) (same_Some e z q) t)
    go more false t q = let r = more q in (inr r.0, r.1)

-- the entry that a commit executes
pub commit_entry : (log : Log) (s : Stamp) (z : Entry) → entry_of log s ≡ Some z → Among (logged log) z × (z.stamp ≡ s)
unfolding entry_of
commit_entry log s z h = let t = find_among (λ e. stamp_eq e.stamp s) (logged log) z h in (t.0, same_stamp z.stamp s t.1)

pub of_known : (log : Log) (z : Entry) → Among (logged log) z → Logged log z × (z.epoch ≡ known log)
unfolding logged
of_known log z a = logged_is (known log) log z a

option_all : (P : Entry → Type 0) (o : Option Entry) → ((z : Entry) → o ≡ Some z → P z) → AllByRecursion P (option_to_list o)
option_all P None h = tt
option_all P (Some z) h = (h z refl, tt)

pub executed_fits : (log : Log) → AreSpelt log → AllByRecursion FitsEntry (executed log)
unfolding executed
executed_fits [] h = tt
executed_fits (Rec.Boot me n ∷ log) h = executed_fits log h.1
executed_fits (Rec.Prepare e ∷ log) h = executed_fits log h.1
executed_fits (Rec.Commit s ∷ log) h = all-append FitsEntry (executed log) (option_to_list (entry_of log s)) (executed_fits log h.1)
    (option_all FitsEntry (entry_of log s) (λ z e. logged_fits log z h.1 (of_known log z (commit_entry log s z e).0).0))
executed_fits (Rec.Adopt place es ∷ log) h = all-append FitsEntry (executed log) es (executed_fits log h.1) h.0.1.fit
executed_fits (Rec.Suspend x ∷ log) h = executed_fits log h.1
executed_fits (Rec.Promise i b ∷ log) h = executed_fits log h.1
executed_fits (Rec.Accept i b d ∷ log) h = executed_fits log h.1
executed_fits (Rec.Decide d ∷ log) h = executed_fits log h.1
executed_fits (Rec.Enter x ∷ log) h = executed_fits log h.1

option_short : (o : Option Entry) → length (option_to_list o) ≤ 1
option_short None = omega arith
option_short (Some z) = omega arith

-- a record brings as many entries as a list has at most
pub executed_short : (log : Log) → AreSpelt log → length (executed log) ≤ 4096 * length log
unfolding executed
executed_short [] h = omega arith
executed_short (Rec.Boot me n ∷ log) h = let t = executed_short log h.1 in omega (arith, t)
executed_short (Rec.Prepare e ∷ log) h = let t = executed_short log h.1 in omega (arith, t)
executed_short (Rec.Commit s ∷ log) h =
    let t = executed_short log h.1 in
    let o = option_short (entry_of log s) in
    let l = length-append (executed log) (option_to_list (entry_of log s)) in omega (arith, t, o, l)
executed_short (Rec.Adopt place es ∷ log) h =
    let t = executed_short log h.1 in
    let o = h.0.1.most in
    let l = length-append (executed log) es in omega (arith, t, o, l)
executed_short (Rec.Suspend x ∷ log) h = let t = executed_short log h.1 in omega (arith, t)
executed_short (Rec.Promise i b ∷ log) h = let t = executed_short log h.1 in omega (arith, t)
executed_short (Rec.Accept i b d ∷ log) h = let t = executed_short log h.1 in omega (arith, t)
executed_short (Rec.Decide d ∷ log) h = let t = executed_short log h.1 in omega (arith, t)
executed_short (Rec.Enter x ∷ log) h = let t = executed_short log h.1 in omega (arith, t)

-- ---- executed lists rise

adopt_known : (me n : ℕ) (log : Log) (place : ℕ) (es : List Entry) → IsTrue (fits me n log (Rec.Adopt place es)) →
    IsTrue (list_all (λ e. nat_le e.epoch (known log)) es) × IsTrue (goes_on (executed log) es)
unfolding fits
adopt_known me n log place es h =
    let a = and_parts _ _ h in
    let b = and_parts _ (goes_on (executed log) es) a.0 in
    let c = and_parts _ (list_all (λ e. nat_le e.epoch (known log)) es) b.0 in
    (c.1, b.1)

-- no executed entry is of an epoch above the known one
abbrev IsOld : ℕ → Entry → Type 0
IsOld x e = e.epoch ≤ x

weaker : (x y : ℕ) → x ≤ y → (es : List Entry) → AllByRecursion (IsOld x) es → AllByRecursion (IsOld y) es
weaker x y le [] h = tt
weaker x y le (e ∷ es) h = (let t = h.0 in omega (arith, t, le), weaker x y le es h.1)

pub executed_old : (me n : ℕ) (log : Log) → AllFit me n log → AllByRecursion (IsOld (known log)) (executed log)
unfolding executed known decision
executed_old me n [] h = tt
executed_old me n (Rec.Boot m k ∷ log) h = executed_old me n log h.1
executed_old me n (Rec.Prepare e ∷ log) h = executed_old me n log h.1
executed_old me n (Rec.Commit s ∷ log) h = all-append (IsOld (known log)) (executed log) (option_to_list (entry_of log s)) (executed_old me n log h.1)
    (option_all (IsOld (known log)) (entry_of log s) (λ z e. let t = (of_known log z (commit_entry log s z e).0).1 in omega (arith, t)))
executed_old me n (Rec.Adopt place es ∷ log) h = all-append (IsOld (known log)) (executed log) es (executed_old me n log h.1)
    (all_from (IsOld (known log)) es (λ z a. leb-true z.epoch (known log) (list_all_at (λ e. nat_le e.epoch (known log)) es z (adopt_known me n log place es h.0).0 a)))
executed_old me n (Rec.Suspend x ∷ log) h = executed_old me n log h.1
executed_old me n (Rec.Promise i b ∷ log) h = executed_old me n log h.1
executed_old me n (Rec.Accept i b d ∷ log) h = executed_old me n log h.1
executed_old me n (Rec.Decide d ∷ log) h = let t = decide_above me n log d h.0 in weaker (known log) d.epoch (omega (arith, t)) (executed log) (executed_old me n log h.1)
executed_old me n (Rec.Enter x ∷ log) h = executed_old me n log h.1

behind_last : (es : List Entry) (e : Entry) → ((f : Entry) → last_of es ≡ Some f → IsBefore f e) → IsBehind es e
unfolding last_of
behind_last [] e h = tt
behind_last (f ∷ []) e h = h f refl
behind_last (f ∷ g ∷ es) e h = behind_last (g ∷ es) e h

some_last : (x : Entry) (es : List Entry) → (f : Entry) × (last_of (x ∷ es) ≡ Some f)
unfolding last_of
some_last x [] = (x, refl)
some_last x (e ∷ es) = some_last e es

last_more : (x : Entry) (es : List Entry) (f : Entry) → last_of es ≡ Some f → last_of (x ∷ es) ≡ Some f
unfolding last_of
last_more x [] f h = absurd (none-some f h)
last_more x (e ∷ es) f h = h

-- the last of those that pass is the last of all, where that passes
last_passes : (p : Entry → Bool) (es : List Entry) (f : Entry) → last_of es ≡ Some f → IsTrue (p f) → last_of (filter p es) ≡ Some f
unfolding last_of
last_passes p [] f h t = absurd (none-some f h)
last_passes p (e ∷ []) f h t = subst (λ b. last_or None (cond b (e ∷ []) []) ≡ Some f) (sym (subst (λ z. IsTrue (p z)) (sym (same_Some e f h)) t)) h
last_passes p (e ∷ g ∷ es) f h t = go (last_passes p (g ∷ es) f h t) (p e)
  where
    go : last_of (filter p (g ∷ es)) ≡ Some f → (b : Bool) → last_of (cond b (e ∷ filter p (g ∷ es)) (filter p (g ∷ es))) ≡ Some f
    go q true = last_more e (filter p (g ∷ es)) f q
    go q false = q

-- an entry above the last stamp of the known epoch stands behind all that is executed
behind_executed : (me n : ℕ) (log : Log) → AllFit me n log → (e x : Entry) → Among (unexecuted log) x → x.stamp ≡ e.stamp → e.epoch ≡ known log → IsBehind (executed log) e
unfolding unexecuted last_stamp
behind_executed me n log h e x a same ep = behind_last (executed log) e (λ f l. go f l (known_or f (all_at (IsOld (known log)) (executed log) f (executed_old me n log h) (last_among (executed log) f l))))
  where
    known_or : (f : Entry) → f.epoch ≤ known log → (f.epoch < known log) ⊎ (f.epoch ≡ known log)
    known_or f le = by_test (nat_lt f.epoch (known log)) refl
      where
        by_test : (c : Bool) → nat_lt f.epoch (known log) ≡ c → (f.epoch < known log) ⊎ (f.epoch ≡ known log)
        by_test true t = inl (ltb-true f.epoch (known log) t)
        by_test false t = let ge = ltb-false f.epoch (known log) t in inr (omega (arith, le, ge))

    go : (f : Entry) → last_of (executed log) ≡ Some f → (f.epoch < known log) ⊎ (f.epoch ≡ known log) → IsBefore f e
    go f l (inl lt) = inl (omega (arith, lt, ep))
    go f l (inr q) =
        let last = last_passes (λ g. g.epoch == known log) (executed log) f l (eq-eqb f.epoch (known log) q) in
        let lt = (above_from (Some f.stamp) (logged log) x (subst (λ o. Among (above (option_map (λ g. g.stamp) o) (logged log)) x) last a)).1 in
        inr (q ∙ sym ep, stamp_before f.stamp e.stamp (subst (λ s. IsTrue (stamp_lt f.stamp s)) same lt))

first_passing : (o : Option Entry) (s : Stamp) → IsTrue (option_map_or (λ e. stamp_eq e.stamp s) o false) → (x : Entry) × (o ≡ Some x) × (x.stamp ≡ s)
first_passing None s h = absurd (false≢true h)
first_passing (Some x) s h = (x, refl, same_stamp x.stamp s h)

commit_first : (me n : ℕ) (log : Log) (s : Stamp) → IsTrue (fits me n log (Rec.Commit s)) → (x : Entry) × Among (unexecuted log) x × (x.stamp ≡ s)
unfolding fits
commit_first me n log s h = let t = first_passing (first_of (unexecuted log)) s (and_parts _ _ h).1 in (t.0, first_among (unexecuted log) t.0 t.1, t.2)

pub executed_rises : (me n : ℕ) (log : Log) → AllFit me n log → AreSpelt log → Rises (executed log)
unfolding executed goes_on
executed_rises me n [] h s = tt
executed_rises me n (Rec.Boot m k ∷ log) h s = executed_rises me n log h.1 s.1
executed_rises me n (Rec.Prepare e ∷ log) h s = executed_rises me n log h.1 s.1
executed_rises me n (Rec.Commit t ∷ log) h s = go (executed_rises me n log h.1 s.1) (entry_of log t) refl
  where
    go : Rises (executed log) → (o : Option Entry) → entry_of log t ≡ o → Rises (executed log ++ option_to_list o)
    go r None e = subst Rises (sym (append-nil (executed log))) r
    go r (Some z) e =
        let c = commit_entry log t z e in
        let f = commit_first me n log t h.0 in
        rises_then (executed log) z [] r (behind_executed me n log h.1 z f.0 f.1 (f.2 ∙ sym c.1) (of_known log z c.0).1) tt
executed_rises me n (Rec.Adopt place [] ∷ log) h s = absurd (false≢true (adopt_known me n log place [] h.0).1)
executed_rises me n (Rec.Adopt place (e ∷ es) ∷ log) h s =
    rises_then (executed log) e es (executed_rises me n log h.1 s.1)
    (behind_last (executed log) e (λ f l. entry_before f e (subst (λ o. IsTrue (option_map_or (λ g. entry_lt g e) o true)) l (adopt_known me n log place (e ∷ es) h.0).1))) s.0.1.rises
executed_rises me n (Rec.Suspend x ∷ log) h s = executed_rises me n log h.1 s.1
executed_rises me n (Rec.Promise i b ∷ log) h s = executed_rises me n log h.1 s.1
executed_rises me n (Rec.Accept i b d ∷ log) h s = executed_rises me n log h.1 s.1
executed_rises me n (Rec.Decide d ∷ log) h s = executed_rises me n log h.1 s.1
executed_rises me n (Rec.Enter x ∷ log) h s = executed_rises me n log h.1 s.1

-- ---- stamps and pages

pub last_fits : (log : Log) → AreSpelt log → FitsOption FitsStamp (last_stamp log)
unfolding last_stamp
last_fits log h = go (last_of (filter (λ e. e.epoch == known log) (executed log))) (λ f l. all_at FitsEntry (executed log) f (executed_fits log h) (kept_from (λ e. e.epoch == known log) (executed log) f (last_among (filter (λ e. e.epoch == known log) (executed log)) f l)).0)
  where
    go : (o : Option Entry) → ((f : Entry) → o ≡ Some f → FitsEntry f) → FitsOption FitsStamp (option_map (λ e. e.stamp) o)
    go None g = tt
    go (Some f) g = (g f refl).stamp

-- logged entries of the known epoch above a stamp
pub frozen_fits : (log : Log) (o : Option Stamp) → AreSpelt log → (z : Entry) → Among (frozen log o) z → FitsEntry z × (z.epoch ≡ known log)
unfolding frozen
frozen_fits log o h z a = let t = of_known log z (above_from o (logged log) z a).0 in (logged_fits log z h t.0, t.1)

frozen_page : (me n : ℕ) (log : Log) (o : Option Stamp) → AllFit me n log → AreSpelt log → FitsEntries (first_page (frozen log o))
unfolding frozen logged
frozen_page me n log o fit h =
    page_fits (frozen log o) (all_from FitsEntry (frozen log o) (λ z a. (frozen_fits log o h z a).0))
    (rises_in (known log) (frozen log o) (rises_above o (logged_in (known log) log) (logged_rises me n (known log) log fit)) (λ z a. (frozen_fits log o h z a).1))

pub asked_page : (me n : ℕ) (log : Log) (after : Option Stamp) → AllFit me n log → AreSpelt log → FitsEntries (first_page (asked_of log after))
unfolding asked_of
asked_page me n log None fit h = frozen_page me n log (last_stamp log) fit h
asked_page me n log (Some s) fit h = frozen_page me n log (Some s) fit h

pub executed_page : (me n : ℕ) (log : Log) (from : ℕ) → AllFit me n log → AreSpelt log → FitsEntries (first_page (drop from (executed log)))
executed_page me n log from fit h = page_fits (drop from (executed log)) (all-drop FitsEntry (executed log) from (executed_fits log h)) (drop_rises from (executed log) (executed_rises me n log fit h))
