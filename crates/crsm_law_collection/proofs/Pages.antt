-- Pages received one after another make complete reports.
use Rattle.std.proofs.Common.{◌≡◌, ℕ, ◌-◌, ◌<◌, Bool, true, false, refl, sym, ◌∙◌, subst, ap, ◌⊎◌, inl, inr, arith, List, [], ◌∷◌, ◌++◌, length, cond, append_assoc, length-append}
use Rattle.std.proofs.lemmas.List.{append-nil}
use Rattle.std.proofs.lemmas.List.Concat.{flat_map-append}
use Rattle.std.proofs.lemmas.Bool.{eqb-true, eq-eqb, ltb-true, or_cases, false≢true}
use Rattle.std.proofs.lemmas.Option.{none-some}
use Rattle.std.specs.Prelude.{IsTrue, ◌==◌, ◌||◌, nat_le, nat_lt, Option, Some, None, filter, option_map, flat_map}
use Rattle.std.specs.List.{list_any, last_or}
use Rattle.crsm_spec.specs.Types.{Stamp, Entry}
use Rattle.crsm_spec.specs.Lists.{Among, first_of, last_of}
use Rattle.crsm_spec.specs.Log.{Log, known, logged_in, logged, last_stamp, above}
use Rattle.crsm_spec.specs.Replica.{LogPage}
use Rattle.crsm_base.specs.Spelling.{entry_bytes}
use Rattle.crsm_base.specs.Limits.{page_bytes}
use Rattle.crsm_spec.specs.Collect.{frozen, asked_of, first_page, run_within, suspend_ok, own_page, pages_of, is_whole, cursor, whole_ones}
use Rattle.crsm_fact_log.specs.Rising.{Rises, IsAbove}
use Rattle.crsm_law_collection.specs.Collecting.{ReportOf}
use Rattle.crsm_law_collection.specs.Paging.{answer_page, AnswersArePages, IsPart, IsFrozen, PagesBegin, PagesGoOn, PagesReport, PagesStay}
use Rattle.crsm_fact_log.proofs.Sorted.{Lt, lt_trans, same_rising, rises_above, above_from, above_in}
use Rattle.crsm_fact_log.proofs.Lists.{among_left, kept_from, has_from}
use Rattle.crsm_fact_log.proofs.Logged.{extends_trans, end_fits, logged_rises}
use Rattle.crsm_law_collection.proofs.Freeze.{stays_frozen}
use Rattle.crsm_law_collection.proofs.Orderly.{above_last, last_top, rises_left, logged_now}

-- ---- a page

run_prefix : (room : ℕ) (es : List Entry) → (rest : List Entry) × (run_within room es ++ rest ≡ es)
unfolding run_within
run_prefix room [] = ([], refl)
run_prefix room (e ∷ es) = go (nat_le (length (entry_bytes e)) room) (run_prefix (room - length (entry_bytes e)) es)
  where
    go : (b : Bool) → ((rest : List Entry) × (run_within (room - length (entry_bytes e)) es ++ rest ≡ es)) → (rest : List Entry) × (cond b (e ∷ run_within (room - length (entry_bytes e)) es) [] ++ rest ≡ e ∷ es)
    go true r = (r.0, ap (λ zs. e ∷ zs) r.1)
    go false r = (e ∷ es, refl)

no_rest : (prefix rest es : List Entry) → prefix ++ rest ≡ es → IsTrue (length prefix == length es) → rest ≡ []
no_rest prefix [] es e t = refl
no_rest prefix (x ∷ rest) es e t =
    let l = length-append prefix (x ∷ rest) in
    let m : length (prefix ++ x ∷ rest) ≡ length es = ap length e in
    let k : length prefix ≡ length es = eqb-true (length prefix) (length es) t in
    absurd (omega (arith, l, m, k))

-- the page of an answer begins what was asked for
page_prefix : (k : ℕ) (log : Log) (after : Option Stamp) → (rest : List Entry) × ((answer_page k log after).entries ++ rest ≡ asked_of log after) × (IsTrue (answer_page k log after).whole → rest ≡ [])
unfolding answer_page first_page
page_prefix k log after =
    let r = run_prefix page_bytes (asked_of log after) in
    (r.0, r.1, λ t. no_rest (run_within page_bytes (asked_of log after)) r.0 (asked_of log after) r.1 t)

-- ---- parts

-- some or whole
has_some : (p : LogPage) → IsTrue (nat_lt 0 (length p.entries) || p.whole) → p.whole ≡ false → 0 < length p.entries
has_some p h w = elim (or_cases (nat_lt 0 (length p.entries)) p.whole h) [ inl t ↦ ltb-true 0 (length p.entries) t | inr t ↦ absurd (false≢true (sym w ∙ t)) ]

first_part : (k : ℕ) (log : Log) (p : LogPage) → p ≡ answer_page k log None → IsTrue (nat_lt 0 (length p.entries) || p.whole) → IsPart log (p ∷ [])
unfolding asked_of answer_page first_of
first_part k log p g h =
    let r = page_prefix k log None in
    record {
      page = p;
      first = refl;
      length_is = ap (λ (q : LogPage). q.executed) g;
      last_is = ap (λ (q : LogPage). q.last) g;
      rest = r.0;
      entries = ap (λ zs. zs ++ r.0) (append-nil p.entries) ∙ ap (λ (q : LogPage). q.entries ++ r.0) g ∙ r.1;
      whole = λ t. r.2 (subst (λ (q : LogPage). IsTrue q.whole) g (alone p.whole t));
      some = λ w. let l = has_some p h (alone_not p.whole w) in omega (arith, ap length (append-nil p.entries), l);
    }
  where
    alone : (b : Bool) → IsTrue (b || false) → IsTrue b
    alone true t = refl
    alone false t = t

    alone_not : (b : Bool) → (b || false) ≡ false → b ≡ false
    alone_not true t = t
    alone_not false t = refl

-- a list that has some has a last
has_last : (xs : List Entry) → 0 < length xs → Rises xs → (l : Entry) × (last_of xs ≡ Some l) × Among xs l
unfolding last_of
has_last [] h r = absurd (omega arith)
has_last (x ∷ xs) h r = let t = last_top x xs r in (t.0, t.1, t.2)

-- what is above an entry that is above the floor
above_above : (o : Option Stamp) (l : Entry) (xs : List Entry) → Rises xs → IsAbove o l → above (Some l.stamp) xs ≡ above (Some l.stamp) (above o xs)
above_above o l xs h a =
    same_rising (above (Some l.stamp) xs) (above (Some l.stamp) (above o xs)) (rises_above (Some l.stamp) xs h) (rises_above (Some l.stamp) (above o xs) (rises_above o xs h))
    (λ z m. let r = above_from (Some l.stamp) xs z m in above_in (Some l.stamp) (above o xs) z (above_in o xs z r.0 (higher o z a r.1)) r.1)
    (λ z m. let r = above_from (Some l.stamp) (above o xs) z m in above_in (Some l.stamp) xs z (above_from o xs z r.0).0 r.1)
  where
    higher : (o : Option Stamp) (z : Entry) → IsAbove o l → Lt l.stamp z.stamp → IsAbove o z
    higher None z b c = tt
    higher (Some s) z b c = lt_trans s l.stamp z.stamp b c

any_end : (pages : List LogPage) (p : LogPage) → list_any (λ q. q.whole) (pages ++ p ∷ []) ≡ (list_any (λ q. q.whole) pages || p.whole)
any_end [] p = or_nothing p.whole
  where
    or_nothing : (b : Bool) → (b || false) ≡ b
    or_nothing true = refl
    or_nothing false = refl
any_end (q ∷ pages) p = go q.whole (any_end pages p)
  where
    go : (b : Bool) → list_any (λ q. q.whole) (pages ++ p ∷ []) ≡ (list_any (λ q. q.whole) pages || p.whole) → (b || list_any (λ q. q.whole) (pages ++ p ∷ [])) ≡ ((b || list_any (λ q. q.whole) pages) || p.whole)
    go true r = refl
    go false r = r

first_end : (pages : List LogPage) (p q : LogPage) → first_of pages ≡ Some q → first_of (pages ++ p ∷ []) ≡ Some q
unfolding first_of
first_end [] p q e = absurd (none-some q e)
first_end (r ∷ pages) p q e = e

next_part : (k : ℕ) (log later : Log) (pages : List LogPage) (p : LogPage) → IsPart log pages → list_any (λ q. q.whole) pages ≡ false → Rises (logged log) → logged later ≡ logged log →
    p ≡ answer_page k later (option_map (λ e. e.stamp) (last_of (flat_map (λ q. q.entries) pages))) → IsPart log (pages ++ p ∷ [])
unfolding asked_of frozen
next_part k log later pages p part not_whole rises same g =
    record {
      page = part.page;
      first = first_end pages p part.page part.first;
      length_is = part.length_is;
      last_is = part.last_is;
      rest = r.0;
      entries = ap (λ zs. zs ++ r.0) joined ∙ append_assoc prefix p.entries r.0 ∙ ap (λ zs. prefix ++ zs) page_is ∙ part.entries;
      whole = λ t. r.2 (subst (λ (q : LogPage). IsTrue q.whole) g (last_whole (sym (any_end pages p) ∙ t)));
      some = λ w. let l = part.some not_whole in omega (arith, ap length joined, length-append prefix p.entries, l);
    }
  where
    prefix : List Entry
    prefix = flat_map (λ q. q.entries) pages

    r : (rest : List Entry) × ((answer_page k later (option_map (λ e. e.stamp) (last_of prefix))).entries ++ rest ≡ asked_of later (option_map (λ e. e.stamp) (last_of prefix))) × (IsTrue (answer_page k later (option_map (λ e. e.stamp) (last_of prefix))).whole → rest ≡ [])
    r = page_prefix k later (option_map (λ e. e.stamp) (last_of prefix))

    joined : flat_map (λ q. q.entries) (pages ++ p ∷ []) ≡ prefix ++ p.entries
    joined = flat_map-append (λ (q : LogPage). q.entries) pages (p ∷ []) ∙ ap (λ zs. prefix ++ zs) (append-nil p.entries)

    last_whole : (list_any (λ q. q.whole) pages || p.whole) ≡ true → IsTrue p.whole
    last_whole t = elim (or_cases (list_any (λ q. q.whole) pages) p.whole t) [ inl a ↦ absurd (false≢true (sym not_whole ∙ a)) | inr a ↦ a ]

    whole_rises : Rises (prefix ++ part.rest)
    whole_rises = subst Rises (sym part.entries) (rises_above (last_stamp log) (logged log) rises)

    l : (e : Entry) × (last_of prefix ≡ Some e) × Among prefix e
    l = has_last prefix (part.some not_whole) (rises_left prefix part.rest whole_rises)

    asked : asked_of later (option_map (λ e. e.stamp) (last_of prefix)) ≡ part.rest
    asked =
        ap (λ o. asked_of later (option_map (λ (e : Entry). e.stamp) o)) l.1
        ∙ ap (above (Some l.0.stamp)) same
        ∙ above_above (last_stamp log) l.0 (logged log) rises (above_from (last_stamp log) (logged log) l.0 (subst (λ zs. Among zs l.0) part.entries (among_left prefix part.rest l.0 l.2))).1
        ∙ ap (above (Some l.0.stamp)) (sym part.entries)
        ∙ ap (λ o. above (option_map (λ (e : Entry). e.stamp) o) (prefix ++ part.rest)) (sym l.1)
        ∙ above_last prefix part.rest whole_rises

    page_is : p.entries ++ r.0 ≡ part.rest
    page_is = ap (λ (q : LogPage). q.entries ++ r.0) g ∙ r.1 ∙ asked

-- ---- of all replicas

pages_end : (pages : List LogPage) (p : LogPage) (k : ℕ) (b : Bool) → (p.from == k) ≡ b → pages_of (pages ++ p ∷ []) k ≡ pages_of pages k ++ cond b (p ∷ []) []
unfolding pages_of
pages_end [] p k b e = ap (λ c. cond c (p ∷ []) []) e
pages_end (q ∷ pages) p k b e = go (q.from == k) (pages_end pages p k b e)
  where
    go : (c : Bool) → filter (λ p. p.from == k) (pages ++ p ∷ []) ≡ filter (λ p. p.from == k) pages ++ cond b (p ∷ []) [] →
        cond c (q ∷ filter (λ p. p.from == k) (pages ++ p ∷ [])) (filter (λ p. p.from == k) (pages ++ p ∷ [])) ≡ cond c (q ∷ filter (λ p. p.from == k) pages) (filter (λ p. p.from == k) pages) ++ cond b (p ∷ []) []
    go true r = ap (λ zs. q ∷ zs) r
    go false r = r

from_is : (k : ℕ) (log : Log) (after : Option Stamp) → (answer_page k log after).from ≡ k
unfolding answer_page
from_is k log after = refl

no_cursor : (pages : List LogPage) (k : ℕ) → pages_of pages k ≡ [] → cursor pages k ≡ None
unfolding cursor last_of
no_cursor pages k e = ap (λ ps. option_map (λ (e : Entry). e.stamp) (last_or None (flat_map (λ (p : LogPage). p.entries) ps))) e

pub pages_go_on : PagesGoOn
unfolding is_whole cursor
pages_go_on e n logs pages k log fit parts is_end not_whole some j = go (k == j) refl
  where
    p : LogPage
    p = answer_page k log (cursor pages k)

    frozen_now : (w : Log) → IsFrozen e logs k w → logged w ≡ logged_in e (logs k)
    frozen_now w f = logged_now w (known w) refl ∙ sym (stays_frozen k n w (logs k) f.0 (fit k) f.2) ∙ ap (λ i. logged_in i (logs k)) f.1

    mine : (pages_of pages k ≡ []) ⊎ ((w : Log) × IsFrozen e logs k w × IsPart w (pages_of pages k)) → (w : Log) × IsFrozen e logs k w × IsPart w (pages_of pages k ++ p ∷ [])
    mine (inl g) = (log, is_end, subst (λ ps. IsPart log (ps ++ p ∷ [])) (sym g) (first_part k log p (ap (answer_page k log) (no_cursor pages k g)) some))
    mine (inr m) = (
      m.0,
      m.1,
      next_part k m.0 log (pages_of pages k) p m.2 not_whole
          (subst Rises (sym (logged_now m.0 (known m.0) refl)) (logged_rises k n (known m.0) m.0 (end_fits k n m.1.0 (fit k))))
          (frozen_now log is_end ∙ sym (frozen_now m.0 m.1)) refl,
    )

    go : (b : Bool) → (k == j) ≡ b → (pages_of (pages ++ p ∷ []) j ≡ []) ⊎ ((w : Log) × IsFrozen e logs j w × IsPart w (pages_of (pages ++ p ∷ []) j))
    go true f =
        let i : k ≡ j = eqb-true k j f in
        let m = mine (parts k) in
        let q : pages_of (pages ++ p ∷ []) k ≡ pages_of pages k ++ p ∷ [] = pages_end pages p k true (eq-eqb p.from k (from_is k log (cursor pages k))) in
        inr (m.0, subst (λ i. IsFrozen e logs i m.0) i m.1, subst (λ i. IsPart m.0 (pages_of (pages ++ p ∷ []) i)) i (subst (IsPart m.0) (sym q) m.2))
    go false f =
        let q : pages_of (pages ++ p ∷ []) j ≡ pages_of pages j = pages_end pages p j false (ap (λ i. i == j) (from_is k log (cursor pages k)) ∙ f) ∙ append-nil (pages_of pages j) in
        elim (parts j) [ inl g ↦ inl (q ∙ g) | inr m ↦ inr (m.0, m.1, subst (IsPart m.0) (sym q) m.2) ]

own_part : (me : ℕ) (log : Log) → IsPart log (own_page me log ∷ [])
unfolding own_page first_of
own_part me log =
    record {
      page = own_page me log;
      first = refl;
      length_is = refl;
      last_is = refl;
      rest = [];
      entries = append-nil (frozen log (last_stamp log) ++ []) ∙ append-nil (frozen log (last_stamp log));
      whole = λ t. refl;
      some = λ w. absurd (false≢true (sym w));
    }

own_from : (me : ℕ) (log : Log) → (own_page me log).from ≡ me
unfolding own_page
own_from me log = refl

pub pages_begin : PagesBegin
unfolding pages_of
pages_begin e me logs log f j = go (me == j) refl
  where
    go : (b : Bool) → (me == j) ≡ b → (pages_of (own_page me log ∷ []) j ≡ []) ⊎ ((w : Log) × IsFrozen e logs j w × IsPart w (pages_of (own_page me log ∷ []) j))
    go true g =
        let i : me ≡ j = eqb-true me j g in
        let q : pages_of (own_page me log ∷ []) me ≡ own_page me log ∷ [] = pages_end [] (own_page me log) me true (eq-eqb (own_page me log).from me (own_from me log)) in
        inr (log, subst (λ i. IsFrozen e logs i log) i f, subst (λ i. IsPart log (pages_of (own_page me log ∷ []) i)) i (subst (IsPart log) (sym q) (own_part me log)))
    go false g = inl (pages_end [] (own_page me log) j false (ap (λ i. i == j) (own_from me log) ∙ g))

whole_in : (spec : List ℕ) (pages : List LogPage) (k : ℕ) → Among (whole_ones spec pages) k → IsTrue (is_whole pages k)
unfolding whole_ones
whole_in spec pages k m = (kept_from (is_whole pages) spec k m).1

pub pages_report : PagesReport
unfolding is_whole
pages_report e spec logs pages parts k h = go (parts k)
  where
    any : IsTrue (list_any (λ p. p.whole) (pages_of pages k))
    any = whole_in spec pages k (has_from (whole_ones spec pages) k h)

    go : (pages_of pages k ≡ []) ⊎ ((w : Log) × IsFrozen e logs k w × IsPart w (pages_of pages k)) → ReportOf e logs k (pages_of pages k)
    go (inl g) = absurd (false≢true (subst (λ ps. IsTrue (list_any (λ (p : LogPage). p.whole) ps)) g any))
    go (inr m) =
        record {
          log = m.0;
          was = m.1.0;
          epoch = m.1.1;
          frozen_is = m.1.2;
          page = m.2.page;
          first = m.2.first;
          length_is = m.2.length_is;
          last_is = m.2.last_is;
          entries = sym (append-nil _) ∙ ap (λ zs. flat_map (λ (p : LogPage). p.entries) (pages_of pages k) ++ zs) (sym (m.2.whole any)) ∙ m.2.entries;
        }

pub pages_stay : PagesStay
pages_stay e logs later pages grown parts k =
    elim (parts k) [ inl g ↦ inl g | inr m ↦ inr (m.0, (extends_trans m.1.0 (grown k), m.1.1, m.1.2), m.2) ]

pub answers_are_pages : AnswersArePages
unfolding answer_page suspend_ok
answers_are_pages k log after = refl
