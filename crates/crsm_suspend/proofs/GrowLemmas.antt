-- Reports with one more page.
use Rattle.std.proofs.Common.{◌≡◌, ◌∙◌, ℕ, zero, suc, ◌+◌, ◌-◌, ◌<◌, Bool, true, false, cond, refl, sym, ap, subst, List, [], ◌∷◌, ◌++◌, length, map, take, set, get_or, length-set, get_or-set_same, get_or-set_other, Option, Some, None, arith, Result, Ok, Err, OnOk}
use Rattle.std.specs.Prelude.{◌==◌, ◌||◌, if◌then◌else◌, filter, flat_map, option_map}
use Rattle.std.specs.Option.{option_map_or}
use Rattle.std.specs.List.{list_any, last_or, AllByRecursion}
use Rattle.std.proofs.lemmas.Bool.{eqb-true, eq-eqb}
use Rattle.std.proofs.lemmas.List.{append-nil, map-append, set-get_or, length-append}
use Rattle.std.proofs.Math.Seq.{take-append_seam}
use Rattle.std.proofs.lemmas.List.Elements.{filter-append}
use Rattle.std.proofs.lemmas.List.Folds.{list_any-append}
use Rattle.std.proofs.lemmas.Grind.{flat_map-append}
use Rattle.crsm_spec.specs.Types.{Stamp, Entry}
use Rattle.crsm_spec.specs.Lists.{first_of, last_of}
use Rattle.crsm_spec.specs.Replica.{LogPage}
use Rattle.crsm_spec.specs.Collect.{pages_of, is_whole, cursor}
use Rattle.crsm_suspend.specs.Pages.{without_last}
use Rattle.crsm_suspend.specs.Reports.{head_of, report_of, no_report, page_from, last_stamp_or, head_with, with_page, ReportsStand}
use Rattle.crsm_suspend.specs.declared.report.Page.{Page}
use Rattle.crsm_suspend.specs.declared.report.Report.{Report}
use Rattle.crsm_suspend.proofs.WholeLemmas.{report_at}

-- ---- nothing has come

none_of : (k : ℕ) → report_of [] k ≡ no_report
unfolding report_of pages_of
none_of k = refl

all_none : (rs : List Report) (k : ℕ) → AllByRecursion (λ r. r ≡ no_report) rs → get_or rs k no_report ≡ no_report
all_none [] k h = refl
all_none (r ∷ rs) zero h = h.0
all_none (r ∷ rs) (suc k) h = all_none rs k h.1

pub no_reports : (rs : List Report) → length rs ≡ 15 → AllByRecursion (λ r. r ≡ no_report) rs → ReportsStand rs []
no_reports rs l h = record { long = l; each = λ k within. all_none rs k h ∙ sym (none_of k) }

-- ---- the last stamp

some_last : (e : Entry) (es : List Entry) → (f : Entry) × (last_or (Some e) es ≡ Some f)
some_last e [] = (e, refl)
some_last e (f ∷ es) = some_last f es

last_behind : (o : Option Entry) (xs ys : List Entry) → last_or o (xs ++ ys) ≡ last_or (last_or o xs) ys
last_behind o [] ys = refl
last_behind o (x ∷ xs) ys = last_behind (Some x) xs ys

last_from : (o : Option Entry) (ys : List Entry) → option_map (λ e. e.stamp) (last_or o ys) ≡ option_map_or (λ e. Some e.stamp) (last_or None ys) (option_map (λ e. e.stamp) o)
last_from o [] = refl
last_from o (y ∷ ys) =
    let f = some_last y ys in
    ap (option_map (λ (e : Entry). e.stamp)) f.1 ∙ sym (ap (λ l. option_map_or (λ (e : Entry). Some e.stamp) l (option_map (λ (e : Entry). e.stamp) o)) f.1)

last-append : (xs ys : List Entry) → option_map (λ e. e.stamp) (last_of (xs ++ ys)) ≡ last_stamp_or (option_map (λ e. e.stamp) (last_of xs)) ys
unfolding last_of last_stamp_or
last-append xs ys = ap (option_map (λ (e : Entry). e.stamp)) (last_behind None xs ys) ∙ last_from (last_or None xs) ys

stamp_behind : (o : Option Stamp) (es : List Entry) → 0 < length es → (s : Stamp) × (last_stamp_or o es ≡ Some s)
unfolding last_of last_stamp_or
stamp_behind o [] l = absurd (omega arith)
stamp_behind o (e ∷ es) l = let f = some_last e es in (f.0.stamp, ap (λ (x : Option Entry). option_map_or (λ (g : Entry). Some g.stamp) x o) f.1)

-- ---- a report with a page

some_long : (n : ℕ) → (suc n == 0) ≡ false
some_long n = grind arith

last_page : (k : ℕ) (p : Page) (ps : List LogPage) → flat_map (λ q. q.entries) (ps ++ page_from k p ∷ []) ≡ flat_map (λ q. q.entries) ps ++ p.entries
last_page k p ps = flat_map-append (λ (q : LogPage). q.entries) ps (page_from k p ∷ []) ∙ ap (λ es. flat_map (λ (q : LogPage). q.entries) ps ++ es) (append-nil p.entries)

pub or_none : (b : Bool) → (b || false) ≡ b
or_none true = refl
or_none false = refl

any_more : (k : ℕ) (p : Page) (ps : List LogPage) → list_any (λ q. q.whole) (ps ++ page_from k p ∷ []) ≡ (list_any (λ q. q.whole) ps || p.is_whole)
any_more k p ps = list_any-append (λ (q : LogPage). q.whole) ps (page_from k p ∷ []) ∙ ap (λ b. list_any (λ (q : LogPage). q.whole) ps || b) (or_none p.is_whole)

head_grown : (k : ℕ) (p : Page) (ps : List LogPage) → head_of (ps ++ page_from k p ∷ []) ≡ head_with (length (map (λ q. q.entries) ps) == 0) (head_of ps) p
unfolding head_of first_of
head_grown k p ps = λ i. record { executed = executed ps i; last = last ps i; cursor = at_end i; is_whole = any_more k p ps i }
  where
    executed : (qs : List LogPage) → option_map_or (λ q. q.executed) (first_of (qs ++ page_from k p ∷ [])) 0
        ≡ (if length (map (λ (q : LogPage). q.entries) qs) == 0 then p.executed else option_map_or (λ q. q.executed) (first_of qs) 0)
    executed [] = refl
    executed (q ∷ qs) = sym (ap (λ b. cond b p.executed q.executed) (some_long (length (map (λ (r : LogPage). r.entries) qs))))

    last : (qs : List LogPage) → option_map_or (λ q. q.last) (first_of (qs ++ page_from k p ∷ [])) None
        ≡ (if length (map (λ (q : LogPage). q.entries) qs) == 0 then p.last else option_map_or (λ q. q.last) (first_of qs) None)
    last [] = refl
    last (q ∷ qs) = sym (ap (λ b. cond b p.last q.last) (some_long (length (map (λ (r : LogPage). r.entries) qs))))

    at_end : option_map (λ e. e.stamp) (last_of (flat_map (λ q. q.entries) (ps ++ page_from k p ∷ []))) ≡ last_stamp_or (option_map (λ e. e.stamp) (last_of (flat_map (λ q. q.entries) ps))) p.entries
    at_end = ap (λ es. option_map (λ (e : Entry). e.stamp) (last_of es)) (last_page k p ps) ∙ last-append (flat_map (λ q. q.entries) ps) p.entries

of_more : (pages : List LogPage) (k j : ℕ) (p : Page) (b : Bool) → (k == j) ≡ b → pages_of (pages ++ page_from k p ∷ []) j ≡ pages_of pages j ++ cond b (page_from k p ∷ []) []
unfolding pages_of
of_more pages k j p b e =
    filter-append (λ (q : LogPage). q.from == j) pages (page_from k p ∷ []) ∙ ap (λ c. filter (λ (q : LogPage). q.from == j) pages ++ cond c (page_from k p ∷ []) []) e

report_grown : (ps : List LogPage) (k : ℕ) (p : Page) →
    (let r : Report = record { head = head_of (ps ++ page_from k p ∷ []); pages = map (λ q. q.entries) (ps ++ page_from k p ∷ []) } in r)
    ≡ with_page (record { head = head_of ps; pages = map (λ q. q.entries) ps }) p
report_grown ps k p = λ i. record { head = head_grown k p ps i; pages = map-append (λ (q : LogPage). q.entries) ps (page_from k p ∷ []) i }

grown : (pages : List LogPage) (k : ℕ) (p : Page) → report_of (pages ++ page_from k p ∷ []) k ≡ with_page (report_of pages k) p
unfolding report_of
grown pages k p =
    ap (λ ps. (let r : Report = record { head = head_of ps; pages = map (λ q. q.entries) ps } in r)) (of_more pages k k p true (eq-eqb k k refl))
    ∙ report_grown (pages_of pages k) k p

other : (pages : List LogPage) (k j : ℕ) (p : Page) → (k == j) ≡ false → report_of (pages ++ page_from k p ∷ []) j ≡ report_of pages j
unfolding report_of
other pages k j p e =
    ap (λ ps. (let r : Report = record { head = head_of ps; pages = map (λ q. q.entries) ps } in r)) (of_more pages k j p false e ∙ append-nil (pages_of pages j))

pub reports_grow : (reports : List Report) (pages : List LogPage) (k : ℕ) (p : Page) (old new : Report) → ReportsStand reports pages → k < 15 → old ≡ get_or reports k old → new ≡ with_page old p →
    ReportsStand (set reports k new) (pages ++ page_from k p ∷ [])
reports_grow reports pages k p old new h l at is = record {
  long = length-set reports k new ∙ h.long;
  each = λ j within. go j within (k == j) refl;
}
  where
    go : (j : ℕ) → j < 15 → (b : Bool) → (k == j) ≡ b → get_or (set reports k new) j no_report ≡ report_of (pages ++ page_from k p ∷ []) j
    go j within true e =
        let same : k ≡ j = eqb-true k j e in
        let long = h.long in
        subst (λ i. get_or (set reports k new) i no_report ≡ report_of (pages ++ page_from k p ∷ []) i) same
        (get_or-set_same reports k new no_report (omega (arith, long, l)) ∙ is ∙ ap (λ r. with_page r p) (report_at reports pages k old h l at) ∙ sym (grown pages k p))
    go j within false e = get_or-set_other reports k j new no_report (λ x. cc (sym e ∙ eq-eqb k j (sym x))) ∙ h.each j within ∙ sym (other pages k j p e)

-- ---- what the last page says

pub whole_more : (pages : List LogPage) (k : ℕ) (p : Page) → is_whole (pages ++ page_from k p ∷ []) k ≡ (is_whole pages k || p.is_whole)
unfolding is_whole
whole_more pages k p = ap (list_any (λ (q : LogPage). q.whole)) (of_more pages k k p true (eq-eqb k k refl)) ∙ any_more k p (pages_of pages k)

-- the stamp of a last entry is there
pub cursor_more : (pages : List LogPage) (p : LogPage) → 0 < length p.entries → (s : Stamp) × (cursor (pages ++ p ∷ []) p.from ≡ Some s)
unfolding cursor
cursor_more pages p l =
    let page : Page = record { executed = p.executed; last = p.last; is_whole = p.whole; entries = p.entries } in
    let before : List Entry = flat_map (λ q. q.entries) (pages_of pages p.from) in
    let e = stamp_behind (option_map (λ (e : Entry). e.stamp) (last_of before)) p.entries l in (
      e.0,
      ap (λ ps. option_map (λ (e : Entry). e.stamp) (last_of (flat_map (λ (q : LogPage). q.entries) ps))) (of_more pages p.from p.from page true (eq-eqb p.from p.from refl))
          ∙ ap (λ es. option_map (λ (e : Entry). e.stamp) (last_of es)) (last_page p.from page (pages_of pages p.from)) ∙ last-append before p.entries ∙ e.1,
    )

-- ---- a page taken back

less_one : (n : ℕ) → n + 1 - 1 ≡ n
less_one n = omega arith

pub taken_back : {A : Type 0} (xs : List A) (x : A) → without_last (xs ++ x ∷ []) ≡ xs
unfolding without_last
taken_back xs x = ap (λ n. take (n - 1) (xs ++ x ∷ [])) (length-append xs (x ∷ [])) ∙ ap (λ n. take n (xs ++ x ∷ [])) (less_one (length xs)) ∙ take-append_seam xs (x ∷ [])

set_again : {A : Type 0} (xs : List A) (i : ℕ) (x y : A) → set (set xs i x) i y ≡ set xs i y
set_again [] i x y = refl
set_again (z ∷ zs) zero x y = refl
set_again (z ∷ zs) (suc i) x y = ap (λ ys. z ∷ ys) (set_again zs i x y)

pub undone : (reports : List Report) (k : ℕ) (p : Page) (old new back : Report) → old ≡ get_or reports k old → new ≡ with_page old p → back.head ≡ old.head → back.pages ≡ without_last new.pages →
    set (set reports k new) k back ≡ reports
undone reports k p old new back at is h b =
    let same : back ≡ old = λ i. record { head = h i; pages = (b ∙ ap (λ (r : Report). without_last r.pages) is ∙ taken_back old.pages p.entries) i } in
    set_again reports k new back ∙ ap (set reports k) (same ∙ at) ∙ set-get_or reports k old

pub on_ok : {T E : Type 0} (r : Result T E) (P : Type 0) → P → OnOk r P
on_ok (Ok x) P p = p
on_ok (Err e) P p = tt
