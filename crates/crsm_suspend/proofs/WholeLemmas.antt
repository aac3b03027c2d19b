-- The joint content of the whole reports, replica by replica.
use Rattle.std.proofs.Common.{◌≡◌, ◌∙◌, ℕ, ◌+◌, ◌<◌, ◌≤◌, Bool, true, false, cond, refl, sym, ap, List, [], ◌∷◌, ◌++◌, length, map, take, drop, get_or, Option, Some, None, max, arith}
use Rattle.std.specs.Prelude.{◌==◌, filter, flat_map, fold}
use Rattle.std.specs.Option.{option_map_or}
use Rattle.std.specs.List.{list_any}
use Rattle.std.proofs.lemmas.List.{take_more, drop_more, drop_all, get_or_default, append-nil, length-append, map-append}
use Rattle.std.proofs.lemmas.Bool.{eqb-true}
use Rattle.std.proofs.lemmas.List.Elements.{filter-append}
use Rattle.std.proofs.lemmas.List.Sums.{fold-append, fold_push}
use Rattle.std.proofs.lemmas.Grind.{flat_map-append}
use Rattle.crsm_spec.specs.Types.{Stamp, Entry}
use Rattle.crsm_base.specs.Order.{stamp_lt}
use Rattle.crsm_spec.specs.Lists.{first_of, greatest}
use Rattle.crsm_spec.specs.Log.{above}
use Rattle.crsm_spec.specs.Replica.{LogPage}
use Rattle.crsm_spec.specs.Collect.{pages_of, is_whole, whole_ones, first_pages, all_entries, base_of, floor_of, union, with_new}
use Rattle.crsm_suspend.specs.Pages.{is_over}
use Rattle.crsm_suspend.proofs.FrozenLemmas.{above_none, above_next}
use Rattle.crsm_suspend.specs.Reports.{head_of, report_of, no_report, ReportsStand}
use Rattle.crsm_suspend.specs.declared.report.Report.{Report}
use Rattle.crsm_fact_log.proofs.Merge.{union_goes_on}

-- ---- lists with one more at their end

pub above-append : (o : Option Stamp) (xs ys : List Entry) → above o (xs ++ ys) ≡ above o xs ++ above o ys
unfolding above
above-append None xs ys = refl
above-append (Some s) xs ys = filter-append (λ e. stamp_lt s e.stamp) xs ys

greatest-push : (xs : List ℕ) (x : ℕ) → greatest (xs ++ x ∷ []) ≡ max (greatest xs) x
unfolding greatest
greatest-push [] x = omega arith
greatest-push (y ∷ xs) x = let r = greatest-push xs x in omega (arith, r)

firsts-push : (ks : List ℕ) (k : ℕ) (pages : List LogPage) (p : LogPage) → first_of (pages_of pages k) ≡ Some p → first_pages (ks ++ k ∷ []) pages ≡ first_pages ks pages ++ p ∷ []
unfolding first_pages
firsts-push [] k pages p e = rw e refl
firsts-push (j ∷ ks) k pages p e = go (first_of (pages_of pages j)) (firsts-push ks k pages p e)
  where
    go : (o : Option LogPage) → first_pages (ks ++ k ∷ []) pages ≡ first_pages ks pages ++ p ∷ [] →
        option_map_or (λ q. q ∷ first_pages (ks ++ k ∷ []) pages) o (first_pages (ks ++ k ∷ []) pages) ≡ option_map_or (λ q. q ∷ first_pages ks pages) o (first_pages ks pages) ++ p ∷ []
    go None r = r
    go (Some q) r = ap (λ qs. q ∷ qs) r

base-push : (start : ℕ) (firsts : List LogPage) (p : LogPage) → base_of start (firsts ++ p ∷ []) ≡ max (base_of start firsts) p.executed
unfolding base_of
base-push start firsts p =
    let m = ap greatest (map-append (λ (q : LogPage). q.executed) firsts (p ∷ [])) ∙ greatest-push (map (λ (q : LogPage). q.executed) firsts) p.executed in
    omega (arith, m)

-- ---- a replica that is whole, and one that is not

-- it has a first page
pub has_first : (ps : List LogPage) → list_any (λ p. p.whole) ps ≡ true → (p : LogPage) × (first_of ps ≡ Some p)
unfolding first_of
has_first [] h = absurd (cc)
has_first (p ∷ ps) h = (p, refl)

pub report_at : (reports : List Report) (pages : List LogPage) (k : ℕ) (r : Report) → ReportsStand reports pages → k < 15 → r ≡ get_or reports k r → r ≡ report_of pages k
report_at reports pages k r h l e =
    let long = h.long in
    e ∙ get_or_default reports k r no_report (omega (arith, long, l)) ∙ h.each k l

pub whole_at : (pages : List LogPage) (k : ℕ) (r : Report) → r ≡ report_of pages k → r.head.is_whole ≡ is_whole pages k
unfolding report_of head_of is_whole
whole_at pages k r e = ap (λ (s : Report). s.head.is_whole) e

executed_at : (pages : List LogPage) (k : ℕ) (p : LogPage) → first_of (pages_of pages k) ≡ Some p → (report_of pages k).head.executed ≡ p.executed
unfolding report_of head_of
executed_at pages k p e = ap (λ (o : Option LogPage). option_map_or (λ q. q.executed) o 0) e

last_at : (pages : List LogPage) (k : ℕ) (p : LogPage) → first_of (pages_of pages k) ≡ Some p → (report_of pages k).head.last ≡ p.last
unfolding report_of head_of
last_at pages k p e = ap (λ (o : Option LogPage). option_map_or (λ q. q.last) o None) e

entries_at : (pages : List LogPage) (k : ℕ) → flat_map (λ es. es) (report_of pages k).pages ≡ flat_map (λ p. p.entries) (pages_of pages k)
unfolding report_of
entries_at pages k = joined (pages_of pages k)
  where
    joined : (ps : List LogPage) → flat_map (λ es. es) (map (λ p. p.entries) ps) ≡ flat_map (λ p. p.entries) ps
    joined [] = refl
    joined (p ∷ ps) = ap (λ es. p.entries ++ es) (joined ps)

module _ (spec : List ℕ) (pages : List LogPage) (i : ℕ) (l : i < length spec) where
  k : ℕ
  k = get_or spec i 0

  here : (b : Bool) → is_whole pages k ≡ b → whole_ones (take (i + 1) spec) pages ≡ whole_ones (take i spec) pages ++ cond b (k ∷ []) []
  unfolding whole_ones k
  here b e =
      ap (filter (is_whole pages)) (take_more spec i 0 l) ∙ filter-append (is_whole pages) (take i spec) (get_or spec i 0 ∷ [])
      ∙ ap (λ c. filter (is_whole pages) (take i spec) ++ cond c (get_or spec i 0 ∷ []) []) e

  pub skipped : is_whole pages (get_or spec i 0) ≡ false → whole_ones (take (i + 1) spec) pages ≡ whole_ones (take i spec) pages
  unfolding k
  skipped e = here false e ∙ append-nil (whole_ones (take i spec) pages)

  pub one_more : is_whole pages (get_or spec i 0) ≡ true → whole_ones (take (i + 1) spec) pages ≡ whole_ones (take i spec) pages ++ get_or spec i 0 ∷ []
  unfolding k
  one_more e = here true e

  left : (b : Bool) → is_whole pages k ≡ b → whole_ones (drop i spec) pages ≡ cond b (k ∷ whole_ones (drop (i + 1) spec) pages) (whole_ones (drop (i + 1) spec) pages)
  unfolding whole_ones k
  left b e =
      ap (filter (is_whole pages)) (drop_more spec i 0 l)
      ∙ ap (λ c. cond c (get_or spec i 0 ∷ filter (is_whole pages) (drop (i + 1) spec)) (filter (is_whole pages) (drop (i + 1) spec))) e

  pub left_out : is_whole pages (get_or spec i 0) ≡ false → whole_ones (drop i spec) pages ≡ whole_ones (drop (i + 1) spec) pages
  unfolding k
  left_out e = left false e

  pub left_first : is_whole pages (get_or spec i 0) ≡ true → whole_ones (drop i spec) pages ≡ get_or spec i 0 ∷ whole_ones (drop (i + 1) spec) pages
  unfolding k
  left_first e = left true e

  first_is : is_whole pages k ≡ true → (p : LogPage) × (first_of (pages_of pages k) ≡ Some p)
  unfolding is_whole
  first_is e = has_first (pages_of pages k) e

  -- how many
  pub count_more : is_whole pages (get_or spec i 0) ≡ true → length (whole_ones (take (i + 1) spec) pages) ≡ length (whole_ones (take i spec) pages) + 1
  count_more e = ap (λ (ks : List ℕ). length ks) (one_more e) ∙ length-append (whole_ones (take i spec) pages) (get_or spec i 0 ∷ [])

  -- the greatest executed length
  pub base_more : (start : ℕ) → is_whole pages (get_or spec i 0) ≡ true →
      base_of start (first_pages (whole_ones (take (i + 1) spec) pages) pages)
      ≡ max (base_of start (first_pages (whole_ones (take i spec) pages) pages)) (report_of pages (get_or spec i 0)).head.executed
  unfolding k
  base_more start e =
      let p = first_is e in
      ap (λ ks. base_of start (first_pages ks pages)) (one_more e)
      ∙ ap (base_of start) (firsts-push (whole_ones (take i spec) pages) (get_or spec i 0) pages p.0 p.1)
      ∙ base-push start (first_pages (whole_ones (take i spec) pages) pages) p.0
      ∙ ap (λ n. max (base_of start (first_pages (whole_ones (take i spec) pages) pages)) n) (sym (executed_at pages (get_or spec i 0) p.0 p.1))

  floor_next : (base : ℕ) (b : Bool) → is_whole pages k ≡ true → ((report_of pages k).head.executed == base) ≡ b →
      floor_of base (first_pages (whole_ones (drop i spec) pages) pages)
      ≡ cond b (report_of pages k).head.last (floor_of base (first_pages (whole_ones (drop (i + 1) spec) pages) pages))
  unfolding k floor_of first_pages
  floor_next base b e f =
      let p = first_is e in
      let ks = whole_ones (drop (i + 1) spec) pages in
      let test : (p.0.executed == base) ≡ b = ap (λ n. n == base) (sym (executed_at pages (get_or spec i 0) p.0 p.1)) ∙ f in
      ap (λ js. floor_of base (first_pages js pages)) (left_first e)
      ∙ ap (λ o. floor_of base (option_map_or (λ q. q ∷ first_pages ks pages) o (first_pages ks pages))) p.1
      ∙ go p.0 (first_pages ks pages) b test
      ∙ ap (λ s. cond b s (floor_of base (first_pages ks pages))) (sym (last_at pages (get_or spec i 0) p.0 p.1))
    where
      go : (q : LogPage) (qs : List LogPage) (c : Bool) → (q.executed == base) ≡ c → floor_of base (q ∷ qs) ≡ cond c q.last (floor_of base qs)
      go q qs true g = rw g refl
      go q qs false g = rw g refl

  pub floor_found : (base : ℕ) → is_whole pages (get_or spec i 0) ≡ true → ((report_of pages (get_or spec i 0)).head.executed == base) ≡ true →
      floor_of base (first_pages (whole_ones (drop i spec) pages) pages) ≡ (report_of pages (get_or spec i 0)).head.last
  unfolding k
  floor_found base e f = floor_next base true e f

  pub floor_other : (base : ℕ) → is_whole pages (get_or spec i 0) ≡ true → ((report_of pages (get_or spec i 0)).head.executed == base) ≡ false →
      floor_of base (first_pages (whole_ones (drop i spec) pages) pages) ≡ floor_of base (first_pages (whole_ones (drop (i + 1) spec) pages) pages)
  unfolding k
  floor_other base e f = floor_next base false e f

  -- the entries above a floor
  pub union_more : (floor : Option Stamp) → is_whole pages (get_or spec i 0) ≡ true →
      union (above floor (all_entries (whole_ones (take (i + 1) spec) pages) pages))
      ≡ fold with_new (union (above floor (all_entries (whole_ones (take i spec) pages) pages))) (above floor (flat_map (λ es. es) (report_of pages (get_or spec i 0)).pages))
  unfolding all_entries
  union_more floor e =
      let of_replica : ℕ → List Entry = λ j. flat_map (λ p. p.entries) (pages_of pages j) in
      let ks = whole_ones (take i spec) pages in
      ap (λ js. union (above floor (flat_map of_replica js))) (one_more e)
      ∙ ap (λ es. union (above floor es)) (flat_map-append of_replica ks (get_or spec i 0 ∷ []))
      ∙ ap union (above-append floor (flat_map of_replica ks) (flat_map of_replica (get_or spec i 0 ∷ [])))
      ∙ union_goes_on.0 (above floor (flat_map of_replica ks)) (above floor (flat_map of_replica (get_or spec i 0 ∷ [])))
      ∙ ap (λ es. fold with_new (union (above floor (flat_map of_replica ks))) (above floor es)) (append-nil (of_replica (get_or spec i 0)) ∙ sym (entries_at pages (get_or spec i 0)))

-- ---- entries above a floor, one after another

module _ (o : Option Stamp) (es : List Entry) (i : ℕ) (e : Entry) (l : i < length es) (at : e ≡ get_or es i e) where
  above_at : (b : Bool) → is_over o e.stamp ≡ b → above o (take (i + 1) es) ≡ above o (take i es) ++ cond b (e ∷ []) []
  above_at b h =
      ap (above o) (take_more es i e l ∙ ap (λ f. take i es ++ f ∷ []) (sym at)) ∙ above-append o (take i es) (e ∷ [])
      ∙ ap (λ fs. above o (take i es) ++ fs) (above_next o e [] b h ∙ ap (λ fs. cond b (e ∷ fs) fs) (above_none o))

  pub above_same : is_over o e.stamp ≡ false → above o (take (i + 1) es) ≡ above o (take i es)
  above_same h = above_at false h ∙ append-nil (above o (take i es))

  pub above_more : (set : List Entry) → is_over o e.stamp ≡ true → fold with_new set (above o (take (i + 1) es)) ≡ with_new (fold with_new set (above o (take i es))) e
  above_more set h = ap (fold with_new set) (above_at true h) ∙ fold_push with_new set (above o (take i es)) e

pub page_more : (set : List Entry) (o : Option Stamp) (pages : List (List Entry)) (i : ℕ) (page : List Entry) → i < length pages → page ≡ get_or pages i page →
    fold with_new set (above o (flat_map (λ es. es) (take (i + 1) pages))) ≡ fold with_new (fold with_new set (above o (flat_map (λ es. es) (take i pages)))) (above o page)
page_more set o pages i page l at =
    let prefix : List Entry = flat_map (λ es. es) (take i pages) in
    ap (λ ps. fold with_new set (above o (flat_map (λ es. es) ps))) (take_more pages i page l ∙ ap (λ p. take i pages ++ p ∷ []) (sym at))
    ∙ ap (λ es. fold with_new set (above o es)) (flat_map-append (λ (es : List Entry). es) (take i pages) (page ∷ []) ∙ ap (λ es. prefix ++ es) (append-nil page))
    ∙ ap (fold with_new set) (above-append o prefix page) ∙ fold-append with_new set (above o prefix) (above o page)

-- ---- no replica

pub none_whole : (pages : List LogPage) → whole_ones [] pages ≡ []
unfolding whole_ones
none_whole pages = refl

pub base_none : (start : ℕ) (pages : List LogPage) → start ≡ base_of start (first_pages (whole_ones [] pages) pages)
unfolding whole_ones first_pages base_of greatest
base_none start pages = omega arith

pub floor_none : (base : ℕ) (pages : List LogPage) → floor_of base (first_pages (whole_ones [] pages) pages) ≡ None
unfolding whole_ones first_pages floor_of
floor_none base pages = refl

pub union_none : (floor : Option Stamp) (pages : List LogPage) → union (above floor (all_entries (whole_ones [] pages) pages)) ≡ []
unfolding whole_ones all_entries union
union_none floor pages = ap (λ es. fold with_new [] es) (above_none floor)

pub none_left : (spec : List ℕ) (i : ℕ) → length spec ≤ i → drop i spec ≡ []
none_left spec i l = drop_all i spec l

pub not_same : (a b : ℕ) → (a ≡ b → ⊥) → (a == b) ≡ false
not_same a b h = go (a == b) refl
  where
    go : (c : Bool) → (a == b) ≡ c → c ≡ false
    go true e = absurd (h (eqb-true a b e))
    go false e = refl
