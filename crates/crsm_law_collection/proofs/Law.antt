-- The law of collection.
use Rattle.std.proofs.Common.{◌≡◌, ℕ, zero, suc, ◌+◌, ◌-◌, ◌<◌, ◌≤◌, Bool, true, false, refl, sym, ◌∙◌, subst, ap, ◌⊎◌, inl, inr, arith, List, [], ◌∷◌, ◌++◌, length, cond, length-append, map}
use Rattle.std.proofs.lemmas.Bool.{eqb-true, eqb-false, eq-eqb, ne_eqb, or_cases, or_left, or_right, false≢true, cases_lt}
use Rattle.std.proofs.lemmas.Option.{same_Some, none-some}
use Rattle.std.specs.Prelude.{IsTrue, ◌==◌, Option, Some, None, filter, find, option_map, flat_map, slice_get, max}
use Rattle.std.specs.Option.{option_map_or}
use Rattle.std.specs.List.{last_or, list_any}
use Rattle.crsm_spec.specs.Types.{Stamp, Entry, Decision}
use Rattle.crsm_spec.specs.Lists.{has, Among, first_of, last_of, greatest}
use Rattle.crsm_spec.specs.Log.{Log, known, logged_in, logged, executed, last_stamp, above, suspended}
use Rattle.crsm_spec.specs.Replica.{LogPage}
use Rattle.crsm_fact_log.specs.Counting.{IsMajorityOf}
use Rattle.crsm_spec.specs.Collect.{frozen, pages_of, whole_ones, all_entries, first_pages, base_of, floor_of, union, collected}
use Rattle.crsm_fact_log.specs.Logs.{Extends}
use Rattle.crsm_law_collection.proofs.Choosing.{meet}
use Rattle.crsm_fact_log.specs.Rising.{IsAbove, Rises}
use Rattle.crsm_law_collection.specs.Collecting.{IsCollected, ReportsMakeCollections, CollectionsStay, Stands, CommitsStand, IsWellMade, CollectionsAreWellMade, CommitOf, EpochFacts, Reports, StandsAt, CollectionLaw}
use Rattle.crsm_fact_log.proofs.Sorted.{Lt, Le, le_trans, le_lt, le_both, lt_is_le, lt_or_le, same_rising, upto, upto_from, upto_in, rises_upto, rises_above, split, above_from, above_in, top_at}
use Rattle.crsm_fact_log.proofs.Lists.{all_from, get_left, among_left, among_right, among_either, flat_from, flat_in, has_from, has_in, get_inside, get_some}
use Rattle.crsm_fact_log.proofs.Logged.{extends_trans, end_fits, logged_grows, logged_epoch}
use Rattle.crsm_law_collection.proofs.Freeze.{stays_frozen}
use Rattle.crsm_fact_log.proofs.Union.{union_rises, union_from, union_has}
use Rattle.crsm_law_collection.proofs.Orderly.{cut, cut_length, cut_has, cut_rises, cut_commits, cut_from, cut_in, logged_now}
use Rattle.crsm_fact_log.proofs.Pages.{firsts_from, firsts_in, top_high, top_from, found_from, found_none}

-- ---- lists

some_length : (xs : List Entry) (x : Entry) → Among xs x → 0 < length xs
some_length [] x m = absurd m
some_length (y ∷ ys) x m = omega arith

-- a list is empty, or has a last
last_split : (xs : List Entry) → (xs ≡ []) ⊎ ((ys : List Entry) × (z : Entry) × (xs ≡ ys ++ z ∷ []))
last_split [] = inl refl
last_split (x ∷ xs) = go (last_split xs)
  where
    go : (xs ≡ []) ⊎ ((ys : List Entry) × (z : Entry) × (xs ≡ ys ++ z ∷ [])) → (x ∷ xs ≡ []) ⊎ ((ys : List Entry) × (z : Entry) × (x ∷ xs ≡ ys ++ z ∷ []))
    go (inl e) = inr ([], x, ap (λ ys. x ∷ ys) e)
    go (inr r) = inr (x ∷ r.0, r.1, ap (λ ys. x ∷ ys) r.2)

get_end : (ys : List Entry) (z : Entry) → slice_get (ys ++ z ∷ []) (length ys) ≡ Some z
get_end [] z = refl
get_end (y ∷ ys) z = get_end ys z

keep_end : (p : Entry → Bool) (ys : List Entry) (z : Entry) → IsTrue (p z) → (zs : List Entry) × (filter p (ys ++ z ∷ []) ≡ zs ++ z ∷ [])
keep_end p [] z t = ([], ap (λ b. cond b (z ∷ []) []) t)
keep_end p (y ∷ ys) z t = go (p y) (keep_end p ys z t)
  where
    go : (b : Bool) → ((zs : List Entry) × (filter p (ys ++ z ∷ []) ≡ zs ++ z ∷ [])) → (zs : List Entry) × (cond b (y ∷ filter p (ys ++ z ∷ [])) (filter p (ys ++ z ∷ [])) ≡ zs ++ z ∷ [])
    go true r = (y ∷ r.0, ap (λ zs. y ∷ zs) r.1)
    go false r = r

last_end : (o : Option Entry) (ys : List Entry) (z : Entry) → last_or o (ys ++ z ∷ []) ≡ Some z
last_end o [] z = refl
last_end o (y ∷ ys) z = last_end (Some y) ys z

keep_none : (e : ℕ) (xs : List Entry) → ((i : ℕ) (x : Entry) → slice_get xs i ≡ Some x → x.epoch < e) → filter (λ x. x.epoch == e) xs ≡ []
keep_none e [] h = refl
keep_none e (x ∷ xs) h =
    ap (λ b. cond b (x ∷ filter (λ x. x.epoch == e) xs) (filter (λ x. x.epoch == e) xs)) (ne_eqb x.epoch e (λ f. let l = h 0 x refl in omega arith))
    ∙ keep_none e xs (λ i y m. h (suc i) y m)

-- ---- the law

module _ (e n begins : ℕ) (spec : List ℕ) (logs : ℕ → Log) (facts : EpochFacts e n begins spec logs) where
  -- of two commits the one of the lesser stamp has a prefix of the other's entries
  cuts_agree : (p : ℕ) (x : Entry) (c : CommitOf e logs p x) (q : ℕ) (y : Entry) (d : CommitOf e logs q y) → Le x.stamp y.stamp → cut e n begins spec logs facts p x c ≡ upto (Some x.stamp) (cut e n begins spec logs facts q y d)
  cuts_agree p x c q y d l =
      same_rising (cut e n begins spec logs facts p x c) (upto (Some x.stamp) (cut e n begins spec logs facts q y d)) (cut_rises e n begins spec logs facts p x c) (rises_upto (Some x.stamp) (cut e n begins spec logs facts q y d) (cut_rises e n begins spec logs facts q y d))
      (λ z m. let r = cut_from e n begins spec logs facts p x c z m in upto_in x.stamp (cut e n begins spec logs facts q y d) z (cut_in e n begins spec logs facts q y d c.by z r.0 (le_trans z.stamp x.stamp y.stamp r.1 l)) r.1)
      (λ z m. let r = upto_from x.stamp (cut e n begins spec logs facts q y d) z m in cut_in e n begins spec logs facts p x c d.by z (cut_from e n begins spec logs facts q y d z r.0).0 r.1)

  cuts_split : (p : ℕ) (x : Entry) (c : CommitOf e logs p x) (q : ℕ) (y : Entry) (d : CommitOf e logs q y) → Le x.stamp y.stamp →
      length (cut e n begins spec logs facts q y d) ≡ length (cut e n begins spec logs facts p x c) + length (above (Some x.stamp) (cut e n begins spec logs facts q y d))
  cuts_split p x c q y d l =
      sym (ap length (split (Some x.stamp) (cut e n begins spec logs facts q y d) (cut_rises e n begins spec logs facts q y d)))
      ∙ length-append (upto (Some x.stamp) (cut e n begins spec logs facts q y d)) (above (Some x.stamp) (cut e n begins spec logs facts q y d))
      ∙ ap (λ zs. length zs + length (above (Some x.stamp) (cut e n begins spec logs facts q y d))) (sym (cuts_agree p x c q y d l))

  place_upto : (p : ℕ) (x : Entry) (c : CommitOf e logs p x) (q : ℕ) (y : Entry) (d : CommitOf e logs q y) → Le x.stamp y.stamp → p ≤ q
  place_upto p x c q y d l = omega (arith, cuts_split p x c q y d l, cut_length e n begins spec logs facts p x c, cut_length e n begins spec logs facts q y d)

  place_below : (p : ℕ) (x : Entry) (c : CommitOf e logs p x) (q : ℕ) (y : Entry) (d : CommitOf e logs q y) → Lt x.stamp y.stamp → p < q
  place_below p x c q y d l =
      let s = some_length (above (Some x.stamp) (cut e n begins spec logs facts q y d)) y (above_in (Some x.stamp) (cut e n begins spec logs facts q y d) y (cut_has e n begins spec logs facts q y d) l) in
      omega (arith, s, cuts_split p x c q y d (lt_is_le x.stamp y.stamp l), cut_length e n begins spec logs facts p x c, cut_length e n begins spec logs facts q y d)

  -- what was committed at one place is one
  pub same_place : (p : ℕ) (x y : Entry) → CommitOf e logs p x → CommitOf e logs p y → x ≡ y
  same_place p x y c d = go (lt_or_le x.stamp y.stamp) (lt_or_le y.stamp x.stamp)
    where
      go : Lt x.stamp y.stamp ⊎ Le y.stamp x.stamp → Lt y.stamp x.stamp ⊎ Le x.stamp y.stamp → x ≡ y
      go (inl l) r = let s = place_below p x c p y d l in absurd (omega arith)
      go (inr l) (inl r) = let s = place_below p y d p x c r in absurd (omega arith)
      go (inr l) (inr r) = facts.one c.by d.by x y (cut_from e n begins spec logs facts p x c x (cut_has e n begins spec logs facts p x c)).0 (cut_from e n begins spec logs facts p y d y (cut_has e n begins spec logs facts p y d)).0 (le_both x.stamp y.stamp r l)

  pub commit_behind : (p : ℕ) (x : Entry) (c : CommitOf e logs p x) → begins ≤ p
  commit_behind p x c = let s = some_length (cut e n begins spec logs facts p x c) x (cut_has e n begins spec logs facts p x c) in omega (arith, s, cut_length e n begins spec logs facts p x c)

  pub commit_epoch : (p : ℕ) (x : Entry) → CommitOf e logs p x → x.epoch ≡ e
  commit_epoch p x c = logged_epoch e (logs c.by) x (cut_from e n begins spec logs facts p x c x (cut_has e n begins spec logs facts p x c)).0

  -- what a suspended replica has logged by now it had logged then
  closed : (k : ℕ) (log : Log) → Extends log (logs k) → known log ≡ e → IsTrue (suspended log) → logged_in e (logs k) ≡ logged_in e log
  closed k log x knows s = subst (λ i. logged_in i (logs k) ≡ logged_in i log) knows (stays_frozen k n log (logs k) x (facts.fit k) s)

  -- ---- how far a list reaches

  -- a list of this length has no entry of the epoch, or its last is a commit of this stamp
  abbrev pub Reach : Option Stamp → ℕ → Type 0
  Reach o len = ((len ≤ begins) × (o ≡ None)) ⊎ ((q : ℕ) × (y : Entry) × CommitOf e logs q y × (len ≡ suc q) × (o ≡ Some y.stamp))

  pub reach : (k : ℕ) (log : Log) → Extends log (logs k) → known log ≡ e → Reach (last_stamp log) (length (executed log))
  unfolding last_stamp last_of
  reach k log x knows = go (cases_lt begins (length (executed log))) (last_split (executed log))
    where
      last : (zs : List Entry) → filter (λ z. z.epoch == e) (executed log) ≡ zs → last_stamp log ≡ option_map (λ z. z.stamp) (last_of zs)
      last zs f =
          ap (λ i. option_map (λ (z : Entry). z.stamp) (last_of (filter (λ z. z.epoch == i) (executed log)))) knows
          ∙ ap (λ zs. option_map (λ (z : Entry). z.stamp) (last_of zs)) f

      far : (ys : List Entry) (z : Entry) → executed log ≡ ys ++ z ∷ [] → begins < length (executed log) → Reach (last_stamp log) (length (executed log))
      far ys z f l =
          let len : length (executed log) ≡ suc (length ys) = ap length f ∙ length-append ys (z ∷ []) ∙ omega arith in
          let c : CommitOf e logs (length ys) z = facts.behind k log x knows (length ys) z (omega (arith, l, len)) (subst (λ zs. slice_get zs (length ys) ≡ Some z) (sym f) (get_end ys z)) in
          let of : z.epoch ≡ e = logged_epoch e (logs c.by) z (cut_from e n begins spec logs facts (length ys) z c z (cut_has e n begins spec logs facts (length ys) z c)).0 in
          let kept = keep_end (λ z. z.epoch == e) ys z (eq-eqb z.epoch e of) in
          inr (length ys, z, c, len, last (kept.0 ++ z ∷ []) (ap (filter (λ z. z.epoch == e)) f ∙ kept.1) ∙ ap (option_map (λ (z : Entry). z.stamp)) (last_end None kept.0 z))

      go : (begins < length (executed log)) ⊎ (length (executed log) ≤ begins) → (executed log ≡ []) ⊎ ((ys : List Entry) × (z : Entry) × (executed log ≡ ys ++ z ∷ [])) → Reach (last_stamp log) (length (executed log))
      go (inl l) (inl f) = let s : length (executed log) ≡ 0 = ap length f in absurd (omega arith)
      go (inl l) (inr r) = far r.0 r.1 r.2 l
      go (inr l) r = inl (l, last [] (keep_none e (executed log) (λ i y m. facts.before k log x knows i y (let s = get_inside (executed log) i y m in omega arith) m)))

  -- ---- a tail

  module _ (base : ℕ) (floor : Option Stamp) (reaches : Reach floor base) where
    -- what is committed from the base on is above the floor, and the other way round
    is_above : (p : ℕ) (x : Entry) (c : CommitOf e logs p x) → base ≤ p → IsAbove floor x
    is_above p x c l = go reaches
      where
        go : Reach floor base → IsAbove floor x
        go (inl r) = subst (λ o. IsAbove o x) (sym r.1) tt
        go (inr r) = subst (λ o. IsAbove o x) (sym r.4) (elim (lt_or_le r.1.stamp x.stamp) [ inl m ↦ m | inr m ↦ (let s = place_upto p x c r.0 r.1 r.2 m in absurd (omega (arith, r.3))) ])

    is_behind : (p : ℕ) (x : Entry) (c : CommitOf e logs p x) → IsAbove floor x → base ≤ p
    is_behind p x c a = go reaches
      where
        go : Reach floor base → base ≤ p
        go (inl r) = let s = commit_behind p x c in omega (arith, r.0)
        go (inr r) = let s = place_below r.0 r.1 r.2 p x c (subst (λ o. IsAbove o x) r.4 a) in omega (arith, r.3)

    -- of a commit's entries those up to the floor are those of the base
    base_length : begins ≤ base → (p : ℕ) (x : Entry) (c : CommitOf e logs p x) → base ≤ p → begins + length (upto floor (cut e n begins spec logs facts p x c)) ≡ base
    unfolding upto
    base_length low p x c l = go reaches
      where
        go : Reach floor base → begins + length (upto floor (cut e n begins spec logs facts p x c)) ≡ base
        go (inl r) = ap (λ o. begins + length (upto o (cut e n begins spec logs facts p x c))) r.1 ∙ omega (arith, r.0, low)
        go (inr r) = elim (lt_or_le r.1.stamp x.stamp) [
          | inl m ↦ ap (λ o. begins + length (upto o (cut e n begins spec logs facts p x c))) r.4 ∙ ap (λ zs. begins + length zs) (sym (cuts_agree r.0 r.1 r.2 p x c (lt_is_le r.1.stamp x.stamp m))) ∙ omega (arith, r.3, cut_length e n begins spec logs facts r.0 r.1 r.2)
          | inr m ↦ (let s = place_upto p x c r.0 r.1 r.2 m in absurd (omega (arith, r.3)))
        ]

    module _ (es : List Entry) (low : begins ≤ base) (sound : (z : Entry) → Among es z → (k : ℕ) × Among (logged_in e (logs k)) z) (complete : (q : ℕ) (z : Entry) → CommitOf e logs q z → base ≤ q → Among es z) where
      tail_prefix : (p : ℕ) (x : Entry) (c : CommitOf e logs p x) → upto (Some x.stamp) (above floor (union es)) ≡ above floor (cut e n begins spec logs facts p x c)
      tail_prefix p x c =
          same_rising (upto (Some x.stamp) (above floor (union es))) (above floor (cut e n begins spec logs facts p x c)) (rises_upto (Some x.stamp) (above floor (union es)) (rises_above floor (union es) (union_rises es))) (rises_above floor (cut e n begins spec logs facts p x c) (cut_rises e n begins spec logs facts p x c))
          (λ z m. let r = upto_from x.stamp (above floor (union es)) z m in
          let a = above_from floor (union es) z r.0 in
          let s = sound z (union_from es z a.0) in
          above_in floor (cut e n begins spec logs facts p x c) z (cut_in e n begins spec logs facts p x c s.0 z s.1 r.1) a.1)
          (λ z m. let a = above_from floor (cut e n begins spec logs facts p x c) z m in
          let d = cut_commits e n begins spec logs facts p x c z a.0 in
          let u = union_has es z (complete d.0 z d.1 (is_behind d.0 z d.1 a.1)) in
          let s = sound u.0 (union_from es u.0 u.1) in
          let f = cut_from e n begins spec logs facts p x c z a.0 in
          let g : u.0 ≡ z = facts.one s.0 c.by u.0 z s.1 f.0 u.2 in
          upto_in x.stamp (above floor (union es)) z (above_in floor (union es) z (subst (Among (union es)) g u.1) a.1) f.1)

      pub tail_at : (p : ℕ) (x : Entry) → CommitOf e logs p x → base ≤ p → slice_get (above floor (union es)) (p - base) ≡ Some x
      tail_at p x c l =
          let xs = above floor (cut e n begins spec logs facts p x c) in
          let a = above_in floor (cut e n begins spec logs facts p x c) x (cut_has e n begins spec logs facts p x c) (is_above p x c l) in
          let t = top_at xs x (rises_above floor (cut e n begins spec logs facts p x c) (cut_rises e n begins spec logs facts p x c)) a (all_from (λ z. Le z.stamp x.stamp) xs (λ z m. (cut_from e n begins spec logs facts p x c z (above_from floor (cut e n begins spec logs facts p x c) z m).0).1)) in
          let s : length (cut e n begins spec logs facts p x c) ≡ length (upto floor (cut e n begins spec logs facts p x c)) + length xs = sym (ap length (split floor (cut e n begins spec logs facts p x c) (cut_rises e n begins spec logs facts p x c))) ∙ length-append (upto floor (cut e n begins spec logs facts p x c)) xs in
          let i : p - base ≡ t.0 = omega (arith, t.1, s, base_length low p x c l, cut_length e n begins spec logs facts p x c) in
          let whole = split (Some x.stamp) (above floor (union es)) (rises_above floor (union es) (union_rises es)) in
          ap (λ zs. slice_get zs (p - base)) (sym whole)
          ∙ get_left (upto (Some x.stamp) (above floor (union es))) (above (Some x.stamp) (above floor (union es))) (p - base) x (ap (λ zs. slice_get zs (p - base)) (tail_prefix p x c) ∙ ap (slice_get xs) i ∙ t.2)

  -- ---- the reports

  module _ (ks : List ℕ) (many : IsMajorityOf spec ks) (pages : List LogPage) (reports : Reports e logs ks pages) where
    abbrev firsts : List LogPage
    firsts = first_pages ks pages

    abbrev es : List Entry
    es = all_entries ks pages

    pub length_of : (k : ℕ) → IsTrue (has ks k) → ℕ
    length_of k h = length (executed (reports k h).log)

    -- each first page is one of a report
    page_of_report : (p : LogPage) → Among firsts p → (k : ℕ) × (h : IsTrue (has ks k)) × (p.executed ≡ length_of k h) × (p.last ≡ last_stamp (reports k h).log)
    unfolding length_of
    page_of_report p m =
        let f = firsts_from pages ks p m in
        let h = has_in ks f.0 f.1 in
        let r = reports f.0 h in
        let g : r.page ≡ p = same_Some r.page p (sym r.first ∙ f.2) in
        (f.0, h, subst (λ (w : LogPage). w.executed ≡ length (executed r.log)) g r.length_is, subst (λ (w : LogPage). w.last ≡ last_stamp r.log) g r.last_is)

    pub base_high : (k : ℕ) (h : IsTrue (has ks k)) → length_of k h ≤ base_of begins firsts
    unfolding base_of length_of
    base_high k h =
        let r = reports k h in
        let t = top_high firsts r.page (firsts_in pages ks k r.page (has_from ks k h) r.first) in
        omega (arith, t, r.length_is)

    pub base_low : begins ≤ base_of begins firsts
    unfolding base_of
    base_low = omega arith

    -- the base is the start, or the length of a report
    pub base_is : (base_of begins firsts ≡ begins) ⊎ ((p : LogPage) × Among firsts p × (p.executed ≡ base_of begins firsts))
    unfolding base_of
    base_is = go (cases_lt begins (greatest (map (λ p. p.executed) firsts))) (top_from firsts)
      where
        go : (begins < greatest (map (λ p. p.executed) firsts)) ⊎ (greatest (map (λ p. p.executed) firsts) ≤ begins) → (greatest (map (λ p. p.executed) firsts) ≡ 0) ⊎ ((p : LogPage) × Among firsts p × (p.executed ≡ greatest (map (λ p. p.executed) firsts))) →
            (max begins (greatest (map (λ p. p.executed) firsts)) ≡ begins) ⊎ ((p : LogPage) × Among firsts p × (p.executed ≡ max begins (greatest (map (λ p. p.executed) firsts))))
        go (inl l) (inl z) = absurd (omega (arith, z))
        go (inl l) (inr r) = inr (r.0, r.1, omega (arith, r.2))
        go (inr l) r = inl (omega arith)

    floor_reaches : Reach (floor_of (base_of begins firsts) firsts) (base_of begins firsts)
    unfolding floor_of length_of
    floor_reaches = go (find (λ p. p.executed == base_of begins firsts) firsts) refl
      where
        go : (o : Option LogPage) → find (λ p. p.executed == base_of begins firsts) firsts ≡ o → Reach (option_map_or (λ p. p.last) o None) (base_of begins firsts)
        go None f = elim base_is [ inl b ↦ inl (omega (arith, b), refl) | inr r ↦ absurd (found_none (base_of begins firsts) firsts r.0 f r.1 r.2) ]
        go (Some p) f =
            let s = found_from (base_of begins firsts) firsts p f in
            let r = page_of_report p s.0 in
            let g = reports r.0 r.1 in
            subst (λ o. Reach o (base_of begins firsts)) (sym r.3) (subst (Reach (last_stamp g.log)) (sym r.2 ∙ s.1) (reach r.0 g.log g.was g.epoch))

    entries_sound : (z : Entry) → Among es z → (k : ℕ) × Among (logged_in e (logs k)) z
    unfolding all_entries frozen
    entries_sound z m =
        let f = flat_from (λ k. flat_map (λ p. p.entries) (pages_of pages k)) ks z m in
        let r = reports f.0 (has_in ks f.0 f.1) in
        let a = above_from (last_stamp r.log) (logged r.log) z (subst (λ zs. Among zs z) r.entries f.2) in
        (f.0, logged_grows e z r.was (subst (λ zs. Among zs z) (logged_now r.log e r.epoch) a.0))

    entries_complete : (q : ℕ) (z : Entry) → CommitOf e logs q z → base_of begins firsts ≤ q → Among es z
    unfolding all_entries frozen length_of
    entries_complete q z d l =
        let v = facts.replicated q z d in
        let m = meet v.0 (has ks) spec v.1 many in
        let k = m.0 in
        let r = reports k m.2 in
        let there = subst (λ zs. Among zs z) (closed k r.log r.was r.epoch r.frozen_is) (v.2 k m.1) in
        let high : length (executed r.log) ≤ base_of begins firsts = base_high k m.2 in
        let a = above_in (last_stamp r.log) (logged r.log) z (subst (λ zs. Among zs z) (sym (logged_now r.log e r.epoch)) there) (is_above (length (executed r.log)) (last_stamp r.log) (reach k r.log r.was r.epoch) q z d (omega (arith, l, high))) in
        flat_in (λ k. flat_map (λ p. p.entries) (pages_of pages k)) ks k z (has_from ks k m.2) (subst (λ zs. Among zs z) (sym r.entries) a)

    pub in_tail : (p : ℕ) (x : Entry) → CommitOf e logs p x → base_of begins firsts ≤ p →
        slice_get (above (floor_of (base_of begins firsts) firsts) (union es)) (p - base_of begins firsts) ≡ Some x
    in_tail = tail_at (base_of begins firsts) (floor_of (base_of begins firsts) firsts) floor_reaches es base_low entries_sound entries_complete

    pub in_lists : (p : ℕ) (x : Entry) → CommitOf e logs p x → (k : ℕ) (h : IsTrue (has ks k)) → p < length (executed (reports k h).log) → slice_get (executed (reports k h).log) p ≡ Some x
    in_lists p x c k h l =
        let r = reports k h in
        let g = get_some (executed r.log) p l in
        g.1 ∙ ap Some (same_place p g.0 x (facts.behind k r.log r.was r.epoch p g.0 (commit_behind p x c) g.1) c)

    pub has_base : (p : ℕ) (x : Entry) → CommitOf e logs p x → p < base_of begins firsts → (k : ℕ) × (h : IsTrue (has ks k)) × (length (executed (reports k h).log) ≡ base_of begins firsts)
    unfolding length_of
    has_base p x c l = go base_is
      where
        go : (base_of begins firsts ≡ begins) ⊎ ((q : LogPage) × Among firsts q × (q.executed ≡ base_of begins firsts)) → (k : ℕ) × (h : IsTrue (has ks k)) × (length (executed (reports k h).log) ≡ base_of begins firsts)
        go (inl b) = let s = commit_behind p x c in absurd (omega (arith, b))
        go (inr r) = let f = page_of_report r.0 r.1 in (f.0, f.1, sym f.2 ∙ r.2)

    -- what the reports and the logs have above the floor is the same
    pub same_tail : above (floor_of (base_of begins firsts) firsts) (union es) ≡ above (floor_of (base_of begins firsts) firsts) (union (flat_map (λ k. logged_in e (logs k)) ks))
    unfolding all_entries frozen length_of
    same_tail =
        let o = floor_of (base_of begins firsts) firsts in
        let all = flat_map (λ k. logged_in e (logs k)) ks in
        same_rising (above o (union es)) (above o (union all)) (rises_above o (union es) (union_rises es)) (rises_above o (union all) (union_rises all))
        (λ z m. let a = above_from o (union es) z m in
        let f = flat_from (λ k. flat_map (λ p. p.entries) (pages_of pages k)) ks z (union_from es z a.0) in
        let r = reports f.0 (has_in ks f.0 f.1) in
        let b = above_from (last_stamp r.log) (logged r.log) z (subst (λ zs. Among zs z) r.entries f.2) in
        let g = logged_grows e z r.was (subst (λ zs. Among zs z) (logged_now r.log e r.epoch) b.0) in
        same_in all o z f.0 g (union_has all z (flat_in (λ k. logged_in e (logs k)) ks f.0 z f.1 g)) (λ w n. all_sound w (union_from all w n)) a.1)
        (λ z m. let a = above_from o (union all) z m in
        let f = flat_from (λ k. logged_in e (logs k)) ks z (union_from all z a.0) in
        let h = has_in ks f.0 f.1 in
        let r = reports f.0 h in
        let there = subst (λ zs. Among zs z) (closed f.0 r.log r.was r.epoch r.frozen_is ∙ sym (logged_now r.log e r.epoch)) f.2 in
        let b = above_in (last_stamp r.log) (logged r.log) z there (above_last f.0 h z a.1 (reach f.0 r.log r.was r.epoch) floor_reaches) in
        same_in es o z f.0 f.2 (union_has es z (flat_in (λ k. flat_map (λ p. p.entries) (pages_of pages k)) ks f.0 z f.1 (subst (λ zs. Among zs z) (sym r.entries) b))) (λ w n. entries_sound w (union_from es w n)) a.1)
      where
        all_sound : (w : Entry) → Among (flat_map (λ k. logged_in e (logs k)) ks) w → (k : ℕ) × Among (logged_in e (logs k)) w
        all_sound w n = let f = flat_from (λ k. logged_in e (logs k)) ks w n in (f.0, f.2)

        same_in : (xs : List Entry) (o : Option Stamp) (z : Entry) (k : ℕ) → Among (logged_in e (logs k)) z → (w : Entry) × Among (union xs) w × (w.stamp ≡ z.stamp) → ((w : Entry) → Among (union xs) w → (k : ℕ) × Among (logged_in e (logs k)) w) → IsAbove o z → Among (above o (union xs)) z
        same_in xs o z k g u t a = let v = t u.0 u.1 in above_in o (union xs) z (subst (Among (union xs)) (facts.one v.0 k u.0 z v.1 g u.2) u.1) a

        above_last : (k : ℕ) (h : IsTrue (has ks k)) (z : Entry) → IsAbove (floor_of (base_of begins firsts) firsts) z → Reach (last_stamp (reports k h).log) (length (executed (reports k h).log)) → Reach (floor_of (base_of begins firsts) firsts) (base_of begins firsts) → IsAbove (last_stamp (reports k h).log) z
        above_last k h z a (inl r) t = subst (λ o. IsAbove o z) (sym r.1) tt
        above_last k h z a (inr r) (inl t) = let l : length (executed (reports k h).log) ≤ base_of begins firsts = base_high k h in let m = commit_behind r.0 r.1 r.2 in absurd (omega (arith, r.3, t.0))
        above_last k h z a (inr r) (inr t) =
            let l : length (executed (reports k h).log) ≤ base_of begins firsts = base_high k h in
            subst (λ o. IsAbove o z) (sym r.4) (elim (lt_or_le t.1.stamp r.1.stamp) [ inl m ↦ (let s = place_below t.0 t.1 t.2 r.0 r.1 r.2 m in absurd (omega (arith, r.3, t.3))) | inr m ↦ le_lt r.1.stamp t.1.stamp z.stamp m (subst (λ o. IsAbove o z) t.4 a) ])

    pub frozen_reports : (k : ℕ) → IsTrue (has ks k) → (log : Log) × Extends log (logs k) × (known log ≡ e) × IsTrue (suspended log)
    frozen_reports k h = let r = reports k h in (r.log, r.was, r.epoch, r.frozen_is)

    pub reached : ((base_of begins firsts ≡ begins) × (floor_of (base_of begins firsts) firsts ≡ None)) ⊎ ((q : ℕ) × (y : Entry) × CommitOf e logs q y × (base_of begins firsts ≡ suc q) × (floor_of (base_of begins firsts) firsts ≡ Some y.stamp))
    reached = elim floor_reaches [ inl r ↦ inl (let l = base_low in omega (arith, r.0), r.1) | inr r ↦ inr r ]

  -- ---- a collection

  module _ (d : Decision) (made : IsCollected e begins spec logs d) where
    to_reach : ((d.base_len ≡ begins) × (made.floor ≡ None)) ⊎ ((q : ℕ) × (y : Entry) × CommitOf e logs q y × (d.base_len ≡ suc q) × (made.floor ≡ Some y.stamp)) → Reach made.floor d.base_len × (begins ≤ d.base_len)
    to_reach (inl r) = (inl (omega (arith, r.0), r.1), omega (arith, r.0))
    to_reach (inr r) = (inr r, let l = commit_behind r.0 r.1 r.2 in omega (arith, r.3))

    all : List Entry
    all = flat_map (λ k. logged_in e (logs k)) made.ks

    logs_from : (z : Entry) → Among all z → (k : ℕ) × Among (logged_in e (logs k)) z
    unfolding all
    logs_from z m = let f = flat_from (λ k. logged_in e (logs k)) made.ks z m in (f.0, f.2)

    logs_has : (q : ℕ) (z : Entry) → CommitOf e logs q z → d.base_len ≤ q → Among all z
    unfolding all
    logs_has q z c l =
        let v = facts.replicated q z c in
        let m = meet v.0 (has made.ks) spec v.1 made.many in
        flat_in (λ k. logged_in e (logs k)) made.ks m.0 z (has_from made.ks m.0 m.2) (v.2 m.0 m.1)

    pub stands : (p : ℕ) (x : Entry) → CommitOf e logs p x → Stands e begins logs d p x
    unfolding all
    stands p x c =
        let r = to_reach made.reaches in
        record {
          low = commit_behind p x c;
          tail = λ l. ap (λ zs. slice_get zs (p - d.base_len)) made.tail_is ∙ tail_at d.base_len made.floor r.0 all r.1 logs_from logs_has p x c l;
          lists = λ k log w knows l. let g = get_some (executed log) p l in g.1 ∙ ap Some (same_place p g.0 x (facts.behind k log w knows p g.0 (commit_behind p x c) g.1) c);
        }

    pub well_made : IsWellMade e begins logs d
    unfolding all
    well_made =
        let r = to_reach made.reaches in
        record {
          low = r.1;
          rises = subst Rises (sym made.tail_is) (rises_above made.floor (union all) (union_rises all));
          logged_are = λ z m. logs_from z (union_from all z (above_from made.floor (union all) z (subst (λ zs. Among zs z) made.tail_is m)).0);
          behind = λ q y z c l m. go q y z c l (above_from made.floor (union all) z (subst (λ zs. Among zs z) made.tail_is m)).1 r.0;
        }
      where
        go : (q : ℕ) (y z : Entry) → CommitOf e logs q y → q < d.base_len → IsAbove made.floor z → Reach made.floor d.base_len → Lt y.stamp z.stamp
        go q y z c l a (inl t) = let s = commit_behind q y c in absurd (omega (arith, t.0))
        go q y z c l a (inr t) = elim (lt_or_le t.1.stamp y.stamp) [ inl m ↦ (let s = place_below t.0 t.1 t.2 q y c m in absurd (omega (arith, t.3))) | inr m ↦ le_lt y.stamp t.1.stamp z.stamp m (subst (λ o. IsAbove o z) t.4 a) ]

-- Each commit of epoch e stands at its place in each decision that the reports of a majority make.
pub collection_law : CollectionLaw
unfolding collected
collection_law e n begins spec members named logs log pages facts knows begin many reports p x c =
    let ks = whole_ones spec pages in
    subst (λ b. StandsAt e logs ks pages reports (record { epoch = known log + 1; spec = named; members = members; base_len = base_of b (first_pages ks pages); tail = above (floor_of (base_of b (first_pages ks pages)) (first_pages ks pages)) (union (all_entries ks pages)) }) p x) (sym begin)
    (record {
      tail = in_tail e n begins spec logs facts ks many pages reports p x c;
      lists = in_lists e n begins spec logs facts ks many pages reports p x c;
      base = has_base e n begins spec logs facts ks many pages reports p x c;
    })

pub reports_make : ReportsMakeCollections
unfolding collected
reports_make e n begins spec members named logs log pages facts knows begin many reports =
    let ks = whole_ones spec pages in
    subst (λ b. IsCollected e begins spec logs (record { epoch = known log + 1; spec = named; members = members; base_len = base_of b (first_pages ks pages); tail = above (floor_of (base_of b (first_pages ks pages)) (first_pages ks pages)) (union (all_entries ks pages)) })) (sym begin)
    (record {
      ks = ks;
      many = many;
      frozen_are = frozen_reports e n begins spec logs facts ks many pages reports;
      floor = floor_of (base_of begins (first_pages ks pages)) (first_pages ks pages);
      reaches = reached e n begins spec logs facts ks many pages reports;
      tail_is = same_tail e n begins spec logs facts ks many pages reports;
    })

pub commits_stand : CommitsStand
commits_stand e n begins spec logs d p x facts made c = stands e n begins spec logs facts d made p x c

pub are_well_made : CollectionsAreWellMade
are_well_made e n begins spec logs d facts made = well_made e n begins spec logs facts d made

-- ---- later logs

commit_later : (e : ℕ) (logs later : ℕ → Log) (grown : (k : ℕ) → Extends (logs k) (later k)) (q : ℕ) (y : Entry) → CommitOf e logs q y → CommitOf e later q y
commit_later e logs later grown q y c = record { by = c.by; log = c.log; kept = extends_trans c.kept (grown c.by); epoch = c.epoch; next = c.next; place_is = c.place_is }

same_flat : (f g : ℕ → List Entry) (ks : List ℕ) → ((k : ℕ) → Among ks k → f k ≡ g k) → flat_map f ks ≡ flat_map g ks
same_flat f g [] h = refl
same_flat f g (k ∷ ks) h = λ i. h k (inl refl) i ++ same_flat f g ks (λ j m. h j (inr m)) i

pub collections_stay : CollectionsStay
collections_stay e begins n spec logs later d grown fit made =
    record {
      ks = made.ks;
      many = made.many;
      frozen_are = λ k h. let r = made.frozen_are k h in (r.0, extends_trans r.1 (grown k), r.2, r.3);
      floor = made.floor;
      reaches = elim made.reaches [ inl r ↦ inl r | inr r ↦ inr (r.0, r.1, commit_later e logs later grown r.0 r.1 r.2, r.3, r.4) ];
      tail_is = made.tail_is ∙ ap (λ zs. above made.floor (union zs)) (same_flat (λ k. logged_in e (logs k)) (λ k. logged_in e (later k)) made.ks same_at);
    }
  where
    same_at : (k : ℕ) → Among made.ks k → logged_in e (logs k) ≡ logged_in e (later k)
    same_at k m =
        let r = made.frozen_are k (has_in made.ks k m) in
        subst (λ i. logged_in i (logs k) ≡ logged_in i (later k)) r.2
        (stays_frozen k n r.0 (logs k) r.1 (end_fits k n (grown k) (fit k)) r.3 ∙ sym (stays_frozen k n r.0 (later k) (extends_trans r.1 (grown k)) (fit k) r.3))
