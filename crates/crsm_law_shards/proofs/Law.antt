-- The merge of the lists by their points is the one list.
use Rattle.std.proofs.Common.{◌≡◌, ℕ, zero, suc, ◌+◌, ◌<◌, ◌≤◌, Bool, true, false, List, [], ◌∷◌, ◌++◌, length, take, map, refl, sym, ◌∙◌, ap, subst, arith}
use Rattle.std.specs.Prelude.{◌==◌, filter, flat_map, max, Some, slice_get}
use Rattle.std.specs.List.{AllByRecursion}
use Rattle.std.proofs.lemmas.Bool.{eq-eqb, ne_eqb}
use Rattle.std.proofs.lemmas.Option.{none-some, same_Some}
use Rattle.std.proofs.lemmas.List.{append-nil}
use Rattle.std.proofs.lemmas.List.Elements.{filter-append}
use Rattle.crsm_base.specs.Store.{answer_after}
use Rattle.crsm_fact_log.proofs.Lists.{all-append, all_more}
use Rattle.crsm_law_shards.specs.Served.{Answered, KeepsRealTime, Served, entries_of, shard_in}
use Rattle.crsm_law_shards.specs.Shards.{AreShards, IsShard, answer_in, part_of}
use Rattle.crsm_law_shards.specs.Laws.{ShardsAreOneStore}
use Rattle.crsm_law_shards.proofs.Filters.{all_pass, none_passes, filter-map, passes_at}
use Rattle.crsm_law_shards.proofs.Timely.{timely, keeps}
use Rattle.crsm_law_shards.proofs.Merge.{Timed, from_point, in_order, ordered, all_in_order, kept_in_order, points_stay, without_points, IsWithin, points_within, in_real_time}
use Rattle.crsm_law_shards.proofs.Tables.{is_of, answer_is}

module _ (shard : List ℕ → ℕ) where
  -- the lists are those of the shards from this number on
  abbrev FromNumber : ℕ → List (List Served) → Type 0
  FromNumber i lists = (j : ℕ) (list : List Served) → slice_get lists j ≡ Some list → IsShard shard (i + j) list

  tail_from : (i : ℕ) (x : List Served) (lists : List (List Served)) → FromNumber i (x ∷ lists) → FromNumber (suc i) lists
  tail_from i x lists h j list e = subst (λ k. IsShard shard k list) (omega arith) (h (suc j) list e)

  head_from : (i : ℕ) (x : List Served) (lists : List (List Served)) → FromNumber i (x ∷ lists) → IsShard shard i x
  head_from i x lists h = subst (λ k. IsShard shard k x) (omega arith) (h 0 x refl)

  abbrev with_points : List (List Served) → List Timed
  with_points lists = flat_map (from_point 0) lists

  abbrev number_of : Timed → ℕ
  number_of z = shard_in shard z.1.entry

  abbrev is_at : ℕ → Timed → Bool
  is_at s z = number_of z == s

  -- ---- what holds of each entry of the lists

  of_each : (P : Served → Type 0) (t : ℕ) (xs : List Served) → AllByRecursion P xs → AllByRecursion (λ (z : Timed). P z.1) (from_point t xs)
  of_each P t [] all = tt
  of_each P t (x ∷ xs) all = (all.0, of_each P (max t x.asked) xs all.1)

  none_of : (s : ℕ) (t i : ℕ) (xs : List Served) → (i ≡ s → ⊥) → AllByRecursion (λ x. shard_in shard x.entry ≡ i) xs → filter (is_at s) (from_point t xs) ≡ []
  none_of s t i xs other own =
      none_passes (is_at s) (from_point t xs)
      (all_more (λ (z : Timed). number_of z ≡ i) (λ z. is_at s z ≡ false) (λ z e. ne_eqb (number_of z) s (λ f. other (sym e ∙ f))) (from_point t xs) (of_each (λ x. shard_in shard x.entry ≡ i) t xs own))

  all_of : (s t : ℕ) (xs : List Served) → AllByRecursion (λ x. shard_in shard x.entry ≡ s) xs → filter (is_at s) (from_point t xs) ≡ from_point t xs
  all_of s t xs own =
      all_pass (is_at s) (from_point t xs)
      (all_more (λ (z : Timed). number_of z ≡ s) (λ z. is_at s z ≡ true) (λ z e. eq-eqb (number_of z) s e) (from_point t xs) (of_each (λ x. shard_in shard x.entry ≡ s) t xs own))

  none_below : (s i : ℕ) (lists : List (List Served)) → s < i → FromNumber i lists → filter (is_at s) (with_points lists) ≡ []
  none_below s i [] lt h = refl
  none_below s i (x ∷ lists) lt h =
      filter-append (is_at s) (from_point 0 x) (with_points lists)
      ∙ ap (λ l. l ++ filter (is_at s) (with_points lists)) (none_of s 0 i x (λ e. absurd (omega (arith, e, lt))) (head_from i x lists h).own)
      ∙ none_below s (suc i) lists (omega (arith, lt)) (tail_from i x lists h)

  part_at : (i j : ℕ) (lists : List (List Served)) (list : List Served) → FromNumber i lists → slice_get lists j ≡ Some list → filter (is_at (i + j)) (with_points lists) ≡ from_point 0 list
  part_at i j [] list h e = absurd (none-some list e)
  part_at i zero (x ∷ lists) list h e =
      let s = i + 0 in
      filter-append (is_at s) (from_point 0 x) (with_points lists)
      ∙ ap (λ l. l ++ filter (is_at s) (with_points lists)) (all_of s 0 x (h 0 x refl).own)
      ∙ ap (λ l. from_point 0 x ++ l) (none_below s (suc i) lists (omega arith) (tail_from i x lists h))
      ∙ append-nil (from_point 0 x)
      ∙ ap (from_point 0) (same_Some x list e)
  part_at i (suc j) (x ∷ lists) list h e =
      let s = i + suc j in
      filter-append (is_at s) (from_point 0 x) (with_points lists)
      ∙ ap (λ l. l ++ filter (is_at s) (with_points lists)) (none_of s 0 i x (λ f. absurd (omega (arith, f))) (head_from i x lists h).own)
      ∙ subst (λ k. filter (is_at k) (with_points lists) ≡ from_point 0 list) (omega arith) (part_at (suc i) j lists list (tail_from i x lists h) e)

  numbers_below_length : (i : ℕ) (lists : List (List Served)) → FromNumber i lists → AllByRecursion (λ (z : Timed). number_of z < i + length lists) (with_points lists)
  numbers_below_length i [] h = tt
  numbers_below_length i (x ∷ lists) h =
      all-append (λ (z : Timed). number_of z < i + suc (length lists)) (from_point 0 x) (with_points lists)
      (all_more (λ (z : Timed). number_of z ≡ i) (λ z. number_of z < i + suc (length lists)) (λ z e. omega (arith, e)) (from_point 0 x) (of_each (λ y. shard_in shard y.entry ≡ i) 0 x (head_from i x lists h).own))
      (all_more (λ (z : Timed). number_of z < suc i + length lists) (λ z. number_of z < i + suc (length lists)) (λ z e. omega (arith, e)) (with_points lists) (numbers_below_length (suc i) lists (tail_from i x lists h)))

  had_from_zero : (xs : List Served) → AllByRecursion (λ x. (a : Answered) → x.answered ≡ Some a → 0 ≤ a.had) xs
  had_from_zero [] = tt
  had_from_zero (x ∷ xs) = (λ a e. omega arith, had_from_zero xs)

  all_within : (i : ℕ) (lists : List (List Served)) → FromNumber i lists → AllByRecursion IsWithin (with_points lists)
  all_within i [] h = tt
  all_within i (x ∷ lists) h =
      all-append IsWithin (from_point 0 x) (with_points lists)
      (points_within 0 x (had_from_zero x) (timely x (head_from i x lists h).real_time))
      (all_within (suc i) lists (tail_from i x lists h))

  -- ---- the one list

  abbrev the_whole : List (List Served) → List Served
  the_whole lists = map (λ (z : Timed). z.1) (in_order (with_points lists))

  module _ (lists : List (List Served)) (h : AreShards shard lists) where
    from_zero : FromNumber 0 lists
    from_zero j list e = subst (λ k. IsShard shard k list) (omega arith) (h j list e)

    part_is : (s : ℕ) (list : List Served) → slice_get lists s ≡ Some list → part_of shard s (the_whole lists) ≡ list
    part_is s list e =
        filter-map (λ (z : Timed). z.1) (λ x. shard_in shard x.entry == s) (in_order (with_points lists))
        ∙ ap (map (λ (z : Timed). z.1)) (kept_in_order (is_at s) (with_points lists))
        ∙ ap (λ zs. map (λ (z : Timed). z.1) (in_order zs)) (subst (λ k. filter (is_at k) (with_points lists) ≡ from_point 0 list) (omega arith) (part_at 0 s lists list from_zero e))
        ∙ ap (map (λ (z : Timed). z.1)) (points_stay 0 list)
        ∙ without_points 0 list

    all_mapped : (P : Served → Type 0) (zs : List Timed) → AllByRecursion (λ (z : Timed). P z.1) zs → AllByRecursion P (map (λ (z : Timed). z.1) zs)
    all_mapped P [] all = tt
    all_mapped P (z ∷ zs) all = (all.0, all_mapped P zs all.1)

    none_else : AllByRecursion (λ x. shard_in shard x.entry < length lists) (the_whole lists)
    none_else =
        all_mapped (λ x. shard_in shard x.entry < length lists) (in_order (with_points lists))
        (all_in_order (λ z. number_of z < length lists) (with_points lists)
        (all_more (λ (z : Timed). number_of z < 0 + length lists) (λ z. number_of z < length lists) (λ z lt. omega (arith, lt)) (with_points lists) (numbers_below_length 0 lists from_zero)))

    real_time : KeepsRealTime (the_whole lists)
    real_time = keeps (the_whole lists) (in_real_time (in_order (with_points lists)) (ordered (with_points lists)) (all_in_order IsWithin (with_points lists) (all_within 0 lists from_zero)))

    below_at : (xs : List Served) (p : ℕ) (x : Served) → AllByRecursion (λ y. shard_in shard y.entry < length lists) xs → slice_get xs p ≡ Some x → shard_in shard x.entry < length lists
    below_at [] p x all e = absurd (none-some x e)
    below_at (y ∷ ys) zero x all e = subst (λ z. shard_in shard z.entry < length lists) (same_Some y x e) all.0
    below_at (y ∷ ys) (suc p) x all e = below_at ys p x all.1 e

    there : (xs : List (List Served)) (i : ℕ) → i < length xs → (list : List Served) × (slice_get xs i ≡ Some list)
    there [] i lt = absurd (omega (arith, lt))
    there (x ∷ xs) zero lt = (x, refl)
    there (x ∷ xs) (suc i) lt = there xs i (omega (arith, lt))

    take-map : (k : ℕ) (xs : List Served) → take k (entries_of xs) ≡ entries_of (take k xs)
    take-map zero xs = refl
    take-map (suc k) [] = refl
    take-map (suc k) (x ∷ xs) = ap (λ l. x.entry ∷ l) (take-map k xs)

    right : (p : ℕ) (x : Served) (a : Answered) → slice_get (the_whole lists) p ≡ Some x → x.answered ≡ Some a → a.answer ≡ answer_in shard (entries_of (take p (the_whole lists))) x.entry
    right p x a at is =
        let whole = the_whole lists in
        let s = shard_in shard x.entry in
        let of : (Served → Bool) = λ y. shard_in shard y.entry == s in
        let l = there lists s (below_at whole p x none_else at) in
        let same = part_is s l.0 l.1 in
        let t = passes_at of whole p x at (eq-eqb s s refl) in
        let q = length (filter of (take p whole)) in
        let r = (h s l.0 l.1).right q x a (subst (λ y. slice_get y q ≡ Some x) same t.there) is in
        r.1
        ∙ ap (λ es. answer_after es x.entry) (take-map q l.0)
        ∙ ap (λ y. answer_after (entries_of y) x.entry) (ap (take q) (sym same) ∙ t.before)
        ∙ ap (λ es. answer_after es x.entry) (sym (filter-map (λ (y : Served). y.entry) (is_of shard s) (take p whole)))
        ∙ sym (answer_is shard (entries_of (take p whole)) x.entry)

pub one_store : ShardsAreOneStore
one_store shard lists h = (
  the_whole shard lists,
  record { parts = part_is shard lists h; none_else = none_else shard lists h },
  record { right = right shard lists h; real_time = real_time shard lists h },
)
