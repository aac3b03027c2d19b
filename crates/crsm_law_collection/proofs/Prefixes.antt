-- The beginning of the next epoch, by a collection.
use Rattle.std.proofs.Common.{◌≡◌, ℕ, zero, suc, ◌-◌, ◌<◌, ◌≤◌, refl, sym, ◌∙◌, subst, ap, ◌⊎◌, inl, inr, arith, List, [], ◌∷◌, ◌++◌, length, take, map}
use Rattle.std.proofs.lemmas.Bool.{leb-true, cases_lt, and_parts, and_from, or_left, or_right, eq-eqb, lt-ltb}
use Rattle.std.proofs.lemmas.Option.{same_Some, none-some}
use Rattle.std.specs.Prelude.{IsTrue, ◌==◌, nat_lt, find, flat_map, max, Option, Some, None, slice_get}
use Rattle.std.specs.Option.{option_map_or}
use Rattle.crsm_spec.specs.Types.{Entry}
use Rattle.crsm_spec.specs.Lists.{IsPrefixOf, Among, first_of, greatest}
use Rattle.crsm_spec.specs.Log.{start, executed}
use Rattle.crsm_spec.specs.Paxos.{majority}
use Rattle.crsm_spec.specs.Collect.{pages_of, whole_ones, all_entries, first_pages, base_of, floor_of, union, collected}
use Rattle.crsm_base.specs.Order.{stamp_lt, entry_lt}
use Rattle.crsm_base.specs.Reading.{is_rising}
use Rattle.crsm_spec.specs.Replica.{LogPage}
use Rattle.crsm_fact_log.specs.Rising.{Rises}
use Rattle.crsm_law_collection.specs.Collecting.{IsWellMade}
use Rattle.crsm_law_collection.specs.Starts.{CompleteIsCollected, ListsArePrefixes, StartRises}
use Rattle.crsm_fact_log.specs.Collected.{CollectedIsMade}
use Rattle.crsm_fact_log.proofs.Lists.{flat_from, flat_in, get_some}
use Rattle.crsm_fact_log.proofs.Pages.{firsts_from, firsts_in, top_high, top_from, found_from, found_none}
use Rattle.crsm_law_collection.proofs.Law.{commit_epoch, are_well_made, reports_make, commits_stand}
use Rattle.crsm_law_collection.proofs.Pages.{pages_report}
use Rattle.crsm_fact_log.proofs.Merge.{whole_ones_are_many, above_same}
use Rattle.crsm_fact_log.proofs.Sorted.{Lt, rises_above, above_from, above_in}
use Rattle.crsm_fact_log.proofs.Union.{union_rises, union_from, union_has}
use Rattle.crsm_fact_log.proofs.Logged.{logged_epoch}

pub complete_is_collected : CompleteIsCollected
complete_is_collected e n begins counted members named logs log pages facts knows starts parts many =
    reports_make e n begins counted members named logs log pages facts knows starts
    (whole_ones_are_many counted pages (leb-true (majority (length counted)) (length (whole_ones counted pages)) many))
    (pages_report e counted logs pages parts)

-- a list whose elements are another's is its prefix
prefix_from : (xs ys : List Entry) → ((p : ℕ) (x : Entry) → slice_get xs p ≡ Some x → slice_get ys p ≡ Some x) → IsPrefixOf xs ys
prefix_from [] ys h = (ys, refl)
prefix_from (x ∷ xs) [] h = absurd (none-some x (h 0 x refl))
prefix_from (x ∷ xs) (y ∷ ys) h =
    let r = prefix_from xs ys (λ p z e. h (suc p) z e) in
    (r.0, λ i. same_Some x y (sym (h 0 x refl)) i ∷ r.1 i)

take_at : (n : ℕ) (xs ys : List Entry) (p : ℕ) (x : Entry) → p < n → slice_get xs p ≡ Some x → slice_get (take n xs ++ ys) p ≡ Some x
take_at zero xs ys p x l e = absurd (omega arith)
take_at (suc n) [] ys p x l e = absurd (none-some x e)
take_at (suc n) (z ∷ xs) ys zero x l e = e
take_at (suc n) (z ∷ xs) ys (suc p) x l e = take_at n xs ys p x (omega arith) e

behind_at : (n : ℕ) (xs ys : List Entry) (p : ℕ) (x : Entry) → n ≤ length xs → n ≤ p → slice_get ys (p - n) ≡ Some x → slice_get (take n xs ++ ys) p ≡ Some x
behind_at zero xs ys p x l m e = subst (λ q. slice_get ys q ≡ Some x) (omega arith) e
behind_at (suc n) [] ys p x l m e = absurd (omega arith)
behind_at (suc n) (z ∷ xs) ys zero x l m e = absurd (omega arith)
behind_at (suc n) (z ∷ xs) ys (suc p) x l m e = behind_at n xs ys p x (omega arith) (omega arith) (subst (λ q. slice_get ys q ≡ Some x) (omega arith) e)

pub lists_are_prefixes : ListsArePrefixes
lists_are_prefixes e n begins counted logs d h holder k log facts agree made holds knows long is_end known_is =
    prefix_from (executed log) (take d.base_len (executed holder) ++ d.tail) (λ p x f. go p x f (cases_lt p begins) (cases_lt p d.base_len))
  where
    -- what stands in the holder's list at a place of the base
    in_base : (p : ℕ) (x : Entry) → p < d.base_len → ((y : Entry) → slice_get (executed holder) p ≡ Some y → y ≡ x) → slice_get (take d.base_len (executed holder) ++ d.tail) p ≡ Some x
    in_base p x l same =
        let g = get_some (executed holder) p (omega arith) in
        take_at d.base_len (executed holder) d.tail p x l (g.1 ∙ ap Some (same g.0 g.1))

    go : (p : ℕ) (x : Entry) → slice_get (executed log) p ≡ Some x → (p < begins) ⊎ (begins ≤ p) → (p < d.base_len) ⊎ (d.base_len ≤ p) → slice_get (take d.base_len (executed holder) ++ d.tail) p ≡ Some x
    go p x f (inl l) (inl m) = in_base p x m (λ y g. agree h k holder log holds knows is_end known_is p y x l g f)
    go p x f (inl l) (inr m) = let w = (are_well_made e n begins counted logs d facts made).low in absurd (omega arith)
    go p x f (inr l) (inl m) =
        let c = facts.behind k log is_end known_is p x l f in
        let s = commits_stand e n begins counted logs d p x facts made c in
        in_base p x m (λ y g. same_Some y x (sym g ∙ s.lists h holder holds knows (omega arith)))
    go p x f (inr l) (inr m) =
        let c = facts.behind k log is_end known_is p x l f in
        let s = commits_stand e n begins counted logs d p x facts made c in
        behind_at d.base_len (executed holder) d.tail p x long m (s.tail m)

-- ---- the start rises

lt_same : (y z : Entry) → y.epoch ≡ z.epoch → Lt y.stamp z.stamp → IsTrue (entry_lt y z)
unfolding entry_lt
lt_same y z e l = or_right (nat_lt y.epoch z.epoch) _ (and_from (y.epoch == z.epoch) (stamp_lt y.stamp z.stamp) (eq-eqb y.epoch z.epoch e) l)

lt_older : (y z : Entry) → y.epoch < z.epoch → IsTrue (entry_lt y z)
unfolding entry_lt
lt_older y z l = or_left (nat_lt y.epoch z.epoch) _ (lt-ltb y.epoch z.epoch l)

rises_join : (xs ys : List Entry) → IsTrue (is_rising xs) → IsTrue (is_rising ys) → ((y z : Entry) → Among xs y → Among ys z → IsTrue (entry_lt y z)) → IsTrue (is_rising (xs ++ ys))
unfolding is_rising
rises_join [] ys h k l = k
rises_join (x ∷ []) [] h k l = refl
rises_join (x ∷ []) (y ∷ ys) h k l = and_from (entry_lt x y) (is_rising (y ∷ ys)) (l x y (inl refl) (inl refl)) k
rises_join (x ∷ w ∷ xs) ys h k l =
    let a = and_parts (entry_lt x w) (is_rising (w ∷ xs)) h in
    and_from (entry_lt x w) (is_rising (w ∷ xs ++ ys)) a.0 (rises_join (w ∷ xs) ys a.1 k (λ y z m i. l y z (inr m) i))

rises_take : (n : ℕ) (xs : List Entry) → IsTrue (is_rising xs) → IsTrue (is_rising (take n xs))
unfolding is_rising
rises_take zero xs h = refl
rises_take (suc n) [] h = refl
rises_take (suc zero) (x ∷ xs) h = refl
rises_take (suc (suc n)) (x ∷ []) h = refl
rises_take (suc (suc n)) (x ∷ y ∷ xs) h =
    let a = and_parts (entry_lt x y) (is_rising (y ∷ xs)) h in
    and_from (entry_lt x y) (is_rising (take (suc n) (y ∷ xs))) a.0 (rises_take (suc n) (y ∷ xs) a.1)

rises_of : (e : ℕ) (xs : List Entry) → Rises xs → ((z : Entry) → Among xs z → z.epoch ≡ e) → IsTrue (is_rising xs)
unfolding is_rising
rises_of e [] h k = refl
rises_of e (x ∷ []) h k = refl
rises_of e (x ∷ y ∷ xs) h k = and_from (entry_lt x y) (is_rising (y ∷ xs)) (lt_same x y (k x (inl refl) ∙ sym (k y (inr (inl refl)))) h.0.0) (rises_of e (y ∷ xs) h.1 (λ z m. k z (inr m)))

taken_from : (n : ℕ) (xs : List Entry) (y : Entry) → Among (take n xs) y → (p : ℕ) × (p < n) × (slice_get xs p ≡ Some y)
taken_from zero xs y m = absurd m
taken_from (suc n) [] y m = absurd m
taken_from (suc n) (x ∷ xs) y (inl e) = (0, omega arith, ap Some e)
taken_from (suc n) (x ∷ xs) y (inr m) = let r = taken_from n xs y m in (suc r.0, omega (arith, r.1), r.2)

pub start_rises : StartRises
start_rises e n begins counted logs d h holder facts made holds knows rising =
    rises_join (take d.base_len (executed holder)) d.tail (rises_take d.base_len (executed holder) rising) (rises_of e d.tail w.rises of_epoch) (λ y z m i. let r = taken_from d.base_len (executed holder) y m in go r.0 y z r.1 r.2 i (cases_lt r.0 begins))
  where
    w : IsWellMade e begins logs d
    w = are_well_made e n begins counted logs d facts made

    of_epoch : (z : Entry) → Among d.tail z → z.epoch ≡ e
    of_epoch z m = let r = w.logged_are z m in logged_epoch e (logs r.0) z r.1

    go : (p : ℕ) (y z : Entry) → p < d.base_len → slice_get (executed holder) p ≡ Some y → Among d.tail z → (p < begins) ⊎ (begins ≤ p) → IsTrue (entry_lt y z)
    go p y z l f m (inl b) = let o = facts.before h holder holds knows p y b f in lt_older y z (omega (arith, o, of_epoch z m))
    go p y z l f m (inr b) =
        let c = facts.behind h holder holds knows p y b f in
        lt_same y z (commit_epoch e n begins counted logs facts p y c ∙ sym (of_epoch z m)) (w.behind p y z c l m)
