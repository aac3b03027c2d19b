-- Lists that rise by stamp.
use Rattle.std.proofs.Common.{◌≡◌, ℕ, suc, ◌≤◌, Bool, true, false, refl, sym, ◌∙◌, subst, ap, ◌⊎◌, inl, inr, arith, List, [], ◌∷◌, ◌++◌, length, cond}
use Rattle.std.proofs.lemmas.Bool.Decides.{nat_tests}
use Rattle.std.specs.Prelude.{IsTrue, not, Option, Some, None, filter, slice_get}
use Rattle.std.specs.List.{AllByRecursion}
use Rattle.crsm_spec.specs.Types.{Stamp, Entry}
use Rattle.crsm_base.specs.Order.{stamp_lt, stamp_eq}
use Rattle.crsm_spec.specs.Lists.{Among}
use Rattle.crsm_spec.specs.Log.{above}
use Rattle.crsm_fact_log.specs.Rising.{Rises, IsAbove}
use Rattle.crsm_fact_log.proofs.Lists.{all_at, all_from, kept_from, kept_in}

-- ---- stamps

abbrev pub Lt : Stamp → Stamp → Type 0
Lt a b = IsTrue (stamp_lt a b)

abbrev pub Le : Stamp → Stamp → Type 0
Le a b = IsTrue (not (stamp_lt b a))

pub lt_trans : (a b c : Stamp) → Lt a b → Lt b c → Lt a c
unfolding stamp_lt
lt_trans a b c p q = grind (arith, nat_tests)

pub le_trans : (a b c : Stamp) → Le a b → Le b c → Le a c
unfolding stamp_lt
le_trans a b c p q = grind (arith, nat_tests)

pub lt_le : (a b c : Stamp) → Lt a b → Le b c → Lt a c
unfolding stamp_lt
lt_le a b c p q = grind (arith, nat_tests)

pub le_lt : (a b c : Stamp) → Le a b → Lt b c → Lt a c
unfolding stamp_lt
le_lt a b c p q = grind (arith, nat_tests)

pub lt_not : (a b : Stamp) → Lt a b → Le b a → ⊥
unfolding stamp_lt
lt_not a b p q = grind (arith, nat_tests)

pub lt_is_le : (a b : Stamp) → Lt a b → Le a b
unfolding stamp_lt
lt_is_le a b p = grind (arith, nat_tests)

pub le_self : (a : Stamp) → Le a a
unfolding stamp_lt
le_self a = grind (arith, nat_tests)

pub le_time : (a b : Stamp) → Le a b → a.time ≤ b.time
unfolding stamp_lt
le_time a b p = grind (arith, nat_tests)

pub lt_or_le : (a b : Stamp) → Lt a b ⊎ Le b a
lt_or_le a b = go (stamp_lt a b) refl
  where
    go : (c : Bool) → stamp_lt a b ≡ c → Lt a b ⊎ Le b a
    go true e = inl e
    go false e = inr (ap not e)

same_time : (a b : Stamp) → Le a b → Le b a → a.time ≡ b.time
unfolding stamp_lt
same_time a b p q = grind (arith, nat_tests)

same_origin : (a b : Stamp) → Le a b → Le b a → a.origin ≡ b.origin
unfolding stamp_lt
same_origin a b p q = grind (arith, nat_tests)

pub le_both : (a b : Stamp) → Le a b → Le b a → a ≡ b
le_both a b p q = λ i. record { time = same_time a b p q i; origin = same_origin a b p q i }

pub eq_le : (a b : Stamp) → IsTrue (stamp_eq a b) → Le a b × Le b a
unfolding stamp_eq stamp_lt
eq_le a b p = (grind (arith, nat_tests), grind (arith, nat_tests))

pub eq_self : (a : Stamp) → IsTrue (stamp_eq a a)
unfolding stamp_eq
eq_self a = grind (arith, nat_tests)

-- ---- rising lists

pub rises_filter : (p : Entry → Bool) (xs : List Entry) → Rises xs → Rises (filter p xs)
rises_filter p [] h = tt
rises_filter p (y ∷ ys) h = go (p y) (rises_filter p ys h.1)
  where
    go : (c : Bool) → Rises (filter p ys) → Rises (cond c (y ∷ filter p ys) (filter p ys))
    go true r = (all_from (λ z. Lt y.stamp z.stamp) (filter p ys) (λ z m. all_at (λ z. Lt y.stamp z.stamp) ys z h.0 (kept_from p ys z m).0), r)
    go false r = r

-- two rising lists with the same elements are one
drop_head : (x y : Entry) (xs ys : List Entry) → x ≡ y → AllByRecursion (λ z. Lt x.stamp z.stamp) xs → ((z : Entry) → Among (x ∷ xs) z → Among (y ∷ ys) z) → (z : Entry) → Among xs z → Among ys z
drop_head x y xs ys e h i z m = go (i z (inr m))
  where
    go : Among (y ∷ ys) z → Among ys z
    go (inl f) = absurd (lt_not x.stamp z.stamp (all_at (λ z. Lt x.stamp z.stamp) xs z h m) (subst (λ (w : Entry). Le w.stamp x.stamp) (e ∙ f) (le_self x.stamp)))
    go (inr n) = n

pub same_rising : (xs ys : List Entry) → Rises xs → Rises ys → ((z : Entry) → Among xs z → Among ys z) → ((z : Entry) → Among ys z → Among xs z) → xs ≡ ys
same_rising [] [] h k i j = refl
same_rising [] (y ∷ ys) h k i j = absurd (j y (inl refl))
same_rising (x ∷ xs) [] h k i j = absurd (i x (inl refl))
same_rising (x ∷ xs) (y ∷ ys) h k i j =
    let e : x ≡ y = heads (i x (inl refl)) (j y (inl refl)) in
    (λ t. e t ∷ same_rising xs ys h.1 k.1 (drop_head x y xs ys e h.0 i) (drop_head y x ys xs (sym e) k.0 j) t)
  where
    heads : Among (y ∷ ys) x → Among (x ∷ xs) y → x ≡ y
    heads (inl f) m = sym f
    heads (inr n) (inl f) = f
    heads (inr n) (inr m) = absurd (lt_not y.stamp x.stamp (all_at (λ z. Lt y.stamp z.stamp) ys x k.0 n) (lt_is_le x.stamp y.stamp (all_at (λ z. Lt x.stamp z.stamp) xs y h.0 m)))

-- ---- the entries up to a stamp, none where there is none

unfoldable pub upto : Option Stamp → List Entry → List Entry
upto None xs = []
upto (Some s) xs = filter (λ e. not (stamp_lt s e.stamp)) xs

no_upto : (s : Stamp) (xs : List Entry) → AllByRecursion (λ z. Lt s z.stamp) xs → (filter (λ e. not (stamp_lt s e.stamp)) xs ≡ []) × (filter (λ e. stamp_lt s e.stamp) xs ≡ xs)
no_upto s [] h = (refl, refl)
no_upto s (y ∷ ys) h = let r = no_upto s ys h.1 in (go (stamp_lt s y.stamp) h.0 r.0, go' (stamp_lt s y.stamp) h.0 r.1)
  where
    go : (c : Bool) → IsTrue c → filter (λ e. not (stamp_lt s e.stamp)) ys ≡ [] → cond (not c) (y ∷ filter (λ e. not (stamp_lt s e.stamp)) ys) (filter (λ e. not (stamp_lt s e.stamp)) ys) ≡ []
    go true t r = r
    go false t r = absurd (cc t)

    go' : (c : Bool) → IsTrue c → filter (λ e. stamp_lt s e.stamp) ys ≡ ys → cond c (y ∷ filter (λ e. stamp_lt s e.stamp) ys) (filter (λ e. stamp_lt s e.stamp) ys) ≡ y ∷ ys
    go' true t r = ap (λ zs. y ∷ zs) r
    go' false t r = absurd (cc t)

split_at : (s : Stamp) (xs : List Entry) → Rises xs → filter (λ e. not (stamp_lt s e.stamp)) xs ++ filter (λ e. stamp_lt s e.stamp) xs ≡ xs
split_at s [] h = refl
split_at s (y ∷ ys) h = go (stamp_lt s y.stamp) refl (split_at s ys h.1)
  where
    go : (c : Bool) → stamp_lt s y.stamp ≡ c → filter (λ e. not (stamp_lt s e.stamp)) ys ++ filter (λ e. stamp_lt s e.stamp) ys ≡ ys → cond (not c) (y ∷ filter (λ e. not (stamp_lt s e.stamp)) ys) (filter (λ e. not (stamp_lt s e.stamp)) ys) ++ cond c (y ∷ filter (λ e. stamp_lt s e.stamp) ys) (filter (λ e. stamp_lt s e.stamp) ys) ≡ y ∷ ys
    go true e i =
        let r = no_upto s ys (all_from (λ z. Lt s z.stamp) ys (λ z m. lt_trans s y.stamp z.stamp e (all_at (λ z. Lt y.stamp z.stamp) ys z h.0 m))) in
        ap (λ zs. zs ++ (y ∷ filter (λ e. stamp_lt s e.stamp) ys)) r.0 ∙ ap (λ zs. y ∷ zs) r.1
    go false e i = ap (λ zs. y ∷ zs) i

-- a rising list is what is up to a stamp, and then what is above it
pub split : (o : Option Stamp) (xs : List Entry) → Rises xs → upto o xs ++ above o xs ≡ xs
unfolding upto above
split None xs h = refl
split (Some s) xs h = split_at s xs h

pub rises_upto : (o : Option Stamp) (xs : List Entry) → Rises xs → Rises (upto o xs)
unfolding upto
rises_upto None xs h = tt
rises_upto (Some s) xs h = rises_filter _ xs h

pub rises_above : (o : Option Stamp) (xs : List Entry) → Rises xs → Rises (above o xs)
unfolding above
rises_above None xs h = h
rises_above (Some s) xs h = rises_filter _ xs h

pub above_from : (o : Option Stamp) (xs : List Entry) (z : Entry) → Among (above o xs) z → Among xs z × IsAbove o z
unfolding above
above_from None xs z m = (m, tt)
above_from (Some s) xs z m = kept_from _ xs z m

pub above_in : (o : Option Stamp) (xs : List Entry) (z : Entry) → Among xs z → IsAbove o z → Among (above o xs) z
unfolding above
above_in None xs z m t = m
above_in (Some s) xs z m t = kept_in _ xs z m t

pub upto_from : (s : Stamp) (xs : List Entry) (z : Entry) → Among (upto (Some s) xs) z → Among xs z × Le z.stamp s
unfolding upto
upto_from s xs z m = kept_from _ xs z m

pub upto_in : (s : Stamp) (xs : List Entry) (z : Entry) → Among xs z → Le z.stamp s → Among (upto (Some s) xs) z
unfolding upto
upto_in s xs z m t = kept_in _ xs z m t

-- the greatest of a rising list is its last
pub top_at : (xs : List Entry) (x : Entry) → Rises xs → Among xs x → AllByRecursion (λ z. Le z.stamp x.stamp) xs → (n : ℕ) × (length xs ≡ suc n) × (slice_get xs n ≡ Some x)
top_at [] x h m u = absurd m
top_at (y ∷ []) x h (inl e) u = (0, refl, ap Some e)
top_at (y ∷ []) x h (inr m) u = absurd m
top_at (y ∷ z ∷ zs) x h (inl e) u = absurd (lt_not x.stamp z.stamp (subst (λ (w : Entry). Lt w.stamp z.stamp) e h.0.0) u.1.0)
top_at (y ∷ z ∷ zs) x h (inr m) u = let r = top_at (z ∷ zs) x h.1 m u.1 in (suc r.0, ap suc r.1, r.2)
