-- Latest times, one more time received, and the least of some.
use Rattle.std.proofs.Common.{◌≡◌, ℕ, ◌+◌, ◌<◌, ◌≤◌, Bool, true, false, cond, refl, sym, ◌∙◌, ap, subst, arith, List, [], ◌∷◌, ◌++◌, ◌⊎◌, inl, inr, length, get_or, set, take, get_or-set_same, get_or-set_other, max, min, ◌^◌}
use Rattle.std.proofs.lemmas.Bool.{eqb-true, eq-eqb}
use Rattle.std.proofs.lemmas.Bool.Decides.{nat_tests}
use Rattle.std.proofs.lemmas.List.{take_more}
use Rattle.std.specs.Prelude.{◌==◌, ◌&&◌, ◌||◌, nat_le}
use Rattle.std.specs.List.{list_any, list_all}
use Rattle.crsm_spec.specs.Lists.{greatest}
use Rattle.crsm_spec.specs.Replica.{latest_from}
use Rattle.crsm_spec.specs.Ready.{reached}

abbrev ReceivedAll : List ℕ → List (ℕ × ℕ) → Type 0
ReceivedAll times received = (k : ℕ) → k < 15 → get_or times k 0 ≡ latest_from received k

pub none_received : (k : ℕ) → latest_from [] k ≡ 0
unfolding latest_from greatest
none_received k = refl

latest_at : (k t j : ℕ) (received : List (ℕ × ℕ)) (b : Bool) → (k == j) ≡ b → latest_from ((k, t) ∷ received) j ≡ cond b (max t (latest_from received j)) (latest_from received j)
unfolding latest_from greatest
latest_at k t j received true e = rw e refl
latest_at k t j received false e = rw e refl

either_test : (t a l : ℕ) → nat_le t (max a l) ≡ (nat_le t a || nat_le t l)
either_test t a l = grind (arith, nat_tests)

-- what the latest time decides
pub has_reached : (received : List (ℕ × ℕ)) (k t : ℕ) → 1 ≤ t → nat_le t (latest_from received k) ≡ reached received t k
unfolding latest_from greatest reached
has_reached [] k t p = grind (arith, nat_tests)
has_reached (h ∷ received) k t p = go (h.0 == k) refl (has_reached received k t p)
  where
    go : (b : Bool) → (h.0 == k) ≡ b → nat_le t (latest_from received k) ≡ list_any (λ h. h.0 == k && nat_le t h.1) received →
        nat_le t (latest_from (h ∷ received) k) ≡ ((h.0 == k && nat_le t h.1) || list_any (λ h. h.0 == k && nat_le t h.1) received)
    go true e i = rw e (either_test t h.1 (latest_from received k) ∙ ap (λ b. nat_le t h.1 || b) i)
    go false e i = rw e i

max_above : (t l : ℕ) → l < t → t ≡ max t l
max_above t l h = omega arith

max_upto : (t l : ℕ) → t ≤ l → l ≡ max t l
max_upto t l h = omega arith

same_or_not : (k j : ℕ) → ((k == j) ≡ true) ⊎ ((k == j) ≡ false)
same_or_not k j = grind (arith, nat_tests)

-- a greater time replaces the latest
pub received_more : (times : List ℕ) (received : List (ℕ × ℕ)) (k t : ℕ) → length times ≡ 15 → k < 15 → get_or times k 0 < t → ReceivedAll times received → ReceivedAll (set times k t) ((k, t) ∷ received)
received_more times received k t len in_range above s j h = go (same_or_not k j)
  where
    go : ((k == j) ≡ true) ⊎ ((k == j) ≡ false) → get_or (set times k t) j 0 ≡ latest_from ((k, t) ∷ received) j
    go (inl e) =
        let same : k ≡ j = eqb-true k j e in
        let old : get_or times j 0 ≡ latest_from received j = s j h in
        let lt : latest_from received j < t = subst (λ x. x < t) (ap (λ i. get_or times i 0) same ∙ old) above in
        subst (λ i. get_or (set times k t) i 0 ≡ t) same (get_or-set_same times k t 0 (omega arith)) ∙ max_above t (latest_from received j) lt ∙ sym (latest_at k t j received true e)
    go (inr e) = get_or-set_other times k j t 0 (λ x. cc (sym e ∙ eq-eqb k j (sym x))) ∙ s j h ∙ sym (latest_at k t j received false e)

-- another time leaves it
pub received_less : (times : List ℕ) (received : List (ℕ × ℕ)) (k t : ℕ) → t ≤ get_or times k 0 → ReceivedAll times received → ReceivedAll times ((k, t) ∷ received)
received_less times received k t upto s j h = go (same_or_not k j)
  where
    go : ((k == j) ≡ true) ⊎ ((k == j) ≡ false) → get_or times j 0 ≡ latest_from ((k, t) ∷ received) j
    go (inl e) =
        let same : k ≡ j = eqb-true k j e in
        let old : get_or times j 0 ≡ latest_from received j = s j h in
        let le : t ≤ latest_from received j = subst (λ x. t ≤ x) (ap (λ i. get_or times i 0) same ∙ old) upto in
        old ∙ max_upto t (latest_from received j) le ∙ sym (latest_at k t j received true e)
    go (inr e) = s j h ∙ sym (latest_at k t j received false e)

-- ---- the least

both_test : (t a l : ℕ) → nat_le t (min a l) ≡ (nat_le t a && nat_le t l)
both_test t a l = grind (arith, nat_tests)

and_true : (b : Bool) → (b && true) ≡ b
and_true true = refl
and_true false = refl

and_assoc : (a b c : Bool) → (a && (b && c)) ≡ ((a && b) && c)
and_assoc true b c = refl
and_assoc false b c = refl

all_push : (p : ℕ → Bool) (xs : List ℕ) (y : ℕ) → list_all p (xs ++ y ∷ []) ≡ (list_all p xs && p y)
all_push p [] y = and_true (p y)
all_push p (x ∷ xs) y = ap (λ b. p x && b) (all_push p xs y) ∙ and_assoc (p x) (list_all p xs) (p y)

-- one more member is counted in
pub least_more : (received : List (ℕ × ℕ)) (t : ℕ) (members : List ℕ) (i m least latest new : ℕ) → i < length members → m ≡ get_or members i 0 →
    latest ≡ latest_from received m → new ≡ min least latest → 1 ≤ t → nat_le t least ≡ list_all (reached received t) (take i members) →
    nat_le t new ≡ list_all (reached received t) (take (i + 1) members)
least_more received t members i m least latest new within e here is one so_far =
    ap (nat_le t) is ∙ both_test t least latest ∙ ap (λ b. b && nat_le t latest) so_far
    ∙ ap (λ b. list_all (reached received t) (take i members) && b) (ap (nat_le t) here ∙ has_reached received m t one)
    ∙ sym (all_push (reached received t) (take i members) m)
    ∙ ap (λ x. list_all (reached received t) (take i members ++ x ∷ [])) e
    ∙ sym (ap (list_all (reached received t)) (take_more members i 0 within))

-- every number is at most the greatest
pub none_counted : (t : ℕ) → t < 2 ^ 64 → nat_le t 18446744073709551615 ≡ true
none_counted t small = grind (arith, nat_tests)
