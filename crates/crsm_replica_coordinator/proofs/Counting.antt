-- The number of distinct counted replicas is the count over them.
use Rattle.std.proofs.Common.{◌≡◌, ℕ, ◌+◌, ◌<◌, List, [], ◌∷◌, ◌++◌, length, refl, sym, ◌∙◌, ap, cond, arith, Bool, true, false, length-append}
use Rattle.std.specs.Prelude.{◌==◌, ◌||◌, nat_le, count_by}
use Rattle.std.proofs.lemmas.Bool.{eqb-true, eq-eqb, false≢true}
use Rattle.std.proofs.lemmas.Bool.Decides.{nat_tests}
use Rattle.std.proofs.lemmas.List.Folds.{list_any-append}
use Rattle.std.proofs.lemmas.List.Sums.{sum_by-cons}
use Rattle.crsm_base.specs.Members.{RisesWithin, IsMembers}
use Rattle.crsm_spec.specs.Lists.{has}
use Rattle.crsm_spec.specs.Paxos.{majority}
use Rattle.crsm_spec.specs.Quorum.{has_majority}
use Rattle.crsm_replica_coordinator.specs.Coordinator.{IsCounted}

count_cons : (p : ℕ → Bool) (x : ℕ) (xs : List ℕ) → count_by p (x ∷ xs) ≡ cond (p x) 1 0 + count_by p xs
count_cons p x xs = sum_by-cons (λ y. cond (p y) 1 0) x xs

or_none : (a b : Bool) → (a || (b || false)) ≡ (a || b)
or_none true b = refl
or_none false true = refl
or_none false false = refl

pub has_push : (ks : List ℕ) (k j : ℕ) → has (ks ++ k ∷ []) j ≡ (has ks j || k == j)
unfolding has
has_push ks k j = list_any-append (λ i. i == j) ks (k ∷ []) ∙ or_none (has ks j) (k == j)

pub has_first : (ks : List ℕ) (k j : ℕ) → has (k ∷ ks) j ≡ (k == j || has ks j)
unfolding has
has_first ks k j = refl

or_swap : (a b : Bool) → (a || b) ≡ (b || a)
or_swap true true = refl
or_swap true false = refl
or_swap false true = refl
or_swap false false = refl

-- it makes no difference at which end a replica is added
pub has_either_end : (xs ys : List ℕ) (k : ℕ) → ((j : ℕ) → has xs j ≡ has ys j) → (j : ℕ) → has (xs ++ k ∷ []) j ≡ has (k ∷ ys) j
has_either_end xs ys k h j = has_push xs k j ∙ ap (λ b. b || k == j) (h j) ∙ or_swap (has ys j) (k == j) ∙ sym (has_first ys k j)

-- and none where it is there already
pub has_again : (xs ys : List ℕ) (k : ℕ) → ((j : ℕ) → has xs j ≡ has ys j) → has xs k ≡ true → (j : ℕ) → has xs j ≡ has (k ∷ ys) j
has_again xs ys k h there j = go (k == j) refl ∙ sym (has_first ys k j)
  where
    go : (b : Bool) → (k == j) ≡ b → has xs j ≡ (k == j || has ys j)
    go true e = let same = eqb-true k j e in ap (λ i. has xs i) (sym same) ∙ there ∙ ap (λ b. b || has ys j) (sym e)
    go false e = h j ∙ ap (λ b. b || has ys j) (sym e)

-- ---- counts

pub count_alike : (p q : ℕ → Bool) (xs : List ℕ) → ((j : ℕ) → p j ≡ q j) → count_by p xs ≡ count_by q xs
count_alike p q [] h = refl
count_alike p q (x ∷ xs) h =
    count_cons p x xs ∙ ap (λ b. cond b 1 0 + count_by p xs) (h x) ∙ ap (λ m. cond (q x) 1 0 + m) (count_alike p q xs h) ∙ sym (count_cons q x xs)

pub count_nothing : (xs : List ℕ) → count_by (has []) xs ≡ 0
unfolding has
count_nothing [] = refl
count_nothing (x ∷ xs) = count_cons (has []) x xs ∙ (let e = count_nothing xs in omega (arith, e))

joined : (a b : Bool) (m n o : ℕ) → (b ≡ true → a ≡ false) → m ≡ n + o → cond (a || b) 1 0 + m ≡ cond a 1 0 + n + (cond b 1 0 + o)
joined true true m n o h e = absurd (false≢true (sym (h refl)))
joined true false m n o h e = omega (arith, e)
joined false true m n o h e = omega (arith, e)
joined false false m n o h e = omega (arith, e)

-- one more replica adds what it is counted itself
count_push : (spec ks : List ℕ) (k : ℕ) → has ks k ≡ false → count_by (has (ks ++ k ∷ [])) spec ≡ count_by (has ks) spec + count_by (λ j. k == j) spec
count_push [] ks k h = refl
count_push (s ∷ ss) ks k h =
    let e = count_push ss ks k h in
    let apart : (k == s) ≡ true → has ks s ≡ false = λ t. ap (λ i. has ks i) (sym (eqb-true k s t)) ∙ h in
    count_cons (has (ks ++ k ∷ [])) s ss ∙ ap (λ b. cond b 1 0 + count_by (has (ks ++ k ∷ [])) ss) (has_push ks k s)
    ∙ joined (has ks s) (k == s) (count_by (has (ks ++ k ∷ [])) ss) (count_by (has ks) ss) (count_by (λ j. k == j) ss) apart e
    ∙ ap (λ m. m + (cond (k == s) 1 0 + count_by (λ j. k == j) ss)) (sym (count_cons (has ks) s ss))
    ∙ ap (λ m. count_by (has ks) (s ∷ ss) + m) (sym (count_cons (λ j. k == j) s ss))

not_below : (k s : ℕ) → k < s → (k == s) ≡ false
not_below k s h = grind (arith, nat_tests)

count_above : (low high : ℕ) (ss : List ℕ) (k : ℕ) → RisesWithin low high ss → k < low → count_by (λ j. k == j) ss ≡ 0
count_above low high [] k r h = refl
count_above low high (s ∷ ss) k r h =
    count_cons (λ j. k == j) s ss ∙ ap (λ b. cond b 1 0 + count_by (λ j. k == j) ss) (not_below k s (omega (arith, r.0)))
    ∙ (let e = count_above (s + 1) high ss k r.2 (omega (arith, r.0)) in omega (arith, e))

count_one : (low high : ℕ) (ss : List ℕ) (k : ℕ) → RisesWithin low high ss → has ss k ≡ true → count_by (λ j. k == j) ss ≡ 1
unfolding has
count_one low high [] k r h = absurd (false≢true h)
count_one low high (s ∷ ss) k r h = go (s == k) refl (λ t. count_one (s + 1) high ss k r.2 t)
  where
    first : (s == k) ≡ true → count_by (λ j. k == j) (s ∷ ss) ≡ 1
    first t =
        let e = eqb-true s k t in
        count_cons (λ j. k == j) s ss ∙ ap (λ b. cond b 1 0 + count_by (λ j. k == j) ss) (eq-eqb k s (sym e))
        ∙ (let z = count_above (s + 1) high ss k r.2 (omega (arith, e)) in omega (arith, z))

    later : (s == k) ≡ false → has ss k ≡ true → count_by (λ j. k == j) ss ≡ 1 → count_by (λ j. k == j) (s ∷ ss) ≡ 1
    later f t one =
        let other : (k == s) ≡ false = grind (arith, nat_tests, f) in
        count_cons (λ j. k == j) s ss ∙ ap (λ b. cond b 1 0 + count_by (λ j. k == j) ss) other ∙ omega (arith, one)

    there : (s == k) ≡ false → has ss k ≡ true
    there f = ap (λ b. b || has ss k) (sym f) ∙ h

    go : (b : Bool) → (s == k) ≡ b → (has ss k ≡ true → count_by (λ j. k == j) ss ≡ 1) → count_by (λ j. k == j) (s ∷ ss) ≡ 1
    go true t more = first t
    go false f more = later f (there f) (more (there f))

rises : (spec : List ℕ) → IsMembers spec → RisesWithin 0 15 spec
rises [] m = absurd m
rises (s ∷ ss) m = m

pub push_counted : (spec ks : List ℕ) (k : ℕ) → IsCounted spec ks → has spec k ≡ true → has ks k ≡ false → IsCounted spec (ks ++ k ∷ [])
push_counted spec ks k c of_spec new =
    let one = count_one 0 15 spec k (rises spec c.members) of_spec in
    record {
      members = c.members;
      once = count_push spec ks k new ∙ (let once = c.once in omega (arith, once, one, length-append ks (k ∷ [])));
    }

pub none_counted : (spec : List ℕ) → IsMembers spec → IsCounted spec []
none_counted spec m = record { members = m; once = count_nothing spec }

-- whether this number of counted replicas is a majority
pub many_counted : (spec ks others : List ℕ) (size many : ℕ) → IsCounted spec ks → ((j : ℕ) → has ks j ≡ has others j) → size ≡ length spec → many ≡ length ks → nat_le (majority size) many ≡ has_majority spec others
unfolding has_majority
many_counted spec ks others size many c h s m =
    ap (λ i. nat_le (majority i) many) s ∙ ap (λ i. nat_le (majority (length spec)) i) (m ∙ sym c.once ∙ count_alike (has ks) (has others) spec h)
