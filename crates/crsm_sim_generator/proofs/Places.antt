-- Indices in a list: one more element, and the first that passes a test.
use Rattle.std.proofs.Common.{◌≡◌, ◌<◌, ◌+◌, ℕ, zero, suc, Bool, true, false, not, cond, List, [], ◌∷◌, ◌++◌, length, map, take, Some, None, refl, ap, sym, ◌∙◌, subst, arith, take_all}
use Rattle.std.specs.Prelude.{slice_get, filter, ◌≤◌}
use Rattle.std.specs.List.{enumerate_from}
use Rattle.std.specs.Option.{option_map_or}
use Rattle.crsm_sim_generator.specs.View.{View, places, is_up_in, up_replicas, down_replicas}

abbrev pub numbers : {A : Type 0} → List (ℕ × A) → List ℕ
numbers ps = map (λ p. p.0) ps

-- the places from n on
abbrev pub places_from : {A : Type 0} → ℕ → (A → Bool) → List A → List ℕ
places_from n test xs = map (λ p. p.0) (filter (λ p. test p.1) (enumerate_from n xs))

-- the place k, if the test passes
abbrev pub place_if : Bool → ℕ → List ℕ
place_if b k = cond b (k ∷ []) []

-- one element more
pub more : {A : Type 0} (test : A → Bool) (xs : List A) (n k : ℕ) (x : A) → slice_get xs k ≡ Some x → places_from n test (take (suc k) xs) ≡ places_from n test (take k xs) ++ place_if (test x) (n + k)
more test [] n k x e = absurd (cc)
more test (a ∷ xs) n zero x e =
    let same : a ≡ x = cc in
    let z : n + 0 ≡ n = omega arith in
    rw (same, z) (elim (test x) as (λ b. numbers (cond b ((n, x) ∷ []) []) ≡ cond b (n ∷ []) []) [ true ↦ refl | false ↦ refl ])
more test (a ∷ xs) n (suc k) x e =
    let z : n + 1 + k ≡ n + suc k = omega arith in
    let rest = more test xs (n + 1) k x e ∙ ap (λ m. places_from (n + 1) test (take k xs) ++ place_if (test x) m) z in
    elim (test a) as (λ b. numbers (cond b ((n, a) ∷ filter (λ p. test p.1) (enumerate_from (n + 1) (take (suc k) xs))) (filter (λ p. test p.1) (enumerate_from (n + 1) (take (suc k) xs))))
    ≡ numbers (cond b ((n, a) ∷ filter (λ p. test p.1) (enumerate_from (n + 1) (take k xs))) (filter (λ p. test p.1) (enumerate_from (n + 1) (take k xs)))) ++ place_if (test x) (n + suc k)) [
      | true ↦ ap (λ ks. n ∷ ks) rest
      | false ↦ rest
    ]

-- the first element that passes is at the first place
pub first : {A : Type 0} (test : A → Bool) (xs : List A) (n k : ℕ) (x : A) → places_from n test (take k xs) ≡ [] → slice_get xs k ≡ Some x → test x ≡ true → slice_get (places_from n test xs) 0 ≡ Some (n + k)
first test [] n k x none e b = absurd (cc)
first test (a ∷ xs) n zero x none e b =
    let same : a ≡ x = cc in
    let z : n ≡ n + 0 = omega arith in
    rw (same, b) (ap Some z)
first test (a ∷ xs) n (suc k) x none e b =
    let z : n + 1 + k ≡ n + suc k = omega arith in
    elim (test a) as (λ c. numbers (cond c ((n, a) ∷ filter (λ p. test p.1) (enumerate_from (n + 1) (take k xs))) (filter (λ p. test p.1) (enumerate_from (n + 1) (take k xs)))) ≡ []
    → slice_get (numbers (cond c ((n, a) ∷ filter (λ p. test p.1) (enumerate_from (n + 1) xs)) (filter (λ p. test p.1) (enumerate_from (n + 1) xs)))) 0 ≡ Some (n + suc k)) [
      | true ↦ λ h. absurd (cc)
      | false ↦ λ h. first test xs (n + 1) k x h e b ∙ ap Some z
    ] none

-- ---- replicas that are up, or down

up_at : (ups : List Bool) (k : ℕ) → k < length ups → slice_get ups k ≡ Some (option_map_or (λ up. up) (slice_get ups k) false)
up_at [] k l = absurd (omega arith)
up_at (b ∷ ups) zero l = refl
up_at (b ∷ ups) (suc k) l = up_at ups k (omega arith)

pub more_at : (p : Bool → Bool) (v : View) (k : ℕ) → k < length v.ups → places p (take (k + 1) v.ups) ≡ places p (take k v.ups) ++ place_if (p (is_up_in v k)) k
unfolding places is_up_in
more_at p v k l =
    let z : 0 + k ≡ k = omega arith in
    let s : k + 1 ≡ suc k = omega arith in
    ap (λ n. places_from 0 p (take n v.ups)) s ∙ more p v.ups 0 k _ (up_at v.ups k l) ∙ ap (λ m. places_from 0 p (take k v.ups) ++ place_if (p (option_map_or (λ up. up) (slice_get v.ups k) false)) m) z

pub first_at : (p : Bool → Bool) (v : View) (k : ℕ) → k < length v.ups → p (is_up_in v k) ≡ true → places p (take k v.ups) ≡ [] → slice_get (places p v.ups) 0 ≡ Some k
unfolding places is_up_in
first_at p v k l b none = let z : 0 + k ≡ k = omega arith in first p v.ups 0 k _ none (up_at v.ups k l) b ∙ ap Some z

pub none_at : (p : Bool → Bool) (v : View) (k : ℕ) → k < length v.ups → p (is_up_in v k) ≡ false → places p (take k v.ups) ≡ [] → places p (take (k + 1) v.ups) ≡ []
none_at p v k l b none = more_at p v k l ∙ ap (λ ks. ks ++ place_if (p (is_up_in v k)) k) none ∙ ap (λ c. place_if c k) b

pub all_at : (p : Bool → Bool) (v : View) (k : ℕ) → length v.ups ≤ k → places p (take k v.ups) ≡ places p v.ups
all_at p v k l = ap (places p) (take_all k v.ups l)

pub none_yet : (p : Bool → Bool) → places p [] ≡ []
unfolding places
none_yet p = refl
