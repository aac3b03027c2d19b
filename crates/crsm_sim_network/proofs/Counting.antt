-- Counts by class of lists that change.
use Rattle.std.proofs.Common.{◌≡◌, ◌<◌, ◌≤◌, ◌+◌, ◌-◌, ◌^◌, ◌&&◌, ℕ, zero, suc, Bool, true, false, cond, List, [], ◌∷◌, ◌++◌, length, get_or, replicate, set, Some, refl, ap, sym, ◌∙◌, arith, inl, inr}
use Rattle.std.specs.Prelude.{nat_eq, nat_lt, min, slice_get}
use Rattle.std.specs.List.{AllByRecursion, count_by}
use Rattle.std.proofs.Math.Nat.{min-eq_left}
use Rattle.std.proofs.lemmas.Bool.{ltb-true, ltb-false, lt-ltb, le-ltb}
use Rattle.std.proofs.lemmas.Bool.Decides.{eqb_tells}
use Rattle.std.proofs.lemmas.List.{length-replicate, length-set, get_or-set_same, get_or-set_other}
use Rattle.std.proofs.lemmas.List.Sums.{sum_by-append, sum_by-cons, sum_by-set, count_by-le-length}
use Rattle.std.proofs.lemmas.Option.{slice_get_within, get_or_from_slice_get}
use Rattle.crsm_sim_network.specs.Tally.{IsClass, IsCount}

-- one where the class is this one
abbrev hit : ℕ → ℕ → ℕ
hit class x = cond (nat_eq class x) 1 0

noughts : (n i : ℕ) → get_or {A = ℕ} (replicate n 0) i 0 ≡ 0
noughts zero i = refl
noughts (suc n) zero = refl
noughts (suc n) (suc i) = noughts n i

pub no_more : IsCount (replicate 32 0) []
no_more = record { whole = length-replicate {A = ℕ} 32 0; right = λ class l. noughts 32 class }

-- a number that is counted up does not come to its end
raised : (each xs : List ℕ) (k v : ℕ) → k < 32 → length xs < 2 ^ 63 → IsCount each xs → v ≡ min (get_or each k 0 + 1) (2 ^ 64 - 1) → v ≡ count_by (nat_eq k) xs + 1
raised each xs k v within few is e =
    let right = is.right k within in
    let most = count_by-le-length (nat_eq k) xs in
    let le : get_or each k 0 + 1 ≤ 2 ^ 64 - 1 = omega (arith, right, most, few) in
    e ∙ min-eq_left le ∙ ap (λ n. n + 1) right

pub one_more : (each xs : List ℕ) (k v : ℕ) → k < 32 → length xs < 2 ^ 63 → IsCount each xs → v ≡ min (get_or each k 0 + 1) (2 ^ 64 - 1) → IsCount (set each k v) (xs ++ k ∷ [])
one_more each xs k v within few is e =
    let here : k < length each = let w = is.whole in omega (arith, w, within) in
    let value = raised each xs k v within few is e in
    record {
      whole = length-set each k v ∙ is.whole;
      right = λ class l.
          let sum = sum_by-append (hit class) xs (k ∷ []) in
          elim (eqb_tells class k) [
            | inl t ↦
                let one : hit class k ≡ 1 = ap (λ b. cond b 1 0) t.0 in
                let get : get_or (set each k v) class 0 ≡ v = ap (λ i. get_or (set each k v) i 0) t.1 ∙ get_or-set_same each k v 0 here in
                let same : count_by (nat_eq class) xs ≡ count_by (nat_eq k) xs = ap (λ i. count_by (nat_eq i) xs) t.1 in
                omega (arith, sum, one, get, value, same)
            | inr t ↦
                let none : hit class k ≡ 0 = ap (λ b. cond b 1 0) t.0 in
                let get : get_or (set each k v) class 0 ≡ count_by (nat_eq class) xs = get_or-set_other each k class v 0 t.1 ∙ is.right class l in
                omega (arith, sum, none, get)
          ];
    }

pub moved : (each xs : List ℕ) (i from to u v : ℕ) → from < 32 → to < 32 → length xs < 2 ^ 63 → slice_get xs i ≡ Some from → IsCount each xs
    → u ≡ min (get_or each to 0 + 1) (2 ^ 64 - 1) → v ≡ get_or (set each to u) from 0 - 1 → IsCount (set (set each to u) from v) (set xs i to)
moved each xs i from to u v f t few g is e d =
    let here : to < length each = let w = is.whole in omega (arith, w, t) in
    let there : from < length (set each to u) = let w = is.whole in let s = length-set each to u in omega (arith, w, s, f) in
    let value = raised each xs to u t few is e in
    record {
      whole = length-set (set each to u) from v ∙ length-set each to u ∙ is.whole;
      right = λ class l.
          let sum = sum_by-set (hit class) xs i to from (slice_get_within xs i from g) in
          let was : hit class (get_or xs i from) ≡ hit class from = ap (hit class) (get_or_from_slice_get xs i from from g) in
          let right = is.right class l in
          elim (eqb_tells class from) [
            | inl p ↦
                let one : hit class from ≡ 1 = ap (λ b. cond b 1 0) p.0 in
                let get : get_or (set (set each to u) from v) class 0 ≡ v = ap (λ j. get_or (set (set each to u) from v) j 0) p.1 ∙ get_or-set_same (set each to u) from v 0 there in
                let less : v ≡ get_or (set each to u) class 0 - 1 = d ∙ ap (λ j. get_or (set each to u) j 0 - 1) (sym p.1) in
                elim (eqb_tells class to) [
                  | inl q ↦
                      let also : hit class to ≡ 1 = ap (λ b. cond b 1 0) q.0 in
                      let mid : get_or (set each to u) class 0 ≡ u = ap (λ j. get_or (set each to u) j 0) q.1 ∙ get_or-set_same each to u 0 here in
                      let same : count_by (nat_eq class) xs ≡ count_by (nat_eq to) xs = ap (λ j. count_by (nat_eq j) xs) q.1 in
                      omega (arith, sum, was, one, get, less, also, mid, value, same)
                  | inr q ↦
                      let none : hit class to ≡ 0 = ap (λ b. cond b 1 0) q.0 in
                      let mid : get_or (set each to u) class 0 ≡ count_by (nat_eq class) xs = get_or-set_other each to class u 0 q.1 ∙ right in
                      omega (arith, sum, was, one, get, less, none, mid)
                ]
            | inr p ↦
                let none : hit class from ≡ 0 = ap (λ b. cond b 1 0) p.0 in
                let get : get_or (set (set each to u) from v) class 0 ≡ get_or (set each to u) class 0 = get_or-set_other (set each to u) from class v 0 p.1 in
                elim (eqb_tells class to) [
                  | inl q ↦
                      let one : hit class to ≡ 1 = ap (λ b. cond b 1 0) q.0 in
                      let mid : get_or (set each to u) class 0 ≡ u = ap (λ j. get_or (set each to u) j 0) q.1 ∙ get_or-set_same each to u 0 here in
                      let same : count_by (nat_eq class) xs ≡ count_by (nat_eq to) xs = ap (λ j. count_by (nat_eq j) xs) q.1 in
                      omega (arith, sum, was, none, get, one, mid, value, same)
                  | inr q ↦
                      let also : hit class to ≡ 0 = ap (λ b. cond b 1 0) q.0 in
                      let mid : get_or (set each to u) class 0 ≡ count_by (nat_eq class) xs = get_or-set_other each to class u 0 q.1 ∙ right in
                      omega (arith, sum, was, none, get, also, mid)
                ]
          ];
    }

-- ---- the classes that are wanted, one after another

-- those that are wanted of the classes below k
abbrev pub below : (ℕ → Bool) → ℕ → ℕ → Bool
below w k x = nat_lt x k && w x

both : (b : Bool) (m n : ℕ) → cond b (m + n) 0 ≡ cond b m 0 + cond b n 0
both true m n = refl
both false m n = refl

one_class : (w : ℕ → Bool) (k x : ℕ) → cond (below w (k + 1) x) 1 0 ≡ cond (below w k x) 1 0 + cond (w k) (hit k x) 0
one_class w k x =
    elim (nat_lt x k) as (λ b. nat_lt x k ≡ b → cond (nat_lt x (k + 1) && w x) 1 0 ≡ cond (b && w x) 1 0 + cond (w k) (hit k x) 0) [
      | true ↦ λ e.
          let l = ltb-true x k e in
          let more : nat_lt x (k + 1) ≡ true = lt-ltb x (k + 1) (omega (arith, l)) in
          elim (eqb_tells k x) [
            | inl t ↦ let same = t.1 in absurd (omega (arith, l, same))
            | inr t ↦ rw (more, t.0) (elim (w k) as (λ c. cond (w x) 1 0 ≡ cond (w x) 1 0 + cond c 0 0) [ true ↦ omega arith | false ↦ omega arith ])
          ]
      | false ↦ λ e.
          let l = ltb-false x k e in
          elim (eqb_tells k x) [
            | inl t ↦
                let same = t.1 in
                let more : nat_lt x (k + 1) ≡ true = lt-ltb x (k + 1) (omega (arith, same)) in
                let as_k : cond (w x) 1 0 ≡ cond (w k) 1 0 = ap (λ j. cond {A = ℕ} (w j) 1 0) (sym same) in
                rw (more, t.0) (omega (arith, as_k))
            | inr t ↦
                let other = t.1 in
                let more : nat_lt x (k + 1) ≡ false = le-ltb x (k + 1) (omega (arith, l, other)) in
                rw (more, t.0) (elim (w k) as (λ c. 0 ≡ 0 + cond c 0 0) [ true ↦ refl | false ↦ refl ])
          ]
    ] refl

pub next_class : (w : ℕ → Bool) (k : ℕ) (xs : List ℕ) → count_by (below w (k + 1)) xs ≡ count_by (below w k) xs + cond (w k) (count_by (nat_eq k) xs) 0
next_class w k [] = elim (w k) as (λ c. 0 ≡ 0 + cond c 0 0) [ true ↦ refl | false ↦ refl ]
next_class w k (x ∷ xs) =
    let one = one_class w k x in
    let rest = next_class w k xs in
    let sum = both (w k) (hit k x) (count_by (nat_eq k) xs) in
    let more = sum_by-cons (λ y. cond (below w (k + 1) y) 1 0) x xs in
    let fewer = sum_by-cons (λ y. cond (below w k y) 1 0) x xs in
    let here : cond (w k) (count_by (nat_eq k) (x ∷ xs)) 0 ≡ cond (w k) (hit k x + count_by (nat_eq k) xs) 0 = ap (λ n. cond (w k) n 0) (sum_by-cons (hit k) x xs) in
    omega (arith, one, rest, sum, more, fewer, here)

pub no_class : (w : ℕ → Bool) (xs : List ℕ) → count_by (below w 0) xs ≡ 0
no_class w [] = refl
no_class w (x ∷ xs) =
    let none : cond (below w 0 x) 1 0 ≡ 0 = ap (λ b. cond {A = ℕ} (b && w x) 1 0) (le-ltb x 0 (omega arith)) in
    let rest = no_class w xs in
    let more = sum_by-cons (λ y. cond (below w 0 y) 1 0) x xs in
    omega (arith, none, rest, more)

pub all_classes : (w : ℕ → Bool) (k : ℕ) (xs : List ℕ) → 32 ≤ k → AllByRecursion IsClass xs → count_by (below w k) xs ≡ count_by w xs
all_classes w k [] l small = refl
all_classes w k (x ∷ xs) l small =
    let s = small.0 in
    let within : nat_lt x k ≡ true = lt-ltb x k (omega (arith, l, s)) in
    let one : cond (below w k x) 1 0 ≡ cond (w x) 1 0 = ap (λ b. cond {A = ℕ} (b && w x) 1 0) within in
    let rest = all_classes w k xs l small.1 in
    let more = sum_by-cons (λ y. cond (below w k y) 1 0) x xs in
    let whole = sum_by-cons (λ y. cond (w y) 1 0) x xs in
    omega (arith, one, rest, more, whole)
