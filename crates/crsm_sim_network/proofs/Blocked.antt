-- Blocks of lists that change.
use Rattle.std.proofs.Common.{◌≡◌, ◌≢◌, ◌<◌, ◌≤◌, ◌+◌, ◌-◌, ◌*◌, ◌/◌, ◌^◌, ◌⊎◌, ℕ, zero, suc, true, false, List, [], ◌∷◌, ◌++◌, length, set, take, drop, take_all, Some, refl, ap, sym, ◌∙◌, subst, arith, inl, inr, length-append}
use Rattle.std.specs.Prelude.{slice_get, nat_lt}
use native.Mathlib.Numerals.{unary_clauses}
use Rattle.std.proofs.Math.Nat.{mul-le-mul_right, div-mul-le_self, lt-div-mul-add, mul_comm}
use Rattle.std.proofs.Math.Seq.{take-set-lt}
use Rattle.std.proofs.lemmas.Bool.{ltb-true, ltb-false}
use Rattle.std.proofs.lemmas.Bool.Decides.{eqb_tells}
use Rattle.std.proofs.lemmas.List.{length-set, length-drop, drop_all, drop-append-le, take-append-le, take-set-le, drop-set-lt, drop-set-add}
use Rattle.crsm_sim_network.specs.declared.counts.Counts.{Counts}
use Rattle.crsm_sim_network.specs.Tally.{IsCount, AreBlocks, block}

-- ---- places of a list

get_same : {A : Type 0} (xs : List A) (i : ℕ) (x y : A) → slice_get (set xs i x) i ≡ Some y → x ≡ y
get_same [] i x y e = absurd (cc)
get_same (a ∷ xs) zero x y e = cc
get_same (a ∷ xs) (suc i) x y e = get_same xs i x y e

get_other : {A : Type 0} (xs : List A) (i j : ℕ) (x : A) → j ≢ i → slice_get (set xs i x) j ≡ slice_get xs j
get_other [] i j x h = refl
get_other (a ∷ xs) zero zero x h = absurd (h refl)
get_other (a ∷ xs) zero (suc j) x h = refl
get_other (a ∷ xs) (suc i) zero x h = refl
get_other (a ∷ xs) (suc i) (suc j) x h = get_other xs i j x (λ e. h (ap suc e))

get_last : {A : Type 0} (xs : List A) (x : A) (j : ℕ) (y : A) → slice_get (xs ++ x ∷ []) j ≡ Some y → (slice_get xs j ≡ Some y) ⊎ ((j ≡ length xs) × (x ≡ y))
get_last [] x zero y e = let same : x ≡ y = cc in inr (refl, same)
get_last [] x (suc j) y e = absurd (cc)
get_last (a ∷ xs) x zero y e = inl e
get_last (a ∷ xs) x (suc j) y e = elim (get_last xs x j y e) [ inl h ↦ inl h | inr h ↦ inr (ap suc h.0, h.1) ]

get_take : {A : Type 0} (xs : List A) (n i : ℕ) → i < n → slice_get (take n xs) i ≡ slice_get xs i
get_take [] zero i l = refl
get_take [] (suc n) i l = refl
get_take (a ∷ xs) zero i l = absurd (omega arith)
get_take (a ∷ xs) (suc n) zero l = refl
get_take (a ∷ xs) (suc n) (suc i) l = get_take xs n i (omega arith)

get_drop : {A : Type 0} (xs : List A) (n i : ℕ) → slice_get (drop n xs) i ≡ slice_get xs (n + i)
get_drop xs zero i = let z : i ≡ 0 + i = omega arith in ap (slice_get xs) z
get_drop [] (suc n) i = refl
get_drop (a ∷ xs) (suc n) i = let z : suc n + i ≡ suc (n + i) = omega arith in rw z (get_drop xs n i)

-- ---- where blocks begin

pub next_block : (b size : ℕ) → (b + 1) * size ≡ b * size + size
next_block b size = mul_comm (b + 1) size ∙ grow ∙ ap (λ n. n + size) (mul_comm size b)
  where
    grow : size * (b + 1) ≡ size * b + size
    grow = let s : b + 1 ≡ suc b = omega arith in rw s (simp unary_clauses refl)

behind : (size a b : ℕ) → a < b → a * size + size ≤ b * size
behind size a b l = let le : a + 1 ≤ b = omega (arith, l) in let m = mul-le-mul_right size le in let n = next_block a size in omega (arith, m, n)

apart : (size a b : ℕ) → a ≢ b → (a * size + size ≤ b * size) ⊎ (b * size + size ≤ a * size)
apart size a b h =
    elim (nat_lt a b) as (λ c. nat_lt a b ≡ c → (a * size + size ≤ b * size) ⊎ (b * size + size ≤ a * size)) [
      | true ↦ λ e. inl (behind size a b (ltb-true a b e))
      | false ↦ λ e. let l = ltb-false a b e in inr (behind size b a (omega (arith, l, h)))
    ] refl

-- a block has no more elements than the list
pub block_few : (size b : ℕ) (xs : List ℕ) → length xs < 2 ^ 63 → length (block size b xs) < 2 ^ 63
block_few size b xs few = let t = length-take-le size (drop (b * size) xs) in let d = length-drop (b * size) xs in omega (arith, t, d, few)
  where
    length-take-le : {A : Type 0} (n : ℕ) (ys : List A) → length (take n ys) ≤ length ys
    length-take-le zero ys = omega arith
    length-take-le (suc n) [] = omega arith
    length-take-le (suc n) (y ∷ ys) = let l = length-take-le n ys in omega (arith, l)

-- ---- one element more

earlier : (size p : ℕ) (xs : List ℕ) (c : ℕ) → p + size ≤ length xs → take size (drop p (xs ++ c ∷ [])) ≡ take size (drop p xs)
earlier size p xs c l =
    let whole = length-drop p xs in
    ap (take size) (drop-append-le p xs (c ∷ []) (omega (arith, l))) ∙ take-append-le size (drop p xs) (c ∷ []) (omega (arith, l, whole))

later : (size p : ℕ) (xs : List ℕ) (c : ℕ) → length xs < p → take size (drop p (xs ++ c ∷ [])) ≡ take size (drop p xs)
later size p xs c l =
    let more = length-append xs (c ∷ []) in
    ap (take size) (drop_all p (xs ++ c ∷ []) (omega (arith, l, more)) ∙ sym (drop_all p xs (omega (arith, l))))

last : (size p : ℕ) (xs : List ℕ) (c : ℕ) → p ≤ length xs → length xs < p + size → take size (drop p (xs ++ c ∷ [])) ≡ take size (drop p xs) ++ c ∷ []
last size p xs c low high =
    let whole = length-drop p xs in
    let more = length-append (drop p xs) (c ∷ []) in
    ap (take size) (drop-append-le p xs (c ∷ []) low) ∙ take_all size (drop p xs ++ c ∷ []) (omega (arith, whole, more, low, high))
    ∙ ap (λ ys. ys ++ c ∷ []) (sym (take_all size (drop p xs) (omega (arith, whole, low, high))))

-- room for one more block
pub roomed : (size : ℕ) (bs : List Counts) (xs : List ℕ) (new : Counts) → IsCount new.each [] → AreBlocks size bs xs → AreBlocks size (bs ++ new ∷ []) xs
roomed size bs xs new none are = record {
  whole = let w = are.whole in let n = next_block (length bs) size in let l : length (bs ++ new ∷ []) ≡ length bs + 1 = length-append bs (new ∷ []) in subst (λ (k : ℕ). length xs ≤ k * size) (sym l) (omega (arith, w, n));
  counted = λ b counts e. elim (get_last bs new b counts e) [
    | inl h ↦ are.counted b counts h
    | inr h ↦
        let nothing : block size b xs ≡ [] = ap (λ k. take size (drop (k * size) xs)) h.0 ∙ ap (take size) (drop_all (length bs * size) xs are.whole) ∙ take_all size [] (omega arith) in
        subst (λ (ys : List ℕ). IsCount counts.each ys) (sym nothing) (subst (λ (n : Counts). IsCount n.each []) h.1 none)
  ];
}

-- one more element, in the block where the list ends
pub added : (size : ℕ) (bs : List Counts) (xs : List ℕ) (c : ℕ) (old new : Counts) → 0 < size → length xs / size < length bs → slice_get bs (length xs / size) ≡ Some old
    → (IsCount old.each (block size (length xs / size) xs) → IsCount new.each (block size (length xs / size) xs ++ c ∷ []))
    → AreBlocks size bs xs → AreBlocks size (set bs (length xs / size) new) (xs ++ c ∷ [])
added size bs xs c old new some within here more are =
    let at = length xs / size in
    let low = div-mul-le_self (length xs) size in
    let high : length xs < at * size + size = lt-div-mul-add some in
    record {
      whole = let m = behind size at (length bs) within in let l = length-append xs (c ∷ []) in let s = length-set bs at new in
          subst (λ (k : ℕ). length (xs ++ c ∷ []) ≤ k * size) (sym s) (omega (arith, m, l, high));
      counted = λ b counts e. elim (eqb_tells b at) [
        | inl t ↦
            let is : new ≡ counts = get_same bs at new counts (ap (slice_get (set bs at new)) (sym t.1) ∙ e) in
            let grown : block size b (xs ++ c ∷ []) ≡ block size at xs ++ c ∷ [] = ap (λ k. block size k (xs ++ c ∷ [])) t.1 ∙ last size (at * size) xs c low high in
            subst (λ (ys : List ℕ). IsCount counts.each ys) (sym grown) (subst (λ (n : Counts). IsCount n.each (block size at xs ++ c ∷ [])) is (more (are.counted at old here)))
        | inr t ↦
            let same : block size b (xs ++ c ∷ []) ≡ block size b xs = elim (apart size b at t.1) [
              | inl l ↦ earlier size (b * size) xs c (omega (arith, l, low))
              | inr l ↦ later size (b * size) xs c (omega (arith, l, high))
            ] in
            subst (λ (ys : List ℕ). IsCount counts.each ys) (sym same) (are.counted b counts (sym (get_other bs at b new t.1) ∙ e))
      ];
    }

set_last : (bs : List Counts) (old new : Counts) → set (bs ++ old ∷ []) (length bs) new ≡ bs ++ new ∷ []
set_last [] old new = refl
set_last (b ∷ bs) old new = ap (λ cs. b ∷ cs) (set_last bs old new)

get_end : (bs : List Counts) (new : Counts) → slice_get (bs ++ new ∷ []) (length bs) ≡ Some new
get_end [] new = refl
get_end (b ∷ bs) new = get_end bs new

-- one more element, the first of its block
pub begun : (size : ℕ) (bs : List Counts) (xs : List ℕ) (c : ℕ) (none new : Counts) → 0 < size → length bs ≤ length xs / size → length xs < 2 ^ 63
    → IsCount none.each [] → ((ys : List ℕ) → length ys < 2 ^ 63 → IsCount none.each ys → IsCount new.each (ys ++ c ∷ []))
    → AreBlocks size bs xs → AreBlocks size (bs ++ new ∷ []) (xs ++ c ∷ [])
begun size bs xs c none new some past few nothing more are =
    let low = div-mul-le_self (length xs) size in
    let whole = are.whole in
    let end : length xs / size ≡ length bs = ends (length xs / size) (length bs) past (λ l. let n = behind size (length bs) (length xs / size) l in absurd (omega (arith, n, low, whole, some))) in
    let room = roomed size bs xs none nothing are in
    let l : length (bs ++ none ∷ []) ≡ length bs + 1 = length-append bs (none ∷ []) in
    let all = added size (bs ++ none ∷ []) xs c none new some (omega (arith, end, l)) (ap (slice_get (bs ++ none ∷ [])) end ∙ get_end bs none)
    (more (block size (length xs / size) xs) (block_few size (length xs / size) xs few)) room in
    subst (λ (cs : List Counts). AreBlocks size cs (xs ++ c ∷ [])) (ap (λ k. set (bs ++ none ∷ []) k new) end ∙ set_last bs none new) all
  where
    ends : (a b : ℕ) → b ≤ a → (b < a → ⊥) → a ≡ b
    ends a b le not = elim (nat_lt b a) as (λ t. nat_lt b a ≡ t → a ≡ b) [
      | true ↦ λ e. absurd (not (ltb-true b a e))
      | false ↦ λ e. let l = ltb-false b a e in omega (arith, le, l)
    ] refl

-- ---- another element at its place

set_before : (size p : ℕ) (xs : List ℕ) (i c : ℕ) → p + size ≤ i → take size (drop p (set xs i c)) ≡ take size (drop p xs)
set_before size p xs i c l =
    let split : i ≡ p + (i - p) = omega (arith, l) in
    ap (λ j. take size (drop p (set xs j c))) split ∙ ap (take size) (drop-set-add p xs (i - p) c) ∙ take-set-le size (drop p xs) (i - p) c (omega (arith, l))

set_behind : (size p : ℕ) (xs : List ℕ) (i c : ℕ) → i < p → take size (drop p (set xs i c)) ≡ take size (drop p xs)
set_behind size p xs i c l = ap (take size) (drop-set-lt p xs i c l)

set_within : (size p : ℕ) (xs : List ℕ) (i c : ℕ) → p ≤ i → i < p + size → take size (drop p (set xs i c)) ≡ set (take size (drop p xs)) (i - p) c
set_within size p xs i c low high =
    let split : i ≡ p + (i - p) = omega (arith, low) in
    ap (λ j. take size (drop p (set xs j c))) split ∙ ap (take size) (drop-set-add p xs (i - p) c) ∙ take-set-lt size (drop p xs) (i - p) c (omega (arith, low, high))

got_within : (size p : ℕ) (xs : List ℕ) (i c : ℕ) → p ≤ i → i < p + size → slice_get xs i ≡ Some c → slice_get (take size (drop p xs)) (i - p) ≡ Some c
got_within size p xs i c low high e =
    let split : p + (i - p) ≡ i = omega (arith, low) in
    get_take (drop p xs) size (i - p) (omega (arith, low, high)) ∙ get_drop xs p (i - p) ∙ ap (slice_get xs) split ∙ e

pub changed : (size : ℕ) (bs : List Counts) (xs : List ℕ) (i from to : ℕ) (old new : Counts) → 0 < size → slice_get xs i ≡ Some from → slice_get bs (i / size) ≡ Some old
    → ((j : ℕ) → slice_get (block size (i / size) xs) j ≡ Some from → IsCount old.each (block size (i / size) xs) → IsCount new.each (set (block size (i / size) xs) j to))
    → AreBlocks size bs xs → AreBlocks size (set bs (i / size) new) (set xs i to)
changed size bs xs i from to old new some g here moves are =
    let at = i / size in
    let low = div-mul-le_self i size in
    let high : i < at * size + size = lt-div-mul-add some in
    record {
      whole = let l = length-set xs i to in let s = length-set bs at new in subst (λ (k : ℕ). length (set xs i to) ≤ k * size) (sym s) (subst (λ (k : ℕ). k ≤ length bs * size) (sym l) are.whole);
      counted = λ b counts e. elim (eqb_tells b at) [
        | inl t ↦
            let is : new ≡ counts = get_same bs at new counts (ap (slice_get (set bs at new)) (sym t.1) ∙ e) in
            let within : block size b (set xs i to) ≡ set (block size at xs) (i - at * size) to = ap (λ k. block size k (set xs i to)) t.1 ∙ set_within size (at * size) xs i to low high in
            let moved = moves (i - at * size) (got_within size (at * size) xs i from low high g) (are.counted at old here) in
            subst (λ (ys : List ℕ). IsCount counts.each ys) (sym within) (subst (λ (n : Counts). IsCount n.each (set (block size at xs) (i - at * size) to)) is moved)
        | inr t ↦
            let same : block size b (set xs i to) ≡ block size b xs = elim (apart size b at t.1) [
              | inl l ↦ set_before size (b * size) xs i to (omega (arith, l, low))
              | inr l ↦ set_behind size (b * size) xs i to (omega (arith, l, high))
            ] in
            subst (λ (ys : List ℕ). IsCount counts.each ys) (sym same) (are.counted b counts (sym (get_other bs at b new t.1) ∙ e))
      ];
    }

-- each place of the list is in a block that is counted
pub has_block : (size : ℕ) (bs : List Counts) (xs : List ℕ) (i : ℕ) → 0 < size → i < length xs → AreBlocks size bs xs → length bs ≤ i / size → ⊥
has_block size bs xs i some l are past =
    let m = mul-le-mul_right size past in
    let low = div-mul-le_self i size in
    let w = are.whole in
    absurd (omega (arith, m, low, w, l))
