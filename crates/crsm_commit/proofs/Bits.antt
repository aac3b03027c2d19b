-- Masks of votes, one more vote, and how many there are.
use Rattle.std.proofs.Common.{◌≡◌, ℕ, ◌+◌, ◌*◌, ◌/◌, ◌%◌, ◌^◌, ◌<◌, Bool, true, false, cond, refl, sym, ◌∙◌, ap, arith, List, [], ◌∷◌, length, get_or, take, set, max, zero, suc, bit_or, zero-add}
use Rattle.std.specs.Prelude.{◌==◌, ◌&&◌, ◌||◌, map}
use Rattle.std.specs.List.{range_with_len}
use Rattle.std.specs.Simd.Lanes.{mask_l}
use Rattle.std.specs.Int.Bits.{or_step, or_zero_r}
use Rattle.std.proofs.lemmas.Simd.{bit_mask_l}
use Rattle.std.proofs.lemmas.Bool.Decides.{nat_tests}
use Rattle.std.proofs.lemmas.List.FromFn.{get_or-map-range_with_len}
use Rattle.std.proofs.lemmas.List.Sums.{count_by_more_yes, count_by_more_no}
use Rattle.crsm_base.specs.declared.Stamp.{Stamp}
use Rattle.crsm_base.specs.Order.{stamp_eq}
use Rattle.crsm_spec.specs.Lists.{numbers_below}
use Rattle.crsm_spec.specs.Ready.{voted, votes_for}
use Rattle.crsm_commit.specs.Masks.{mask_of}

or_two : (c d m k n : ℕ) → c < 2 → d < 2 → bit_or m k ≡ n → bit_or (c + 2 * m) (d + 2 * k) ≡ max c d + 2 * n
or_two c d m k n hc hd e =
    let a : (c + 2 * m) / 2 ≡ m = omega arith in
    let b : (d + 2 * k) / 2 ≡ k = omega arith in
    let x : (c + 2 * m) % 2 ≡ c = omega arith in
    let y : (d + 2 * k) % 2 ≡ d = omega arith in
    let low : max ((c + 2 * m) % 2) ((d + 2 * k) % 2) ≡ max c d = rw (x, y) refl in
    let high : bit_or ((c + 2 * m) / 2) ((d + 2 * k) / 2) ≡ n = rw (a, b) e in
    omega (arith, or_step (c + 2 * m) (d + 2 * k), low, high)

digit : (b : Bool) → cond b 1 0 < 2
digit true = omega arith
digit false = omega arith

or_one : (b : Bool) → max (cond b 1 0) 1 ≡ 1
or_one true = refl
or_one false = refl

or_none : (b : Bool) → max (cond b 1 0) 0 ≡ cond b 1 0
or_none true = refl
or_none false = refl

-- one more bit
or_bit : (ms : List Bool) (k : ℕ) → k < length ms → bit_or (mask_l ms) (2 ^ k) ≡ mask_l (set ms k true)
or_bit [] k within = absurd (omega arith)
or_bit (b ∷ ms) zero within =
    or_two (cond b 1 0) 1 (mask_l ms) 0 (mask_l ms) (digit b) (omega arith) (or_zero_r (mask_l ms)) ∙ ap (λ n. n + 2 * mask_l ms) (or_one b)
or_bit (b ∷ ms) (suc k) within =
    let e : 2 ^ suc k ≡ 0 + 2 * 2 ^ k = omega arith in
    ap (bit_or (cond b 1 0 + 2 * mask_l ms)) e
    ∙ or_two (cond b 1 0) 0 (mask_l ms) (2 ^ k) (mask_l (set ms k true)) (digit b) (omega arith) (or_bit ms k (omega arith))
    ∙ ap (λ n. n + 2 * mask_l (set ms k true)) (or_none b)

-- ---- of a range of replicas

miss : (c : ℕ) (p : ℕ → Bool) (a n : ℕ) → c < a → map p (range_with_len a n) ≡ map (λ j. (c == j) || p j) (range_with_len a n)
miss c p a zero below = refl
miss c p a (suc n) below =
    let e : (c == a) ≡ false = grind (arith, nat_tests) in
    ap (λ b. (b || p a) ∷ map p (range_with_len (a + 1) n)) (sym e) ∙ ap (λ bs. ((c == a) || p a) ∷ bs) (miss c p (a + 1) n (omega arith))

hit : (p : ℕ → Bool) (a n i c : ℕ) → c ≡ a + i → i < n → set (map p (range_with_len a n)) i true ≡ map (λ j. (c == j) || p j) (range_with_len a n)
hit p a zero i c at within = absurd (omega arith)
hit p a (suc n) zero c at within =
    let e : (c == a) ≡ true = grind (arith, nat_tests) in
    ap (λ b. (b || p a) ∷ map p (range_with_len (a + 1) n)) (sym e) ∙ ap (λ bs. ((c == a) || p a) ∷ bs) (miss c p (a + 1) n (omega arith))
hit p a (suc n) (suc i) c at within =
    let e : (c == a) ≡ false = grind (arith, nat_tests) in
    ap (λ b. (b || p a) ∷ set (map p (range_with_len (a + 1) n)) i true) (sym e)
    ∙ ap (λ bs. ((c == a) || p a) ∷ bs) (hit p (a + 1) n i c (omega arith) (omega arith))

length_map : (p : ℕ → Bool) (a n : ℕ) → length (map p (range_with_len a n)) ≡ n
length_map p a zero = refl
length_map p a (suc n) = ap suc (length_map p (a + 1) n)

pub same_stamp : (s : Stamp) → stamp_eq s s ≡ true
unfolding stamp_eq
same_stamp s = grind (arith, nat_tests)

-- ---- of votes

pub vote_more : (votes : List (Stamp × ℕ)) (s : Stamp) (k : ℕ) → k < 15 → bit_or (mask_of votes s) (2 ^ k) ≡ mask_of ((s, k) ∷ votes) s
unfolding mask_of numbers_below voted
vote_more votes s k within =
    let p : ℕ → Bool = voted votes s in
    or_bit (map p (range_with_len 0 15)) k (omega (arith, length_map p 0 15))
    ∙ ap mask_l (hit p 0 15 k k (sym (zero-add k)) within)
    ∙ ap (λ b. mask_l (map (λ j. (b && (k == j)) || p j) (range_with_len 0 15))) (sym (same_stamp s))

pub vote_other : (votes : List (Stamp × ℕ)) (r s : Stamp) (k : ℕ) → stamp_eq r s ≡ false → mask_of votes s ≡ mask_of ((r, k) ∷ votes) s
unfolding mask_of numbers_below voted
vote_other votes r s k e =
    let p : ℕ → Bool = voted votes s in
    ap (λ b. mask_l (map (λ j. (b && (k == j)) || p j) (range_with_len 0 15))) (sym e)

pub none_voted : (s : Stamp) → mask_of [] s ≡ 0
unfolding mask_of numbers_below voted
none_voted s = refl

-- whether a replica's bit is set
bit_of : (b : Bool) (n : ℕ) → n ≡ cond b 1 0 → (n == 1) ≡ b
bit_of true n e = rw e refl
bit_of false n e = rw e refl

pub has_voted : (votes : List (Stamp × ℕ)) (s : Stamp) (mask k : ℕ) → k < 15 → mask ≡ mask_of votes s → (mask / 2 ^ k % 2 == 1) ≡ voted votes s k
unfolding mask_of numbers_below
has_voted votes s mask k within e =
    bit_of (voted votes s k) (mask / 2 ^ k % 2)
    (ap (λ m. m / 2 ^ k % 2) e ∙ bit_mask_l (map (voted votes s) (range_with_len 0 15)) k
    ∙ ap (λ b. cond b 1 0) (get_or-map-range_with_len (voted votes s) 0 15 k k false within (zero-add k)))

-- one more replica is counted, whose bit is set, or not
pub counted_yes : (votes : List (Stamp × ℕ)) (s : Stamp) (mask index count : ℕ) (replicas : List ℕ) → index < length replicas → get_or replicas index 0 < 15 →
    mask ≡ mask_of votes s → mask / 2 ^ get_or replicas index 0 % 2 ≡ 1 → count ≡ votes_for (take index replicas) votes s →
    count + 1 ≡ votes_for (take (index + 1) replicas) votes s
unfolding votes_for
counted_yes votes s mask index count replicas within small e bit so_far =
    let k : ℕ = get_or replicas index 0 in
    let voted_so : voted votes s k ≡ true = sym (has_voted votes s mask k small e) ∙ ap (λ n. n == 1) bit in
    ap (λ n. n + 1) so_far ∙ sym (count_by_more_yes (voted votes s) replicas index 0 within voted_so)

pub counted_no : (votes : List (Stamp × ℕ)) (s : Stamp) (mask index count : ℕ) (replicas : List ℕ) → index < length replicas → get_or replicas index 0 < 15 →
    mask ≡ mask_of votes s → (mask / 2 ^ get_or replicas index 0 % 2 ≡ 1 → ⊥) → count ≡ votes_for (take index replicas) votes s →
    count ≡ votes_for (take (index + 1) replicas) votes s
unfolding votes_for
counted_no votes s mask index count replicas within small e bit so_far =
    let k : ℕ = get_or replicas index 0 in
    let test : (mask / 2 ^ k % 2 == 1) ≡ false = grind (arith, nat_tests) in
    so_far ∙ sym (count_by_more_no (voted votes s) replicas index 0 within (sym (has_voted votes s mask k small e) ∙ test))
