-- The requests that are due in one more turn.
use Rattle.std.proofs.Common.{◌≡◌, ◌∙◌, ℕ, zero, suc, ◌+◌, ◌*◌, ◌%◌, ◌/◌, ◌<◌, ◌≤◌, refl, sym, ap, inl, inr, arith, suc-mul, mul-le-mul_right, div-add-mod', eq-zero-or-pos, eq-or-lt_of_le}
use Rattle.std.proofs.lemmas.Bool.Decides.{nat_tests}
use Rattle.std.proofs.lemmas.Nat.{mod-mul-add}
use Rattle.crsm_client.specs.Asking.{IsPaced}
use Rattle.crsm_client.specs.Turns.{due}

pub none_paced : (resend : ℕ) → IsPaced resend 0 0
none_paced resend = λ k. (λ h. absurd (omega arith), λ h. absurd (omega arith))

-- the same numbers
pub paced_at : (resend a b m n : ℕ) → a ≡ b → m ≡ n → IsPaced resend a m → IsPaced resend b n
paced_at resend a b m n e f paced = rw (← e, ← f) paced

-- a number that is below none of these
at_most : (n q product turn : ℕ) → product ≡ turn → (q < n → product < turn) → n ≤ q
at_most n q product turn is below = grind arith

-- in a turn that is a multiple one more is due
one_more : (resend turn n : ℕ) → 0 < resend → IsPaced resend turn n → turn % resend ≡ 0 → IsPaced resend (turn + 1) (n + 1)
one_more resend turn n some paced multiple = λ k. (sent k, due_by k)
  where
    quotient : turn / resend * resend ≡ turn
    quotient = omega (arith, div-add-mod' turn resend, multiple)

    few : n ≤ turn / resend
    few = at_most n (turn / resend) (turn / resend * resend) turn quotient (paced (turn / resend)).0

    sent : (k : ℕ) → k < n + 1 → k * resend < turn + 1
    sent k h = let le : k ≤ turn / resend = omega (arith, few) in omega (arith, mul-le-mul_right resend le, quotient)

    due_by : (k : ℕ) → k * resend < turn + 1 → k < n + 1
    due_by zero h = omega arith
    due_by (suc j) h = let next = suc-mul j resend in let before : j < n = (paced j).1 (omega (arith, next)) in omega (arith, before)

-- in another turn none is due
none_more : (resend turn n : ℕ) → 0 < resend → IsPaced resend turn n → 0 < turn % resend → IsPaced resend (turn + 1) (n + 0)
none_more resend turn n some paced other = λ k. (sent k, due_by k)
  where
    sent : (k : ℕ) → k < n + 0 → k * resend < turn + 1
    sent k h = let before : k * resend < turn = (paced k).0 (omega arith) in omega (arith, before)

    not_now : (k : ℕ) → k * resend ≡ turn → ⊥
    not_now k is =
        let zero_left : (k * resend + 0) % resend ≡ 0 = mod-mul-add k resend 0 some in
        let same : k * resend + 0 ≡ turn = omega (arith, is) in
        omega (arith, other, sym (ap (λ (t : ℕ). t % resend) same) ∙ zero_left)

    le : (k : ℕ) → k * resend < turn + 1 → k * resend ≤ turn
    le k h = omega arith

    due_by : (k : ℕ) → k * resend < turn + 1 → k < n + 0
    due_by k h = elim (eq-or-lt_of_le (le k h)) [
      | inl is ↦ absurd (not_now k is)
      | inr less ↦ let before : k < n = (paced k).1 less in omega (arith, before)
    ]

due_now : (resend turn : ℕ) → turn % resend ≡ 0 → due resend turn ≡ 1
due_now resend turn is = grind (arith, nat_tests)

due_later : (resend turn : ℕ) → 0 < turn % resend → due resend turn ≡ 0
due_later resend turn some = grind (arith, nat_tests)

pub one_paced : (resend turn n : ℕ) → 0 < resend → IsPaced resend turn n → IsPaced resend (turn + 1) (n + due resend turn)
one_paced resend turn n some paced =
    elim (eq-zero-or-pos (turn % resend)) [
      | inl is ↦ paced_at resend (turn + 1) (turn + 1) (n + 1) (n + due resend turn) refl (ap (λ (d : ℕ). n + d) (sym (due_now resend turn is))) (one_more resend turn n some paced is)
      | inr other ↦ paced_at resend (turn + 1) (turn + 1) (n + 0) (n + due resend turn) refl (ap (λ (d : ℕ). n + d) (sym (due_later resend turn other))) (none_more resend turn n some paced other)
    ]
