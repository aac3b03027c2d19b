-- Ascending stamps, with one more and without one.
use Rattle.std.proofs.Common.{◌≡◌, ℕ, ◌+◌, ◌<◌, Bool, true, false, refl, sym, ◌∙◌, ap, arith, List, [], ◌∷◌, length, get_or, take, drop, zero, suc, ◌⊎◌, inl, inr, subst}
use Rattle.std.specs.Prelude.{insert, remove}
use Rattle.std.specs.List.{AllByRecursion}
use Rattle.std.proofs.lemmas.Bool.Decides.{nat_tests}
use Rattle.std.proofs.lemmas.List.{drop_more}
use Rattle.crsm_base.specs.declared.Stamp.{Stamp}
use Rattle.crsm_base.specs.Order.{stamp_lt, stamp_eq}
use Rattle.crsm_spec.specs.Choice.{when◌then◌otherwise◌}
use Rattle.crsm_spec.specs.Frames.{with_stamp}
use Rattle.crsm_phase.specs.Owed.{IsAscending, without}

-- ---- the order

not_below_trans : (a b c : Stamp) → stamp_lt a b ≡ false → stamp_lt b c ≡ false → stamp_lt a c ≡ false
unfolding stamp_lt
not_below_trans a b c h k = grind (arith, nat_tests)

not_below_from_above : (a b : Stamp) → stamp_lt a b ≡ true → stamp_lt b a ≡ false
unfolding stamp_lt
not_below_from_above a b h = grind (arith, nat_tests)

-- ---- a fact of all stamps

all_at : (P : Stamp → Type 0) (xs : List Stamp) (n : ℕ) (d : Stamp) → AllByRecursion P xs → n < length xs → P (get_or xs n d)
all_at P [] n d all within = absurd (omega arith)
all_at P (x ∷ xs) zero d all within = all.0
all_at P (x ∷ xs) (suc n) d all within = all_at P xs n d all.1 (omega arith)

bool_cases : (b : Bool) → (b ≡ true) ⊎ (b ≡ false)
bool_cases true = inl refl
bool_cases false = inr refl

with_here : (s x : Stamp) (xs : List Stamp) → stamp_lt s x ≡ true → with_stamp s (x ∷ xs) ≡ s ∷ x ∷ xs
unfolding with_stamp when◌then◌otherwise◌
with_here s x xs e = rw e refl

with_there : (s x : Stamp) (xs : List Stamp) → stamp_lt s x ≡ false → with_stamp s (x ∷ xs) ≡ x ∷ with_stamp s xs
unfolding with_stamp when◌then◌otherwise◌
with_there s x xs e = rw e refl

with_none : (s : Stamp) → with_stamp s [] ≡ s ∷ []
unfolding with_stamp
with_none s = refl

all_with : (P : Stamp → Type 0) (s : Stamp) (xs : List Stamp) → P s → AllByRecursion P xs → AllByRecursion P (with_stamp s xs)
all_with P s [] here all = rw with_none (here, tt)
all_with P s (x ∷ xs) here all =
    elim (bool_cases (stamp_lt s x)) [ inl e ↦ rw (with_here s x xs e) (here, all) | inr e ↦ rw (with_there s x xs e) (all.0, all_with P s xs here all.1) ]

none_below : (a b : Stamp) (xs : List Stamp) → stamp_lt b a ≡ false → AllByRecursion (λ t. stamp_lt t b ≡ false) xs → AllByRecursion (λ t. stamp_lt t a ≡ false) xs
none_below a b [] h all = tt
none_below a b (x ∷ xs) h all = (not_below_trans x b a all.0 h, none_below a b xs h all.1)

-- ---- one more stamp

pub ascending_with : (s : Stamp) (xs : List Stamp) → IsAscending xs → IsAscending (with_stamp s xs)
ascending_with s [] up = rw with_none (tt, tt)
ascending_with s (x ∷ xs) up =
    elim (bool_cases (stamp_lt s x)) [
      | inl e ↦ rw (with_here s x xs e) ((not_below_from_above s x e, none_below s x xs (not_below_from_above s x e) up.0), up)
      | inr e ↦ rw (with_there s x xs e) (all_with (λ t. stamp_lt t x ≡ false) s xs e up.0, ascending_with s xs up.1)
    ]

-- the place of a stamp: those before it are not above it, and those behind it are
pub with_at : (s : Stamp) (xs : List Stamp) (n : ℕ) → AllByRecursion (λ t. stamp_lt s t ≡ false) (take n xs) →
    AllByRecursion (λ t. stamp_lt s t ≡ true) (drop n xs) → insert xs n s ≡ with_stamp s xs
with_at s [] zero before behind = sym (with_none s)
with_at s [] (suc n) before behind = sym (with_none s)
with_at s (x ∷ xs) zero before behind = sym (with_here s x xs behind.0)
with_at s (x ∷ xs) (suc n) before behind = ap (λ ys. x ∷ ys) (with_at s xs n before.1 behind) ∙ sym (with_there s x xs before.0)

-- where a stamp is not above s, no earlier one is
pub before_place : (s : Stamp) (xs : List Stamp) (n : ℕ) (d : Stamp) → IsAscending xs → n < length xs → stamp_lt s (get_or xs n d) ≡ false →
    AllByRecursion (λ t. stamp_lt s t ≡ false) (take (suc n) xs)
before_place s [] n d up within h = absurd (omega arith)
before_place s (x ∷ xs) zero d up within h = (h, tt)
before_place s (x ∷ xs) (suc n) d up within h =
    (not_below_trans s (get_or xs n d) x h (all_at (λ t. stamp_lt t x ≡ false) xs n d up.0 (omega arith)), before_place s xs n d up.1 (omega arith) h)

-- no stamp is before the first place
pub nothing_before : (s : Stamp) (xs : List Stamp) (n : ℕ) → n ≡ 0 → AllByRecursion (λ t. stamp_lt s t ≡ false) (take n xs)
nothing_before s xs n e = rw e tt

-- ---- without a stamp

all_without : (P : Stamp → Type 0) (s : Stamp) (xs : List Stamp) → AllByRecursion P xs → AllByRecursion P (without s xs)
all_without P s [] all = tt
all_without P s (x ∷ xs) all =
    elim (bool_cases (stamp_eq x s)) [ inl e ↦ rw e all.1 | inr e ↦ rw e (all.0, all_without P s xs all.1) ]

pub ascending_without : (s : Stamp) (xs : List Stamp) → IsAscending xs → IsAscending (without s xs)
ascending_without s [] up = tt
ascending_without s (x ∷ xs) up =
    elim (bool_cases (stamp_eq x s)) [ inl e ↦ rw e up.1 | inr e ↦ rw e (all_without (λ t. stamp_lt t x ≡ false) s xs up.0, ascending_without s xs up.1) ]

-- the first stamp that is equal to s
pub without_at : (s : Stamp) (xs : List Stamp) (n : ℕ) (d : Stamp) → AllByRecursion (λ t. stamp_eq t s ≡ false) (take n xs) → n < length xs →
    stamp_eq (get_or xs n d) s ≡ true → remove xs n ≡ without s xs
without_at s [] n d before within here = absurd (omega arith)
without_at s (x ∷ xs) zero d before within here = rw here refl
without_at s (x ∷ xs) (suc n) d before within here =
    let e : stamp_eq x s ≡ false = before.0 in rw e (ap (λ ys. x ∷ ys) (without_at s xs n d before.1 (omega arith) here))

pub without_none : (s : Stamp) (xs : List Stamp) → AllByRecursion (λ t. stamp_eq t s ≡ false) xs → without s xs ≡ xs
without_none s [] none = refl
without_none s (x ∷ xs) none = let e : stamp_eq x s ≡ false = none.0 in rw e (ap (λ ys. x ∷ ys) (without_none s xs none.1))

-- ---- steps of a search

pub all_more : (P : Stamp → Type 0) (xs : List Stamp) (n : ℕ) (d : Stamp) → n < length xs → AllByRecursion P (take n xs) → P (get_or xs n d) →
    AllByRecursion P (take (n + 1) xs)
all_more P [] n d within all here = absurd (omega arith)
all_more P (x ∷ xs) zero d within all here = (here, tt)
all_more P (x ∷ xs) (suc n) d within all here =
    let e : suc n + 1 ≡ suc (n + 1) = omega arith in rw e (all.0, all_more P xs n d (omega arith) all.1 here)

pub all_less : (P : Stamp → Type 0) (xs : List Stamp) (n m : ℕ) (d : Stamp) → m ≡ n + 1 → n < length xs → AllByRecursion P (drop m xs) → P (get_or xs n d) →
    AllByRecursion P (drop n xs)
all_less P xs n m d e within all here = rw (drop_more xs n d within) (here, subst (λ k. AllByRecursion P (drop k xs)) e all)
