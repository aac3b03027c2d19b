-- Masks that stand for all votes, one more vote, and a stamp that is not tracked any more.
use Rattle.std.proofs.Common.{◌≡◌, ℕ, ◌^◌, ◌<◌, Bool, true, false, refl, sym, ◌∙◌, ap, arith, List, ◌∷◌, inl, inr, bit_or}
use Rattle.std.specs.Prelude.{◌&&◌, not, if◌then◌else◌}
use Rattle.std.proofs.lemmas.Bool.Decides.{nat_tests}
use Rattle.crsm_base.specs.declared.Stamp.{Stamp}
use Rattle.crsm_base.specs.Order.{stamp_eq}
use Rattle.crsm_commit.specs.Masks.{mask_at, mask_of}
use Rattle.crsm_commit.proofs.Bits.{vote_more, vote_other}
use Rattle.crsm_commit.proofs.Filed.{bool_cases}
use Rattle.crsm_commit.proofs.LeastLemmas.{same_parts}

abbrev AreCounted : (Stamp → Bool) → List (Stamp × ℕ) → List (Stamp × ℕ) → Type 0
AreCounted tracked masks votes = (s : Stamp) → tracked s ≡ true → mask_at masks s ≡ mask_of votes s

equal_times : (a b : Stamp) → stamp_eq a b ≡ true → a.time ≡ b.time
unfolding stamp_eq
equal_times a b e = grind (arith, nat_tests)

equal_origins : (a b : Stamp) → stamp_eq a b ≡ true → a.origin ≡ b.origin
unfolding stamp_eq
equal_origins a b e = grind (arith, nat_tests)

pub equal : (a b : Stamp) → stamp_eq a b ≡ true → a ≡ b
equal a b e = same_parts a b (equal_times a b e) (equal_origins a b e)

-- one more vote
pub counted_more : (tracked : Stamp → Bool) (old new : List (Stamp × ℕ)) (votes : List (Stamp × ℕ)) (stamp : Stamp) (k mask : ℕ) → k < 15 →
    AreCounted tracked old votes → mask ≡ bit_or (mask_at old stamp) (2 ^ k) →
    ((s : Stamp) → mask_at new s ≡ (if stamp_eq stamp s then mask else mask_at old s)) → AreCounted tracked new ((stamp, k) ∷ votes)
counted_more tracked old new votes stamp k mask small counted is changed s t =
    elim (bool_cases (stamp_eq stamp s)) [
      | inl e ↦ changed s ∙ ap (λ b. if b then mask else mask_at old s) e ∙ is
          ∙ ap (λ r. bit_or (mask_at old r) (2 ^ k)) (equal stamp s e) ∙ ap (λ m. bit_or m (2 ^ k)) (counted s t)
          ∙ vote_more votes s k small ∙ ap (λ r. mask_of ((r, k) ∷ votes) s) (sym (equal stamp s e))
      | inr e ↦ changed s ∙ ap (λ b. if b then mask else mask_at old s) e ∙ counted s t ∙ vote_other votes stamp s k e
    ]

-- both tests pass
first_passes : (a b : Bool) → (a && b) ≡ true → a ≡ true
first_passes true b e = refl
first_passes false b e = e

second_fails : (a b : Bool) → (a && not b) ≡ true → b ≡ false
second_fails true true e = sym e
second_fails true false e = refl
second_fails false b e = absurd (cc)

-- a stamp is tracked no more
pub counted_without : (tracked : Stamp → Bool) (old new : List (Stamp × ℕ)) (votes : List (Stamp × ℕ)) (stamp : Stamp) →
    AreCounted tracked old votes → ((s : Stamp) → mask_at new s ≡ (if stamp_eq stamp s then 0 else mask_at old s)) →
    AreCounted (λ s. tracked s && not (stamp_eq stamp s)) new votes
counted_without tracked old new votes stamp counted changed s t =
    changed s ∙ ap (λ b. if b then 0 else mask_at old s) (second_fails (tracked s) (stamp_eq stamp s) t)
    ∙ counted s (first_passes (tracked s) (not (stamp_eq stamp s)) t)

-- the mask of a stamp that is tracked
pub mask_is : (tracked : Stamp → Bool) (masks votes : List (Stamp × ℕ)) (s : Stamp) (mask : ℕ) → AreCounted tracked masks votes →
    tracked s ≡ true → mask ≡ mask_at masks s → mask ≡ mask_of votes s
mask_is tracked masks votes s mask counted t is = is ∙ counted s t
