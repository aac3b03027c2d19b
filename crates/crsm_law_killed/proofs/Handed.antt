-- Calls that are handed on, one after another, until the first that is refused.
use Rattle.std.proofs.Common.{ℕ, suc, ◌≡◌, ◌≤◌, ◌-◌, ◌<◌, arith, subst}
use Rattle.std.proofs.Math.Logic.{∥∥₁_map}
use Rattle.crsm_law_killed.specs.Handed.{FewMake, IsBelow, IsMadeOf}

-- one more call is made, and one fewer is left
pub one_more : {T : Type 0} {call : T → T → Type 0} {is_first : T → Type 0} {calls left fewer refused still : ℕ} {old new : T} →
    ∥ IsBelow call is_first calls left refused old ∥₁ → 0 < left → fewer ≡ left - 1 → still ≤ refused → call old new → ∥ IsBelow call is_first calls fewer still new ∥₁
one_more {old = old} below some counts same made =
    ∥∥₁_map below (λ b. record {
      first = b.first;
      began = b.began;
      made = suc b.made;
      sum = let sum = b.sum in omega arith;
      none_left = λ any. let none = b.none_left (omega arith) in omega arith;
      make = (old, b.make, made);
    })

-- where none is left any may be refused
pub refuse : {T : Type 0} {call : T → T → Type 0} {is_first : T → Type 0} {calls left fewer refused more : ℕ} {value : T} →
    ∥ IsBelow call is_first calls left refused value ∥₁ → left ≡ 0 → fewer ≡ left - 1 → ∥ IsBelow call is_first calls fewer more value ∥₁
refuse below none counts =
    ∥∥₁_map below (λ b. record {
      first = b.first;
      began = b.began;
      made = b.made;
      sum = let sum = b.sum in omega arith;
      none_left = λ _. omega arith;
      make = b.make;
    })

-- those that were made are at most all
pub made_of : {T : Type 0} {call : T → T → Type 0} {is_first : T → Type 0} {calls left refused : ℕ} {value : T} →
    ∥ IsBelow call is_first calls left refused value ∥₁ → ∥ IsMadeOf call is_first calls refused value ∥₁
made_of below =
    ∥∥₁_map below (λ b. let sum = b.sum in
    (b.first, b.began, record { made = b.made; few = omega arith; all = λ any. let none = b.none_left any in omega arith; make = b.make }))

-- what calls made of the only value that was first
pub made_of_this : {T : Type 0} {call : T → T → Type 0} {calls refused : ℕ} {old new : T} →
    ∥ IsMadeOf call (λ (first : T). first ≡ old) calls refused new ∥₁ → ∥ FewMake call calls refused old new ∥₁
made_of_this {T = T} {call = call} {calls = calls} {refused = refused} {new = new} made =
    ∥∥₁_map made (λ m. subst (λ (first : T). FewMake call calls refused first new) m.1 m.2)
