-- The moments of a plan in its own terms.
use Rattle.std.proofs.Common.{◌≡◌, ℕ, ◌+◌, ◌<◌, ◌≤◌, List, [], ◌∷◌, refl, sym, ◌∙◌, ap, inl, inr, arith, map, max}
use Rattle.std.proofs.lemmas.Bool.{cases_eq}
use Rattle.crsm_spec.specs.Lists.{Among, greatest}
use Rattle.crsm_law_epoch.proofs.Words.{among_map}
use Rattle.crsm_spec_plan.specs.declared.Plan.{Plan}
use Rattle.crsm_spec_plan.specs.Plans.{arrival, commit_at, delay_of, ok_at, others, reading, stamped}
use Rattle.crsm_law_timing.specs.Moments.{MomentsAreSo}
use Rattle.crsm_law_timing.proofs.Letters.{at_ok, other_is, is_other, no_less}

more_than : (x : ℕ) (xs : List ℕ) → greatest (x ∷ xs) ≡ max x (greatest xs)
unfolding greatest
more_than x xs = refl

no_others : (plan : Plan) (ks : List ℕ) → ((k : ℕ) → Among ks k → ⊥) → ks ≡ []
no_others plan [] h = refl
no_others plan (k ∷ ks) h = absurd (h k (inl refl))

alone : (plan : Plan) (i : ℕ) → plan.n ≡ 1 → plan.origin < plan.n → commit_at plan i ≡ plan.at
unfolding commit_at greatest
alone plan i one lt =
    let none = no_others plan (others plan) (λ k a. let o = is_other plan k a in let l = o.0 in o.1 (omega (arith, one, lt, l))) in
    let e = ap (λ ks. greatest (plan.at ∷ map (λ k. ok_at plan k + delay_of plan k i) ks)) none in
    e ∙ omega arith

-- there is another replica
another : (plan : Plan) → 2 ≤ plan.n → (k : ℕ) × Among (others plan) k
another plan two = elim (cases_eq plan.origin 0) [
  | inl e ↦ (1, other_is plan 1 (omega (arith, two)) (λ q. absurd (omega (arith, q, e))))
  | inr ne ↦ (0, other_is plan 0 (omega (arith, two)) (λ q. ne (sym q)))
]

last : (plan : Plan) (i : ℕ) → 2 ≤ plan.n → commit_at plan i ≡ greatest (map (λ k. ok_at plan k + delay_of plan k i) (others plan))
unfolding commit_at
last plan i two =
    let k = another plan two in
    let acks = map (λ k. ok_at plan k + delay_of plan k i) (others plan) in
    let a = no_less acks (ok_at plan k.0 + delay_of plan k.0 i) (among_map (λ k. ok_at plan k + delay_of plan k i) (others plan) k.0 k.1) in
    let b = at_ok plan k.0 in
    let m = more_than plan.at acks in
    omega (arith, a, b, m)

at_once : (plan : Plan) (k : ℕ) → stamped plan < reading plan k (arrival plan k) → ok_at plan k ≡ arrival plan k
unfolding reading ok_at
at_once plan k lt = omega (arith, lt)

waits : (plan : Plan) (k : ℕ) → reading plan k (arrival plan k) ≤ stamped plan → reading plan k (ok_at plan k) ≡ stamped plan + 1
unfolding reading ok_at
waits plan k le = omega (arith, le)

pub moments_are_so : MomentsAreSo
moments_are_so = record { alone = alone; last = last; at_once = at_once; waits = waits }
