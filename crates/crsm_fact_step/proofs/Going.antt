-- Changes in sequence, before it is known that their records fit.
use Rattle.std.proofs.Common.{◌≡◌, ℕ, List, [], ◌∷◌, refl, inl, inr, Bool, true, false}
use Rattle.std.specs.Prelude.{IsTrue, Option, Some, None, fold}
use Rattle.std.specs.Option.{option_map_or}
use Rattle.crsm_spec.specs.Choice.{when◌then◌otherwise◌}
use Rattle.crsm_spec.specs.Lists.{Among}
use Rattle.crsm_spec.specs.Replica.{Replica}
use Rattle.crsm_spec.specs.Step.{Input}
use Rattle.crsm_spec.specs.Draft.{Draft}
use Rattle.crsm_fact_step.specs.Changes.{Change}

pub data Goes (r : Replica) (input : Input) (reading : ℕ) (x : Draft) : Draft → Type 0 where
  here : Goes r input reading x x
  on : {y z : Draft} → Goes r input reading x y → Change r input reading y z → Goes r input reading x z

pub both : {r : Replica} {input : Input} {reading : ℕ} {x y z : Draft} → Goes r input reading x y → Goes r input reading y z → Goes r input reading x z
both p here = p
both p (on q c) = on (both p q) c

pub once : {r : Replica} {input : Input} {reading : ℕ} {x y : Draft} → Change r input reading x y → Goes r input reading x y
once c = on here c

-- a test between two
pub either : {r : Replica} {input : Input} {reading : ℕ} {x a b : Draft} (c : Bool) → (IsTrue c → Goes r input reading x a) → (c ≡ false → Goes r input reading x b) →
    Goes r input reading x (when c then a otherwise b)
unfolding when◌then◌otherwise◌
either true f g = f refl
either false f g = g refl

-- a choice by an option
pub of_option : {r : Replica} {input : Input} {reading : ℕ} {A : Type 0} {x : Draft} (f : A → Draft) (y : Draft) (o : Option A) →
    ((a : A) → o ≡ Some a → Goes r input reading x (f a)) → (o ≡ None → Goes r input reading x y) → Goes r input reading x (option_map_or f o y)
of_option f y None h q = q refl
of_option f y (Some a) h q = h a refl

-- Some of each of a list, where what holds before each holds after it.
pub each : {r : Replica} {input : Input} {reading : ℕ} {A : Type 0} (P : Draft → Type 0) (f : Draft → A → Draft) (as' : List A) →
    ((y : Draft) (a : A) → Among as' a → P y → Goes r input reading y (f y a)) → ((y : Draft) (a : A) → P y → P (f y a)) → (x : Draft) → P x → Goes r input reading x (fold f x as')
each P f [] h keeps x p = here
each P f (a ∷ as') h keeps x p = both (h x a (inl refl) p) (each P f as' (λ y b m q. h y b (inr m) q) keeps (f x a) (keeps x a p))
