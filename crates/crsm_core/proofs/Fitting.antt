-- Rules whose records fit, and rules that are ignored.
use Rattle.std.proofs.Common.{◌≡◌, ◌∙◌, ℕ, ◌<◌, ◌≤◌, refl, ap, sym, subst, Bool, true, false, arith}
use Rattle.std.specs.Prelude.{◌≢◌, ◌==◌, nat_lt, nat_le}
use Rattle.std.proofs.lemmas.Bool.Decides.{nat_tests}
use Rattle.crsm_spec.specs.Choice.{when◌then◌otherwise◌}
use Rattle.crsm_spec.specs.Draft.{Draft}
use Rattle.crsm_spec.specs.Step.{if_fitting}
use Rattle.crsm_replica.specs.declared.state.ReplicaState.{ReplicaState}
use Rattle.crsm_replica.specs.Sound.{IsSound}
use Rattle.crsm_replica.specs.Replica.{ReplicaStands}

pub if_fits : (x y : Draft) → y.fitting ≡ true → if_fitting x y ≡ y
unfolding if_fitting when◌then◌otherwise◌
if_fits x y h = rw h refl

pub if_not : (x y : Draft) → y.fitting ≡ false → if_fitting x y ≡ x
unfolding if_fitting when◌then◌otherwise◌
if_not x y h = rw h refl

pub if_same : (x : Draft) → if_fitting x x ≡ x
unfolding if_fitting when◌then◌otherwise◌
if_same x = go x.fitting
  where
    go : (b : Bool) → (when b then x otherwise x) ≡ x
    go true = refl
    go false = refl

-- it stands for the other one as well
pub stands_as : (state : ReplicaState) (x y : Draft) → x ≡ y → ReplicaStands state x → ReplicaStands state y
stands_as state x y e s = subst (λ z. ReplicaStands state z) e s

-- what fits is done
pub done : (state : ReplicaState) (x y z : Draft) → z ≡ y → z.fitting ≡ true → ReplicaStands state z → ReplicaStands state (if_fitting x y)
done state x y z e f s = stands_as state z (if_fitting x y) (e ∙ sym (if_fits x y (ap (λ (d : Draft). d.fitting) (sym e) ∙ f))) s

-- what keeps no record is done, for what a state stands for is sound
pub kept : (state : ReplicaState) (x y z : Draft) → ((d : ReplicaState) (w : Draft) → ReplicaStands d w → IsSound w) → z ≡ y → ReplicaStands state z → ReplicaStands state (if_fitting x y)
kept state x y z law e s = done state x y z e (law state z s).fitting s

-- what does nothing leaves all as it was
pub left : (state : ReplicaState) (x y : Draft) → x ≡ y → ReplicaStands state x → ReplicaStands state (if_fitting x y)
left state x y e s = stands_as state x (if_fitting x y) (sym (if_same x) ∙ ap (λ z. if_fitting x z) e) s

-- what does not fit leaves all as it was
pub ignored : (state : ReplicaState) (x y : Draft) → y.fitting ≡ false → ReplicaStands state x → ReplicaStands state (if_fitting x y)
ignored state x y f s = stands_as state x (if_fitting x y) (sym (if_not x y f)) s

-- ---- tests

pub is_lt : (a b : ℕ) → a < b → nat_lt a b ≡ true
is_lt a b h = grind (arith, nat_tests)

pub not_lt : (a b : ℕ) → b ≤ a → nat_lt a b ≡ false
not_lt a b h = grind (arith, nat_tests)

pub is_le : (a b : ℕ) → a ≤ b → nat_le a b ≡ true
is_le a b h = grind (arith, nat_tests)

pub not_le : (a b : ℕ) → b < a → nat_le a b ≡ false
not_le a b h = grind (arith, nat_tests)

pub is_eq : (a b : ℕ) → a ≡ b → (a == b) ≡ true
is_eq a b h = grind (arith, nat_tests)

pub not_eq : (a b : ℕ) → a ≢ b → (a == b) ≡ false
not_eq a b h = grind (arith, nat_tests)
