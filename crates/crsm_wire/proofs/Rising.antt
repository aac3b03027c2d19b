-- The test of rising entries.
use Rattle.std.proofs.Common.{◌≡◌, ◌<◌, ◌⊎◌, inl, inr, ℕ, Bool, true, false, ltb, eqb, ◌&&◌, ◌||◌, List, [], ◌∷◌, refl}
use Rattle.std.proofs.lemmas.Bool.{ltb-true, eqb-true}
use Rattle.crsm_base.specs.declared.command.Entry.{Entry}
use Rattle.crsm_base.specs.Order.{stamp_lt, entry_lt}
use Rattle.crsm_base.specs.Spelling.{IsBefore, RisesAfter, Rises}
use Rattle.crsm_base.specs.Reading.{rises_after, is_rising}

pub first : (a b : Bool) → (a && b) ≡ true → a ≡ true
first true b e = refl
first false b e = cc

pub second : (a b : Bool) → (a && b) ≡ true → b ≡ true
second true b e = e
second false b e = cc

either : (a b : Bool) → (a || b) ≡ true → (a ≡ true) ⊎ (b ≡ true)
either true b e = inl refl
either false b e = inr e

before : (a b : Entry) → entry_lt a b ≡ true → IsBefore a b
unfolding entry_lt stamp_lt
before a b e =
    elim (either (ltb a.epoch b.epoch) _ e) [
      | inl h ↦ inl (ltb-true a.epoch b.epoch h)
      | inr h ↦
          elim (either (ltb a.stamp.time b.stamp.time) _ (second (eqb a.epoch b.epoch) _ h)) [
            | inl k ↦ inr (eqb-true a.epoch b.epoch (first _ _ h), inl (ltb-true a.stamp.time b.stamp.time k))
            | inr k ↦
                inr (
                  eqb-true a.epoch b.epoch (first _ _ h),
                  inr (eqb-true a.stamp.time b.stamp.time (first _ _ k), ltb-true a.stamp.origin b.stamp.origin (second _ _ k)),
                )
          ]
    ]

after : (e : Entry) (es : List Entry) → rises_after e es ≡ true → RisesAfter e es
after e [] h = tt
after e (f ∷ fs) h = (before e f (first _ _ h), after f fs (second _ _ h))

pub rise : (es : List Entry) → is_rising es ≡ true → Rises es
unfolding is_rising
rise [] h = tt
rise (e ∷ es) h = after e es h
