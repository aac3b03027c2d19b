-- An event inserted into a list in order leaves it in order.
use Rattle.std.proofs.Common.{◌≡◌, List, [], ◌∷◌, ◌++◌, refl, sym, subst, inl, inr}
use Rattle.std.specs.Prelude.{◌⊎◌}
use Rattle.std.specs.List.{AllByRecursion}
use Rattle.crsm_spec.specs.Lists.{Among}
use Rattle.crsm_fact_log.proofs.Lists.{all_more, all_from, all_at, among_left, among_right, among_either}
use Rattle.crsm_spec_plan.specs.Timelines.{Timed, Precedes, InOrder}
use Rattle.crsm_law_timing.proofs.Order.{precedes_then}
use Rattle.crsm_law_pending.specs.Agendas.{IsAhead, IsPut}

-- it is in order with each of the list, and none of them
abbrev pub FitsIn : Timed → List Timed → Type 0
FitsIn f old = (g : Timed) → Among old g → Precedes f g ⊎ Precedes g f

-- who happens before the first happens before all
ahead_of_all : (f : Timed) (gs : List Timed) → InOrder gs → IsAhead f gs → AllByRecursion (Precedes f) gs
ahead_of_all f [] o h = tt
ahead_of_all f (g ∷ gs) o h = (h, all_more (Precedes g) (Precedes f) (λ x p. precedes_then f g x h p) gs o.0)

put_between : (f : Timed) (before after : List Timed) → InOrder (before ++ after) → AllByRecursion (λ g. Precedes f g → ⊥) before → IsAhead f after → FitsIn f (before ++ after) → InOrder (before ++ f ∷ after)
put_between f [] after o none ahead fits = (ahead_of_all f after o ahead, o)
put_between f (g ∷ gs) after o none ahead fits = (all_from (Precedes g) (gs ++ f ∷ after) first, put_between f gs after o.1 none.1 ahead (λ x a. fits x (inr a)))
  where
    it : Precedes g f
    it = elim (fits g (inl refl)) [ inl p ↦ absurd (none.0 p) | inr p ↦ p ]

    first : (x : Timed) → Among (gs ++ f ∷ after) x → Precedes g x
    first x a = elim (among_either gs (f ∷ after) x a) [
      | inl b ↦ all_at (Precedes g) (gs ++ after) x o.0 (among_left gs after x b)
      | inr b ↦ last b
    ]
      where
        last : Among (f ∷ after) x → Precedes g x
        last (inl q) = subst (Precedes g) q it
        last (inr b) = all_at (Precedes g) (gs ++ after) x o.0 (among_right gs after x b)

pub put_in_order : (f : Timed) (old new : List Timed) → IsPut f old new → InOrder old → FitsIn f old → InOrder new
put_in_order f old new put o fits =
    subst InOrder (sym put.new_is) (put_between f put.before put.after (subst InOrder put.old_is o) put.behind put.ahead (λ g a. fits g (subst (λ l. Among l g) (sym put.old_is) a)))

-- who is in the list
pub put_there : (f : Timed) (old new : List Timed) → IsPut f old new → Among new f
put_there f old new put = subst (λ l. Among l f) (sym put.new_is) (among_right put.before (f ∷ put.after) f (inl refl))

pub put_stays : (f : Timed) (old new : List Timed) → IsPut f old new → (g : Timed) → Among old g → Among new g
put_stays f old new put g a = subst (λ l. Among l g) (sym put.new_is) (elim (among_either put.before put.after g (subst (λ l. Among l g) put.old_is a)) [
  | inl b ↦ among_left put.before (f ∷ put.after) g b
  | inr b ↦ among_right put.before (f ∷ put.after) g (inr b)
])

pub put_from : (f : Timed) (old new : List Timed) → IsPut f old new → (g : Timed) → Among new g → Among old g ⊎ (f ≡ g)
put_from f old new put g a = elim (among_either put.before (f ∷ put.after) g (subst (λ l. Among l g) put.new_is a)) [
  | inl b ↦ inl (subst (λ l. Among l g) (sym put.old_is) (among_left put.before put.after g b))
  | inr b ↦ last b
]
  where
    last : Among (f ∷ put.after) g → Among old g ⊎ (f ≡ g)
    last (inl q) = inr q
    last (inr b) = inl (subst (λ l. Among l g) (sym put.old_is) (among_right put.before put.after g b))
