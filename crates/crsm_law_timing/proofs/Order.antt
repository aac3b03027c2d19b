-- The order of a timeline.
use Rattle.std.proofs.Common.{ℕ, ◌≤◌, List, [], ◌∷◌, ◌++◌, refl, sym, ◌∙◌, subst, inl, inr, arith}
use Rattle.crsm_spec.specs.Types.{Command}
use Rattle.crsm_spec.specs.Lists.{Among}
use Rattle.crsm_spec.specs.Acts.{Single}
use Rattle.crsm_fact_log.proofs.Lists.{all_at, all-push, among_either}
use Rattle.crsm_spec_plan.specs.Timelines.{Timed, IsBefore, Precedes, InOrder}

before_not : (a b : Single) → IsBefore a b → IsBefore b a → ⊥
before_not (Single.Request k t c) (Single.Request j u d) p q = p
before_not (Single.Request k t c) (Single.Tick j u) p q = q
before_not (Single.Request k t c) (Single.Go i u) p q = q
before_not (Single.Request k t c) (Single.Again i u) p q = p
before_not (Single.Request k t c) (Single.Suspect j u ms) p q = p
before_not (Single.Request k t c) (Single.Junk j u bs) p q = p
before_not (Single.Tick k t) (Single.Request j u d) p q = p
before_not (Single.Tick k t) (Single.Tick j u) p q = absurd (omega (arith, p, q))
before_not (Single.Tick k t) (Single.Go i u) p q = q
before_not (Single.Tick k t) (Single.Again i u) p q = p
before_not (Single.Tick k t) (Single.Suspect j u ms) p q = p
before_not (Single.Tick k t) (Single.Junk j u bs) p q = p
before_not (Single.Go i t) (Single.Request j u d) p q = p
before_not (Single.Go i t) (Single.Tick j u) p q = p
before_not (Single.Go i t) (Single.Go j u) p q = absurd (omega (arith, p, q))
before_not (Single.Go i t) (Single.Again j u) p q = p
before_not (Single.Go i t) (Single.Suspect j u ms) p q = p
before_not (Single.Go i t) (Single.Junk j u bs) p q = p
before_not (Single.Again i t) b p q = p
before_not (Single.Suspect k t ms) b p q = p
before_not (Single.Junk k t bs) b p q = p

pub asymmetric : (e f : Timed) → Precedes e f → Precedes f e → ⊥
asymmetric e f (inl p) (inl q) = absurd (omega (arith, p, q))
asymmetric e f (inl p) (inr q) = let s = q.0 in absurd (omega (arith, p, s))
asymmetric e f (inr p) (inl q) = let s = p.0 in absurd (omega (arith, q, s))
asymmetric e f (inr p) (inr q) = before_not e.does f.does p.1 q.1

pub not_itself : (e : Timed) → Precedes e e → ⊥
not_itself e p = asymmetric e e p p

pub no_later : (e f : Timed) → Precedes e f → e.moment ≤ f.moment
no_later e f (inl p) = omega (arith, p)
no_later e f (inr p) = let s = p.0 in omega (arith, s)

module _ (e : Timed) (after : List Timed) where
  -- what precedes it in the list happens before it
  pub comes_before : (before : List Timed) → InOrder (before ++ e ∷ after) → (f : Timed) → Among before f → Precedes f e
  comes_before [] o f a = absurd a
  comes_before (g ∷ gs) o f (inl q) = subst (λ h. Precedes h e) q (all_at (Precedes g) (gs ++ e ∷ after) e o.0 (here gs))
    where
      here : (gs : List Timed) → Among (gs ++ e ∷ after) e
      here [] = inl refl
      here (g ∷ gs) = inr (here gs)
  comes_before (g ∷ gs) o f (inr a) = comes_before gs o.1 f a

  after_it : (before : List Timed) → InOrder (before ++ e ∷ after) → (f : Timed) → Among after f → Precedes e f
  after_it [] o f a = all_at (Precedes e) after f o.0 a
  after_it (g ∷ gs) o f a = after_it gs o.1 f a

  -- what happens before it precedes it in the list
  pub earlier : (before : List Timed) → InOrder (before ++ e ∷ after) → (f : Timed) → Among (before ++ e ∷ after) f → Precedes f e → Among before f
  earlier before o f a p = elim (among_either before (e ∷ after) f a) [
    | inl b ↦ b
    | inr b ↦ absurd (go b)
  ]
    where
      go : Among (e ∷ after) f → ⊥
      go (inl q) = not_itself e (subst (λ h. Precedes h e) (sym q) p)
      go (inr b) = asymmetric e f (after_it before o f b) p

-- ---- one after another

-- the kinds of events of a timeline
data Kind : Single → Type 0 where
  IsRequest : (k t : ℕ) (c : Command) → Kind (Single.Request k t c)
  IsTick : (k t : ℕ) → Kind (Single.Tick k t)
  IsGo : (i t : ℕ) → Kind (Single.Go i t)

kinds_of : (a b : Single) → IsBefore a b → Kind a × Kind b
kinds_of (Single.Request k t c) (Single.Request k' t' c') p = absurd p
kinds_of (Single.Request k t c) (Single.Tick k' t') p = (Kind.IsRequest k t c, Kind.IsTick k' t')
kinds_of (Single.Request k t c) (Single.Go i' t') p = (Kind.IsRequest k t c, Kind.IsGo i' t')
kinds_of (Single.Request k t c) (Single.Again i' t') p = absurd p
kinds_of (Single.Request k t c) (Single.Suspect k' t' ms') p = absurd p
kinds_of (Single.Request k t c) (Single.Junk k' t' bs') p = absurd p
kinds_of (Single.Tick k t) (Single.Request k' t' c') p = absurd p
kinds_of (Single.Tick k t) (Single.Tick k' t') p = (Kind.IsTick k t, Kind.IsTick k' t')
kinds_of (Single.Tick k t) (Single.Go i' t') p = (Kind.IsTick k t, Kind.IsGo i' t')
kinds_of (Single.Tick k t) (Single.Again i' t') p = absurd p
kinds_of (Single.Tick k t) (Single.Suspect k' t' ms') p = absurd p
kinds_of (Single.Tick k t) (Single.Junk k' t' bs') p = absurd p
kinds_of (Single.Go i t) (Single.Request k' t' c') p = absurd p
kinds_of (Single.Go i t) (Single.Tick k' t') p = absurd p
kinds_of (Single.Go i t) (Single.Go i' t') p = (Kind.IsGo i t, Kind.IsGo i' t')
kinds_of (Single.Go i t) (Single.Again i' t') p = absurd p
kinds_of (Single.Go i t) (Single.Suspect k' t' ms') p = absurd p
kinds_of (Single.Go i t) (Single.Junk k' t' bs') p = absurd p
kinds_of (Single.Again i t) b p = absurd p
kinds_of (Single.Suspect k t ms) b p = absurd p
kinds_of (Single.Junk k t bs) b p = absurd p

before_then : {a b c : Single} → Kind a → Kind b → Kind c → IsBefore a b → IsBefore b c → IsBefore a c
before_then (Kind.IsRequest k t c) (Kind.IsRequest k' t' c') z p r = absurd p
before_then (Kind.IsRequest k t c) (Kind.IsTick k' t') (Kind.IsRequest k'' t'' c'') p r = absurd r
before_then (Kind.IsRequest k t c) (Kind.IsTick k' t') (Kind.IsTick k'' t'') p r = tt
before_then (Kind.IsRequest k t c) (Kind.IsTick k' t') (Kind.IsGo i'' t'') p r = tt
before_then (Kind.IsRequest k t c) (Kind.IsGo i' t') (Kind.IsRequest k'' t'' c'') p r = absurd r
before_then (Kind.IsRequest k t c) (Kind.IsGo i' t') (Kind.IsTick k'' t'') p r = absurd r
before_then (Kind.IsRequest k t c) (Kind.IsGo i' t') (Kind.IsGo i'' t'') p r = tt
before_then (Kind.IsTick k t) (Kind.IsRequest k' t' c') z p r = absurd p
before_then (Kind.IsTick k t) (Kind.IsTick k' t') (Kind.IsRequest k'' t'' c'') p r = absurd r
before_then (Kind.IsTick k t) (Kind.IsTick k' t') (Kind.IsTick k'' t'') p r = omega (arith, p, r)
before_then (Kind.IsTick k t) (Kind.IsTick k' t') (Kind.IsGo i'' t'') p r = tt
before_then (Kind.IsTick k t) (Kind.IsGo i' t') (Kind.IsRequest k'' t'' c'') p r = absurd r
before_then (Kind.IsTick k t) (Kind.IsGo i' t') (Kind.IsTick k'' t'') p r = absurd r
before_then (Kind.IsTick k t) (Kind.IsGo i' t') (Kind.IsGo i'' t'') p r = tt
before_then (Kind.IsGo i t) (Kind.IsRequest k' t' c') z p r = absurd p
before_then (Kind.IsGo i t) (Kind.IsTick k' t') z p r = absurd p
before_then (Kind.IsGo i t) (Kind.IsGo i' t') (Kind.IsRequest k'' t'' c'') p r = absurd r
before_then (Kind.IsGo i t) (Kind.IsGo i' t') (Kind.IsTick k'' t'') p r = absurd r
before_then (Kind.IsGo i t) (Kind.IsGo i' t') (Kind.IsGo i'' t'') p r = omega (arith, p, r)

pub precedes_then : (e f g : Timed) → Precedes e f → Precedes f g → Precedes e g
precedes_then e f g (inl p) (inl q) = inl (omega (arith, p, q))
precedes_then e f g (inl p) (inr q) = let s = q.0 in inl (omega (arith, p, s))
precedes_then e f g (inr p) (inl q) = let s = p.0 in inl (omega (arith, q, s))
precedes_then e f g (inr p) (inr q) =
    let a = kinds_of e.does f.does p.1 in
    let b = kinds_of f.does g.does q.1 in
    inr (p.0 ∙ q.0, before_then a.0 a.1 b.1 p.1 q.1)

-- a list with one behind all of it
pub in_order_more : (es : List Timed) (e : Timed) → InOrder es → ((f : Timed) → Among es f → Precedes f e) → InOrder (es ++ e ∷ [])
in_order_more [] e o h = (tt, tt)
in_order_more (f ∷ fs) e o h = (all-push (Precedes f) fs e o.0 (h f (inl refl)), in_order_more fs e o.1 (λ g a. h g (inr a)))
