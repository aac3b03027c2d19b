-- The first pages of replicas, and the greatest executed length among them.
use Rattle.std.proofs.Common.{◌≡◌, ℕ, ◌<◌, ◌≤◌, Bool, true, false, refl, sym, ◌∙◌, subst, ap, ◌⊎◌, inl, inr, arith, List, [], ◌∷◌, cond, map}
use Rattle.std.proofs.lemmas.Bool.{eqb-true, eqb-false, cases_lt}
use Rattle.std.proofs.lemmas.Option.{same_Some, none-some}
use Rattle.std.specs.Prelude.{◌==◌, Option, Some, None, find, max}
use Rattle.std.specs.Option.{option_map_or}
use Rattle.crsm_spec.specs.Lists.{Among, first_of, greatest}
use Rattle.crsm_spec.specs.Replica.{LogPage}
use Rattle.crsm_spec.specs.Collect.{pages_of, first_pages}

pub firsts_from : (pages : List LogPage) (ks : List ℕ) (p : LogPage) → Among (first_pages ks pages) p → (k : ℕ) × Among ks k × (first_of (pages_of pages k) ≡ Some p)
unfolding first_pages
firsts_from pages [] p m = absurd m
firsts_from pages (k ∷ ks) p m = go (first_of (pages_of pages k)) refl m (firsts_from pages ks p)
  where
    go : (o : Option LogPage) → first_of (pages_of pages k) ≡ o → Among (option_map_or (λ p. p ∷ first_pages ks pages) o (first_pages ks pages)) p → (Among (first_pages ks pages) p → (j : ℕ) × Among ks j × (first_of (pages_of pages j) ≡ Some p)) →
        (j : ℕ) × Among (k ∷ ks) j × (first_of (pages_of pages j) ≡ Some p)
    go None e n r = let s = r n in (s.0, inr s.1, s.2)
    go (Some q) e (inl f) r = (k, inl refl, e ∙ ap Some f)
    go (Some q) e (inr n) r = let s = r n in (s.0, inr s.1, s.2)

pub firsts_in : (pages : List LogPage) (ks : List ℕ) (k : ℕ) (p : LogPage) → Among ks k → first_of (pages_of pages k) ≡ Some p → Among (first_pages ks pages) p
unfolding first_pages
firsts_in pages [] k p m e = absurd m
firsts_in pages (j ∷ ks) k p (inl f) e = subst (λ o. Among (option_map_or (λ p. p ∷ first_pages ks pages) o (first_pages ks pages)) p) (sym (ap (λ i. first_of (pages_of pages i)) f ∙ e)) (inl refl)
firsts_in pages (j ∷ ks) k p (inr m) e = go (first_of (pages_of pages j)) (firsts_in pages ks k p m e)
  where
    go : (o : Option LogPage) → Among (first_pages ks pages) p → Among (option_map_or (λ p. p ∷ first_pages ks pages) o (first_pages ks pages)) p
    go None n = n
    go (Some q) n = inr n

-- the greatest of the executed lengths
pub top_high : (ps : List LogPage) (p : LogPage) → Among ps p → p.executed ≤ greatest (map (λ q. q.executed) ps)
unfolding greatest
top_high [] p m = absurd m
top_high (q ∷ ps) p (inl e) = let l : q.executed ≡ p.executed = ap (λ (w : LogPage). w.executed) e in omega arith
top_high (q ∷ ps) p (inr m) = let l = top_high ps p m in omega arith

pub top_from : (ps : List LogPage) → (greatest (map (λ q. q.executed) ps) ≡ 0) ⊎ ((p : LogPage) × Among ps p × (p.executed ≡ greatest (map (λ q. q.executed) ps)))
unfolding greatest
top_from [] = inl refl
top_from (q ∷ ps) = go (cases_lt q.executed (greatest (map (λ q. q.executed) ps))) (top_from ps)
  where
    go : (q.executed < greatest (map (λ q. q.executed) ps)) ⊎ (greatest (map (λ q. q.executed) ps) ≤ q.executed) → (greatest (map (λ q. q.executed) ps) ≡ 0) ⊎ ((p : LogPage) × Among ps p × (p.executed ≡ greatest (map (λ q. q.executed) ps))) →
        (max q.executed (greatest (map (λ q. q.executed) ps)) ≡ 0) ⊎ ((p : LogPage) × Among (q ∷ ps) p × (p.executed ≡ max q.executed (greatest (map (λ q. q.executed) ps))))
    go (inl l) (inl z) = absurd (omega (arith, z))
    go (inl l) (inr r) = inr (r.0, inr r.1, omega (arith, r.2))
    go (inr l) r = inr (q, inl refl, omega arith)

pub found_from : (base : ℕ) (ps : List LogPage) (p : LogPage) → find (λ q. q.executed == base) ps ≡ Some p → Among ps p × (p.executed ≡ base)
found_from base [] p e = absurd (none-some p e)
found_from base (q ∷ ps) p e = go (q.executed == base) refl e (found_from base ps p)
  where
    go : (b : Bool) → (q.executed == base) ≡ b → cond b (Some q) (find (λ q. q.executed == base) ps) ≡ Some p → (find (λ q. q.executed == base) ps ≡ Some p → Among ps p × (p.executed ≡ base)) → Among (q ∷ ps) p × (p.executed ≡ base)
    go true t f r = let g = same_Some q p f in (inl g, ap (λ (w : LogPage). w.executed) (sym g) ∙ eqb-true q.executed base t)
    go false t f r = let s = r f in (inr s.0, s.1)

pub found_none : (base : ℕ) (ps : List LogPage) (p : LogPage) → find (λ q. q.executed == base) ps ≡ None → Among ps p → p.executed ≡ base → ⊥
found_none base [] p e m f = m
found_none base (q ∷ ps) p e m f = go (q.executed == base) refl e m (found_none base ps p)
  where
    go : (b : Bool) → (q.executed == base) ≡ b → cond b (Some q) (find (λ q. q.executed == base) ps) ≡ None → Among (q ∷ ps) p → (find (λ q. q.executed == base) ps ≡ None → Among ps p → p.executed ≡ base → ⊥) → ⊥
    go true t g n r = none-some q (sym g)
    go false t g (inl i) r = eqb-false q.executed base t (ap (λ (w : LogPage). w.executed) i ∙ f)
    go false t g (inr n) r = r g n f
