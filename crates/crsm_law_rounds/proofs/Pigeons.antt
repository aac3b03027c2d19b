-- A list without repetition is no longer than one that has all its elements.
use Rattle.std.proofs.Common.{◌≡◌, ℕ, ◌+◌, ◌≤◌, List, [], ◌∷◌, ◌++◌, length, refl, sym, ◌∙◌, ap, subst, inl, inr, Bool, cond, arith}
use Rattle.std.specs.Prelude.{IsTrue, count_by}
use Rattle.std.proofs.lemmas.List.Sums.{sum_by-append, sum_by-cons}
use Rattle.crsm_spec.specs.Lists.{Among}
use Rattle.crsm_fact_log.proofs.Lists.{among_left, among_right, among_either}
use Rattle.crsm_law_epoch.specs.Numbers.{Distinct}
use Rattle.crsm_law_rounds.proofs.Growing.{IsSet}

module _ {A : Type 0} where
  -- where an element stands
  parts : (ys : List A) (x : A) → Among ys x → (prefix : List A) × (back : List A) × (ys ≡ prefix ++ x ∷ back)
  parts [] x m = absurd m
  parts (y ∷ ys) x (inl e) = ([], ys, ap (λ z. z ∷ ys) e)
  parts (y ∷ ys) x (inr m) = let t = parts ys x m in (y ∷ t.0, t.1, ap (λ l. y ∷ l) t.2)

  -- the other elements stand beside it
  beside : (prefix back : List A) (x z : A) → Among (prefix ++ x ∷ back) z → (x ≡ z → ⊥) → Among (prefix ++ back) z
  beside prefix back x z m ne = elim (among_either prefix (x ∷ back) z m) [
    | inl a ↦ among_left prefix back z a
    | inr a ↦ elim a [ inl e ↦ absurd (ne e) | inr b ↦ among_right prefix back z b ]
  ]

  count_parts : (P : A → Bool) (prefix back : List A) (x : A) → IsTrue (P x) → count_by P (prefix ++ x ∷ back) ≡ count_by P (prefix ++ back) + 1
  count_parts P prefix back x p =
      let a = sum_by-append (λ z. cond (P z) 1 0) prefix (x ∷ back) in
      let b = sum_by-append (λ z. cond (P z) 1 0) prefix back in
      let c = sum_by-cons (λ z. cond (P z) 1 0) x back in
      let one = ap {B = ℕ} (λ (q : Bool). cond q 1 0) p in
      omega (arith, a, b, c, one)

  pub pigeons : (P : A → Bool) (xs ys : List A) → IsSet xs → ((x : A) → Among xs x → Among ys x × IsTrue (P x)) → length xs ≤ count_by P ys
  pigeons P [] ys s h = omega arith
  pigeons P (x ∷ xs) ys s h =
      let here = h x (inl refl) in
      let t = parts ys x here.0 in
      let rest = pigeons P xs (t.0 ++ t.1) s.1 (λ z m. (beside t.0 t.1 x z (subst (λ l. Among l z) t.2 (h z (inr m)).0) (λ e. s.0 (subst (Among xs) (sym e) m)), (h z (inr m)).1)) in
      let c = ap (count_by P) t.2 ∙ count_parts P t.0 t.1 x here.1 in
      omega (arith, rest, c)

pub set_of : (ks : List ℕ) → Distinct ks → IsSet ks
set_of [] d = tt
set_of (k ∷ ks) d = (d.0, set_of ks d.1)
