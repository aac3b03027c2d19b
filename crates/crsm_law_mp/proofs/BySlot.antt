-- Lists by slot: the value at a slot, and that a report has what was accepted and chosen.
use Rattle.std.proofs.Common.{◌≡◌, ℕ, ◌<◌, ◌⊎◌, Bool, true, false, cond, ◌==◌, List, [], ◌∷◌, arith, inl, inr, refl, sym, subst, ap, ◌∙◌, Some}
use Rattle.std.specs.List.{Contains, AllByRecursion}
use Rattle.std.specs.BTreeMap.{insert_entry}
use Rattle.std.specs.Ordering.{nat_cmp, match_ordering}
use Rattle.std.specs.declared.cmp.Ordering.{Ordering}
use Rattle.std.specs.declared.cmp.Ordering.TheVariants.{Less, Equal, Greater}
use Rattle.std.proofs.lemmas.Cmp.{ranked}
use Rattle.std.proofs.lemmas.Bool.Decides.{nat_tests}
use Rattle.crsm_safety.proofs.Paxos.Majority.{nat_eq_is, nat_eq_itself}
use Rattle.crsm_mpspec.specs.Log.{at_slot, by_slot}
use Rattle.crsm_law_mp.proofs.Lists.{cons_cases, first_in, later_in, none_in}

clash : true ≡ false → ⊥
clash e = cc

module _ {A : Type 0} where
  -- ---- what is inserted

  pub in_insert : (k : ℕ) (v : A) (es : List (ℕ × A)) (p : ℕ × A) → Contains (insert_entry nat_cmp es k v) p → ((k, v) ≡ p) ⊎ Contains es p
  in_insert k v [] p c = elim (cons_cases (k, v) [] p c) [ inl is ↦ inl is | inr none ↦ absurd (none_in p none) ]
  in_insert k v (e ∷ es) p c = go (nat_cmp k e.0) refl c (in_insert k v es p)
    where
      go : (o : Ordering) → o ≡ nat_cmp k e.0 → Contains (match_ordering o ((k, v) ∷ e ∷ es) ((e.0, v) ∷ es) (e ∷ insert_entry nat_cmp es k v)) p →
          (Contains (insert_entry nat_cmp es k v) p → ((k, v) ≡ p) ⊎ Contains es p) → ((k, v) ≡ p) ⊎ Contains (e ∷ es) p
      go Less is c more = cons_cases (k, v) (e ∷ es) p c
      go Equal is c more =
          let same : k ≡ e.0 = ranked k e.0 Equal is in
          elim (cons_cases (e.0, v) es p c) [
            | inl here ↦ inl (subst (λ (j : ℕ). (j, v) ≡ p) (sym same) here)
            | inr rest ↦ inr (later_in e es p rest)
          ]
      go Greater is c more =
          elim (cons_cases e (insert_entry nat_cmp es k v) p c) [
            | inl here ↦ inr (subst (λ z. Contains (e ∷ es) z) here (first_in e es))
            | inr rest ↦ elim (more rest) [ inl new ↦ inl new | inr old ↦ inr (later_in e es p old) ]
          ]

  pub in_by_slot : (xs : List (ℕ × A)) (p : ℕ × A) → Contains (by_slot xs) p → Contains xs p
  unfolding by_slot
  in_by_slot [] p c = c
  in_by_slot (x ∷ xs) p c =
      elim (in_insert x.0 x.1 (by_slot xs) p c) [
        | inl is ↦ subst (λ z. Contains (x ∷ xs) z) is (first_in x xs)
        | inr old ↦ later_in x xs p (in_by_slot xs p old)
      ]

  pub at_insert : (q k : ℕ) (v : A) (es : List (ℕ × A)) → at_slot q (insert_entry nat_cmp es k v) ≡ cond (k == q) (Some v) (at_slot q es)
  unfolding at_slot
  at_insert q k v [] = refl
  at_insert q k v (e ∷ es) = go (nat_cmp k e.0) refl (at_insert q k v es)
    where
      equal : k ≡ e.0 → (t : Bool) → (e.0 == q) ≡ t → cond t (Some v) (at_slot q es) ≡ cond t (Some v) (cond t (Some e.1) (at_slot q es))
      equal same true is = refl
      equal same false is = refl

      swap : e.0 < k → (s t : Bool) → (e.0 == q) ≡ s → (k == q) ≡ t →
          cond s (Some e.1) (cond t (Some v) (at_slot q es)) ≡ cond t (Some v) (cond s (Some e.1) (at_slot q es))
      swap below true true is_s is_t =
          let one : e.0 ≡ q = nat_eq_is e.0 q is_s in let two : k ≡ q = nat_eq_is k q is_t in absurd (omega arith)
      swap below true false is_s is_t = refl
      swap below false true is_s is_t = refl
      swap below false false is_s is_t = refl

      go : (o : Ordering) → o ≡ nat_cmp k e.0 → at_slot q (insert_entry nat_cmp es k v) ≡ cond (k == q) (Some v) (at_slot q es) →
          at_slot q (match_ordering o ((k, v) ∷ e ∷ es) ((e.0, v) ∷ es) (e ∷ insert_entry nat_cmp es k v)) ≡ cond (k == q) (Some v) (at_slot q (e ∷ es))
      go Less is more = refl
      go Equal is more =
          let same : k ≡ e.0 = ranked k e.0 Equal is in
          subst (λ j. cond (e.0 == q) (Some v) (at_slot q es) ≡ cond (j == q) (Some v) (cond (e.0 == q) (Some e.1) (at_slot q es))) (sym same) (equal same (e.0 == q) refl)
      go Greater is more =
          let below : e.0 < k = ranked k e.0 Greater is in
          ap (λ z. cond (e.0 == q) (Some e.1) z) more ∙ swap below (e.0 == q) (k == q) refl refl

  pub at_by_slot : (q : ℕ) (xs : List (ℕ × A)) → at_slot q (by_slot xs) ≡ at_slot q xs
  unfolding by_slot at_slot
  at_by_slot q [] = refl
  at_by_slot q (x ∷ xs) = at_insert q x.0 x.1 (by_slot xs) ∙ ap (λ z. cond (x.0 == q) (Some x.1) z) (at_by_slot q xs)

  -- ---- ascending slots

  abbrev pub AllAbove : ℕ → List (ℕ × A) → Type 0
  AllAbove k es = AllByRecursion (λ e. k < e.0) es

  abbrev pub Ascends : List (ℕ × A) → Type 0
  Ascends [] = Unit {0}
  Ascends (e ∷ es) = AllAbove e.0 es × Ascends es

  above_more : (j k : ℕ) (es : List (ℕ × A)) → j < k → AllAbove k es → AllAbove j es
  above_more j k [] less all = tt
  above_more j k (e ∷ es) less all = (let a = all.0 in omega arith, above_more j k es less all.1)

  above_insert : (j k : ℕ) (v : A) (es : List (ℕ × A)) → j < k → AllAbove j es → AllAbove j (insert_entry nat_cmp es k v)
  above_insert j k v [] less all = (less, tt)
  above_insert j k v (e ∷ es) less all = go (nat_cmp k e.0) (above_insert j k v es less all.1)
    where
      go : (o : Ordering) → AllAbove j (insert_entry nat_cmp es k v) → AllAbove j (match_ordering o ((k, v) ∷ e ∷ es) ((e.0, v) ∷ es) (e ∷ insert_entry nat_cmp es k v))
      go Less more = (less, all)
      go Equal more = (all.0, all.1)
      go Greater more = (all.0, more)

  ascends_insert : (k : ℕ) (v : A) (es : List (ℕ × A)) → Ascends es → Ascends (insert_entry nat_cmp es k v)
  ascends_insert k v [] a = (tt, tt)
  ascends_insert k v (e ∷ es) a = go (nat_cmp k e.0) refl (ascends_insert k v es a.1)
    where
      go : (o : Ordering) → o ≡ nat_cmp k e.0 → Ascends (insert_entry nat_cmp es k v) → Ascends (match_ordering o ((k, v) ∷ e ∷ es) ((e.0, v) ∷ es) (e ∷ insert_entry nat_cmp es k v))
      go Less is more = let less : k < e.0 = ranked k e.0 Less is in ((less, above_more k e.0 es less a.0), a)
      go Equal is more = (a.0, a.1)
      go Greater is more = let less : e.0 < k = ranked k e.0 Greater is in (above_insert e.0 k v es less a.0, more)

  pub by_slot_ascends : (xs : List (ℕ × A)) → Ascends (by_slot xs)
  unfolding by_slot
  by_slot_ascends [] = tt
  by_slot_ascends (x ∷ xs) = ascends_insert x.0 x.1 (by_slot xs) (by_slot_ascends xs)

  above_in : (k : ℕ) (es : List (ℕ × A)) (p : ℕ × A) → AllAbove k es → Contains es p → k < p.0
  above_in k [] p all c = absurd (none_in p c)
  above_in k (e ∷ es) p all c =
      elim (cons_cases e es p c) [ inl is ↦ subst (λ z. k < z.0) is all.0 | inr rest ↦ above_in k es p all.1 rest ]

  -- where slots ascend, what is there is what stands first
  pub at_of_in : (es : List (ℕ × A)) (p : ℕ × A) → Ascends es → Contains es p → at_slot p.0 es ≡ Some p.1
  unfolding at_slot
  at_of_in [] p a c = absurd (none_in p c)
  at_of_in (e ∷ es) p a c =
      elim (cons_cases e es p c) [
        | inl is ↦ subst (λ z. cond (e.0 == z.0) (Some e.1) (at_slot z.0 es) ≡ Some z.1) is (rw (nat_eq_itself e.0) refl)
        | inr rest ↦
            let less : e.0 < p.0 = above_in e.0 es p a.0 rest in
            let apart : (e.0 == p.0) ≡ false = grind (arith, nat_tests) in
            rw apart (at_of_in es p a.1 rest)
      ]
