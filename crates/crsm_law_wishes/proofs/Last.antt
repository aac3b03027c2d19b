-- The last turn of a kind: that there is one, and one alone.
use Rattle.std.proofs.Common.{◌≡◌, ℕ, zero, suc, ◌<◌, ◌⊎◌, inl, inr, List, [], ◌∷◌, refl, sym, ap, ◌∙◌, subst, arith}
use Rattle.std.specs.Prelude.{Some, slice_get}
use Rattle.std.proofs.lemmas.Bool.{cases_lt}
use Rattle.std.proofs.lemmas.Option.{none-some, same_Some}
use Rattle.crsm_spec.specs.Node.{Turn}
use Rattle.crsm_law_wishes.specs.Readings.{IsLast}

module _ (kind : Turn → Type 0) where
  -- no turn is of the kind
  abbrev pub NoneIn : List (Turn × ℕ) → Type 0
  NoneIn us = (q : ℕ) (t : Turn × ℕ) → slice_get us q ≡ Some t → kind t.0 → ⊥

  pub record LastIn (us : List (Turn × ℕ)) (reading : ℕ) : Type 0 where
    pub place : ℕ
    pub turn : Turn
    pub there : slice_get us place ≡ Some (turn, reading)
    pub of_kind : kind turn
    pub none_later : (q : ℕ) (t : Turn × ℕ) → place < q → slice_get us q ≡ Some t → kind t.0 → ⊥

  -- the reading of the last turn of the kind, or the old reading if there is none
  abbrev pub LastOrOld : List (Turn × ℕ) → ℕ → ℕ → Type 0
  LastOrOld us old new = LastIn us new ⊎ (NoneIn us × (new ≡ old))

  -- one turn: its reading if it is of the kind, else the old one
  abbrev pub MovesTo : Turn → ℕ → ℕ → ℕ → Type 0
  MovesTo y reading old new = (kind y × (new ≡ reading)) ⊎ ((kind y → ⊥) × (new ≡ old))

  -- ---- a turn in front

  later : (x : Turn × ℕ) (us : List (Turn × ℕ)) (p : ℕ) → ((q : ℕ) (t : Turn × ℕ) → p < q → slice_get us q ≡ Some t → kind t.0 → ⊥)
      → (q : ℕ) (t : Turn × ℕ) → suc p < q → slice_get (x ∷ us) q ≡ Some t → kind t.0 → ⊥
  later x us p none zero t lt at k = absurd (omega (arith, lt))
  later x us p none (suc q) t lt at k = none q t (omega (arith, lt)) at k

  behind : (x : Turn × ℕ) (us : List (Turn × ℕ)) → NoneIn us → (q : ℕ) (t : Turn × ℕ) → 0 < q → slice_get (x ∷ us) q ≡ Some t → kind t.0 → ⊥
  behind x us none zero t lt at k = absurd (omega (arith, lt))
  behind x us none (suc q) t lt at k = none q t at k

  none_more : (x : Turn × ℕ) (us : List (Turn × ℕ)) → (kind x.0 → ⊥) → NoneIn us → NoneIn (x ∷ us)
  none_more x us not none zero t at k = let same : x ≡ t = cc in not (subst (λ z. kind z.0) (sym same) k)
  none_more x us not none (suc q) t at k = none q t at k

  pub go_on : (x : Turn × ℕ) (us : List (Turn × ℕ)) (old mid new : ℕ) → MovesTo x.0 x.1 old mid → LastOrOld us mid new → LastOrOld (x ∷ us) old new
  go_on x us old mid new m (inl l) = inl (record {
    place = suc l.place;
    turn = l.turn;
    there = l.there;
    of_kind = l.of_kind;
    none_later = later x us l.place l.none_later;
  })
  go_on x us old mid new (inl here) (inr n) = inl (record {
    place = zero;
    turn = x.0;
    there = ap (λ (r : ℕ). Some (x.0, r)) (sym (n.1 ∙ here.1));
    of_kind = here.0;
    none_later = behind x us n.0;
  })
  go_on x us old mid new (inr other) (inr n) = inr (none_more x us other.0 n.0, n.1 ∙ other.1)

  pub stays : (old : ℕ) → LastOrOld [] old old
  stays old = inr ((λ q t at k. none-some t at), refl)

  pub is_last : (x : Turn × ℕ) (us : List (Turn × ℕ)) (new : ℕ) → LastOrOld us x.1 new → IsLast kind (x ∷ us) new
  is_last x us new (inl l) = record {
    place = suc l.place;
    turn = l.turn;
    there = l.there;
    of_kind = inl l.of_kind;
    none_later = later x us l.place l.none_later;
  }
  is_last x us new (inr n) = record {
    place = zero;
    turn = x.0;
    there = ap (λ (r : ℕ). Some (x.0, r)) (sym n.1);
    of_kind = inr refl;
    none_later = behind x us n.0;
  }

  -- ---- there is one alone

  apart : (turns : List (Turn × ℕ)) (a b : ℕ) (x : IsLast kind turns a) (y : IsLast kind turns b) → x.place < y.place → ⊥
  apart turns a b x y lt = elim y.of_kind [
    | inl k ↦ x.none_later y.place (y.turn, b) lt y.there k
    | inr first ↦ absurd (omega (arith, lt, first))
  ]

  pub one_alone : (turns : List (Turn × ℕ)) (a b : ℕ) → IsLast kind turns a → IsLast kind turns b → a ≡ b
  one_alone turns a b x y = elim (cases_lt x.place y.place) [
    | inl lt ↦ absurd (apart turns a b x y lt)
    | inr le ↦ elim (cases_lt y.place x.place) [ inl lt ↦ absurd (apart turns b a y x lt) | inr ge ↦ at_one (omega (arith, le, ge)) ]
  ]
    where
      at_one : x.place ≡ y.place → a ≡ b
      at_one e = ap (λ (t : Turn × ℕ). t.1) (same_Some (x.turn, a) (y.turn, b) (sym x.there ∙ ap (slice_get turns) e ∙ y.there))
