-- Places of lists.
use Rattle.std.proofs.Common.{◌≡◌, ℕ, zero, suc, ◌+◌, ◌-◌, ◌<◌, ◌≤◌, List, [], ◌∷◌, ◌++◌, length, drop, take, refl, sym, ap, subst, inl, inr, Bool, true, false, cond, arith}
use Rattle.std.specs.Prelude.{◌⊎◌, Some, slice_get, nat_le}
use Rattle.std.proofs.lemmas.Option.{none-some}
use Rattle.crsm_base.specs.Limits.{page_bytes}
use Rattle.crsm_base.specs.Spelling.{entry_bytes}
use Rattle.crsm_spec.specs.Types.{Entry}
use Rattle.crsm_spec.specs.Lists.{IsPrefixOf}
use Rattle.crsm_spec.specs.Collect.{first_page, run_within}

-- one list is a prefix of the other where they agree at each place that both have
pub prefixes : {A : Type 0} (xs ys : List A) → ((p : ℕ) (x y : A) → slice_get xs p ≡ Some x → slice_get ys p ≡ Some y → x ≡ y) → IsPrefixOf xs ys ⊎ IsPrefixOf ys xs
prefixes [] ys h = inl (ys, refl)
prefixes (x ∷ xs) [] h = inr (x ∷ xs, refl)
prefixes {A} (x ∷ xs) (y ∷ ys) h = elim (prefixes xs ys (λ p u v a b. h (suc p) u v a b)) [
  | inl t ↦ inl (t.0, subst (λ z. x ∷ (xs ++ t.0) ≡ z ∷ ys) (h 0 x y refl refl) (ap (λ l. x ∷ l) t.1))
  | inr t ↦ inr (t.0, subst (λ z. y ∷ (ys ++ t.0) ≡ z ∷ xs) (sym (h 0 x y refl refl)) (ap (λ l. y ∷ l) t.1))
]

pub get_append : {A : Type 0} (xs ys : List A) (p : ℕ) (x : A) → slice_get (xs ++ ys) p ≡ Some x → (slice_get xs p ≡ Some x) ⊎ ((i : ℕ) × (p ≡ length xs + i) × (slice_get ys i ≡ Some x))
get_append [] ys p x h = inr (p, omega arith, h)
get_append (z ∷ xs) ys zero x h = inl h
get_append (z ∷ xs) ys (suc p) x h = elim (get_append xs ys p x h) [ inl a ↦ inl a | inr a ↦ inr (a.0, omega (arith, a.1), a.2) ]

none_is : (i : ℕ) → i ≡ 0 + i
none_is i = omega arith

more_is : (n i : ℕ) → suc (n + i) ≡ suc n + i
more_is n i = omega arith

pub get_drop : {A : Type 0} (n : ℕ) (xs : List A) (i : ℕ) (x : A) → slice_get (drop n xs) i ≡ Some x → slice_get xs (n + i) ≡ Some x
get_drop zero xs i x h = subst (λ j. slice_get xs j ≡ Some x) (none_is i) h
get_drop (suc n) [] i x h = absurd (none-some x h)
get_drop (suc n) (y ∷ xs) i x h = let t : slice_get (y ∷ xs) (suc (n + i)) ≡ Some x = get_drop n xs i x h in subst (λ j. slice_get (y ∷ xs) j ≡ Some x) (more_is n i) t

-- a page is a prefix of what it is made of
get_run : (room : ℕ) (es : List Entry) (i : ℕ) (x : Entry) → slice_get (run_within room es) i ≡ Some x → slice_get es i ≡ Some x
unfolding run_within
get_run room [] i x h = absurd (none-some x h)
get_run room (e ∷ es) i x h = go (λ j q. get_run (room - length (entry_bytes e)) es j x q) (nat_le (length (entry_bytes e)) room) i h
  where
    go : ((j : ℕ) → slice_get (run_within (room - length (entry_bytes e)) es) j ≡ Some x → slice_get es j ≡ Some x) → (c : Bool) (i : ℕ) →
        slice_get (cond c (e ∷ run_within (room - length (entry_bytes e)) es) []) i ≡ Some x → slice_get (e ∷ es) i ≡ Some x
    go k true zero q = q
    go k true (suc j) q = k j q
    go k false j q = absurd (none-some x q)

pub get_page : (es : List Entry) (i : ℕ) (x : Entry) → slice_get (first_page es) i ≡ Some x → slice_get es i ≡ Some x
unfolding first_page
get_page es i x h = get_run page_bytes es i x h

pub get_take : {A : Type 0} (n : ℕ) (xs : List A) (i : ℕ) (x : A) → slice_get (take n xs) i ≡ Some x → slice_get xs i ≡ Some x
get_take zero xs i x h = absurd (none-some x h)
get_take (suc n) [] i x h = absurd (none-some x h)
get_take (suc n) (y ∷ xs) zero x h = h
get_take (suc n) (y ∷ xs) (suc i) x h = get_take n xs i x h

pub take_get : {A : Type 0} (n : ℕ) (xs : List A) (i : ℕ) (x : A) → i < n → slice_get xs i ≡ Some x → slice_get (take n xs) i ≡ Some x
take_get zero xs i x lt h = absurd (omega (arith, lt))
take_get (suc n) [] i x lt h = absurd (none-some x h)
take_get (suc n) (y ∷ xs) zero x lt h = h
take_get (suc n) (y ∷ xs) (suc i) x lt h = take_get n xs i x (omega (arith, lt)) h

pub taken_length : {A : Type 0} (n : ℕ) (xs : List A) → n ≤ length xs → length (take n xs) ≡ n
taken_length zero xs le = refl
taken_length (suc n) [] le = absurd (omega (arith, le))
taken_length (suc n) (y ∷ xs) le = ap suc (taken_length n xs (omega (arith, le)))

pub get_right : {A : Type 0} (xs ys : List A) (n i : ℕ) (x : A) → length xs ≡ n → slice_get ys i ≡ Some x → slice_get (xs ++ ys) (n + i) ≡ Some x
get_right [] ys n i x e h = subst (λ j. slice_get ys j ≡ Some x) (zero_plus n i e) h
  where
    zero_plus : (n i : ℕ) → 0 ≡ n → i ≡ n + i
    zero_plus n i e = omega (arith, e)
get_right (z ∷ xs) ys zero i x e h = absurd (omega (arith, e))
get_right (z ∷ xs) ys (suc n) i x e h = subst (λ j. slice_get (z ∷ xs ++ ys) j ≡ Some x) (more_is n i) (get_right xs ys n i x (omega (arith, e)) h)
