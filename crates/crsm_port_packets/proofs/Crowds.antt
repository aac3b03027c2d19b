-- How many fragments of an address are kept, and which stay.
use Rattle.std.proofs.Common.{◌≡◌, ◌∙◌, ◌+◌, ◌<◌, ◌≤◌, ◌++◌, ℕ, zero, suc, Bool, true, false, List, [], ◌∷◌, length, map, take, refl, sym, ap, subst, inl, inr, arith, eq-eqb}
use Rattle.std.proofs.lemmas.Bool.{eqb-true}
use Rattle.std.specs.List.{remove}
use Rattle.std.specs.Prelude.{◌⊎◌, ◌==◌, if◌then◌else◌, Contains, slice_index_or}
use Rattle.crsm_port_packets.specs.Kept.{Arrived, IsHeld, StaysBut, arrived, crowd}
use Rattle.crsm_port_packets.specs.declared.fragments.Piece.{Piece}

-- what is counted of one
abbrev pub one_of : ℕ → Piece → ℕ
one_of from p = if p.from == from then 1 else 0

pub one_is : (from : ℕ) (p : Piece) → p.from ≡ from → one_of from p ≡ 1
one_is from p is = ap (λ (b : Bool). let n : ℕ = if b then 1 else 0 in n) (eq-eqb p.from from is)

pub one_not : (from : ℕ) (p : Piece) → (p.from ≡ from → ⊥) → one_of from p ≡ 0
one_not from p not = go (p.from == from) refl
  where
    go : (b : Bool) → (p.from == from) ≡ b → (let n : ℕ = if b then 1 else 0 in n ≡ 0)
    go true is = absurd (not (eqb-true p.from from is))
    go false is = refl

pub one_most : (from : ℕ) (p : Piece) → one_of from p ≤ 1
one_most from p = go (p.from == from)
  where
    go : (b : Bool) → (let n : ℕ = if b then 1 else 0 in n ≤ 1)
    go true = omega arith
    go false = omega arith

pub crowd_pushed : (from : ℕ) (xs : List Piece) (p : Piece) → crowd from (xs ++ p ∷ []) ≡ crowd from xs + one_of from p
crowd_pushed from [] p = omega arith
crowd_pushed from (x ∷ xs) p = omega (arith, crowd_pushed from xs p)

pub crowd_removed : (from : ℕ) (xs : List Piece) (i : ℕ) (d : Piece) → i < length xs → crowd from xs ≡ one_of from (slice_index_or xs i d) + crowd from (remove xs i)
crowd_removed from [] i d lt = absurd (omega (arith, lt))
crowd_removed from (x ∷ xs) zero d lt = refl
crowd_removed from (x ∷ xs) (suc i) d lt = omega (arith, crowd_removed from xs i d (omega (arith, lt)))

pub crowd_more : (from : ℕ) (xs : List Piece) (i : ℕ) (d : Piece) → i < length xs → crowd from (take (i + 1) xs) ≡ crowd from (take i xs) + one_of from (slice_index_or xs i d)
crowd_more from xs i d lt = let next : i + 1 ≡ suc i = omega arith in ap (λ (n : ℕ). crowd from (take n xs)) next ∙ go xs i lt
  where
    go : (ys : List Piece) (k : ℕ) → k < length ys → crowd from (take (suc k) ys) ≡ crowd from (take k ys) + one_of from (slice_index_or ys k d)
    go [] k within = absurd (omega (arith, within))
    go (y ∷ ys) zero within = omega arith
    go (y ∷ ys) (suc k) within = omega (arith, go ys k (omega (arith, within)))

pub crowd_none : (from : ℕ) (xs : List Piece) → ((k : ℕ) (d : Piece) → k < length xs → (slice_index_or xs k d).from ≡ from → ⊥) → crowd from xs ≡ 0
crowd_none from [] none = refl
crowd_none from (x ∷ xs) none =
    omega (arith, one_not from x (none zero x (omega arith)), crowd_none from xs (λ k d lt is. none (suc k) d (omega (arith, lt)) is))

-- one leaves, and the others stay
rest : (xs : List Piece) (i : ℕ) (d : Piece) (y : Arrived) → i < length xs → Contains (map arrived xs) y → Contains (map arrived (remove xs i)) y ⊎ (arrived (slice_index_or xs i d) ≡ y)
rest [] i d y lt has = absurd (omega (arith, lt))
rest (x ∷ xs) zero d y lt (zero, within, is) = inr is
rest (x ∷ xs) zero d y lt (suc k, within, is) = inl (k, omega (arith, within), is)
rest (x ∷ xs) (suc i) d y lt (zero, within, is) = inl (zero, omega arith, is)
rest (x ∷ xs) (suc i) d y lt (suc k, within, is) = elim (rest xs i d y (omega (arith, lt)) (k, omega (arith, within), is)) [
  | inl w ↦ inl (suc w.0, omega (arith, w.1), w.2)
  | inr same ↦ inr same
]

pub stays_removed : (from : ℕ) (xs : List Piece) (i : ℕ) (d : Piece) → i < length xs → (slice_index_or xs i d).from ≡ from → 28 ≤ crowd from xs → StaysBut from xs (remove xs i)
stays_removed from xs i d lt is many a has = elim (rest xs i d a lt has) [
  | inl still ↦ inl still
  | inr same ↦ inr (sym (ap (λ (b : Arrived). b.from) same) ∙ is, many)
]

pub stays_same : (from : ℕ) (xs ys : List Piece) → ys ≡ xs → StaysBut from xs ys
stays_same from xs ys same a has = inl (subst (λ (zs : List Piece). IsHeld zs a) (sym same) has)

pub stays_pushed : (from : ℕ) (xs mid : List Piece) (p : Piece) → StaysBut from xs mid → StaysBut from xs (mid ++ p ∷ [])
stays_pushed from xs mid p before a has = elim (before a has) [
  | inl still ↦ inl (more mid still)
  | inr left ↦ inr left
]
  where
    more : (zs : List Piece) → IsHeld zs a → IsHeld (zs ++ p ∷ []) a
    more [] (k, lt, is) = absurd (omega (arith, lt))
    more (z ∷ zs) (zero, lt, is) = (zero, omega arith, is)
    more (z ∷ zs) (suc k, lt, is) = let w = more zs (k, omega (arith, lt), is) in (suc w.0, omega (arith, w.1), w.2)

pub kept_last : (mid : List Piece) (p : Piece) → IsHeld (mid ++ p ∷ []) (arrived p)
kept_last [] p = (zero, omega arith, refl)
kept_last (z ∷ zs) p = let w = kept_last zs p in (suc w.0, omega (arith, w.1), w.2)

-- where none is this one
pub not_kept : (xs : List Piece) (y : Arrived) → ((k : ℕ) (d : Piece) → k < length xs → arrived (slice_index_or xs k d) ≡ y → ⊥) → Contains (map arrived xs) y → ⊥
not_kept [] y none (k, lt, is) = omega (arith, lt)
not_kept (x ∷ xs) y none (zero, lt, is) = none zero x (omega arith) is
not_kept (x ∷ xs) y none (suc k, lt, is) = not_kept xs y (λ i d within same. none (suc i) d (omega (arith, within)) same) (k, omega (arith, lt), is)

pub item_any : (xs : List Piece) (i : ℕ) (d e : Piece) → i < length xs → slice_index_or xs i d ≡ slice_index_or xs i e
item_any [] i d e lt = absurd (omega (arith, lt))
item_any (x ∷ xs) zero d e lt = refl
item_any (x ∷ xs) (suc i) d e lt = item_any xs i d e (omega (arith, lt))

-- of the list before one leaves to that after, with one of this address
pub few_removed : (from : ℕ) (xs : List Piece) (i : ℕ) (d : Piece) → i < length xs → (slice_index_or xs i d).from ≡ from → (crowd from xs ≤ 28 → crowd from (remove xs i) < 28) × ((address : ℕ) → crowd address xs ≤ 28 → crowd address (remove xs i) ≤ 28)
few_removed from xs i d lt is = (
  (λ few. omega (arith, few, crowd_removed from xs i d lt, one_is from (slice_index_or xs i d) is)),
  λ address few. omega (arith, few, crowd_removed address xs i d lt),
)

pub few_pushed : (xs mid : List Piece) (p : Piece) → ((address : ℕ) → crowd address xs ≤ 28 → crowd address mid ≤ 28) → (crowd p.from xs ≤ 28 → crowd p.from mid < 28) → (address : ℕ) → crowd address xs ≤ 28 → crowd address (mid ++ p ∷ []) ≤ 28
few_pushed xs mid p few room address before = go (p.from == address) refl
  where
    go : (b : Bool) → (p.from == address) ≡ b → crowd address (mid ++ p ∷ []) ≤ 28
    go true is =
        let same : p.from ≡ address = eqb-true p.from address is in
        let free : crowd address mid < 28 = subst (λ (a : ℕ). crowd a xs ≤ 28 → crowd a mid < 28) same room before in
        omega (arith, free, crowd_pushed address mid p, one_most address p)
    go false is =
        let none : one_of address p ≡ 0 = ap (λ (b : Bool). let n : ℕ = if b then 1 else 0 in n) is in
        omega (arith, few address before, crowd_pushed address mid p, none)

-- one more of the list is counted
pub piece_at : (from : ℕ) (xs : List Piece) (i : ℕ) (p : Piece) → i < length xs → p ≡ slice_index_or xs i p → crowd from (take (i + 1) xs) ≡ crowd from (take i xs) + one_of from p
piece_at from xs i p lt is = crowd_more from xs i p lt ∙ ap (λ (q : Piece). crowd from (take i xs) + one_of from q) (sym is)

-- one of the list is kept
pub kept_at : (xs : List Piece) (i : ℕ) (p : Piece) → i < length xs → p ≡ slice_index_or xs i p → IsHeld xs (arrived p)
kept_at [] i p lt is = absurd (omega (arith, lt))
kept_at (x ∷ xs) zero p lt is = (zero, omega arith, sym (ap arrived is))
kept_at (x ∷ xs) (suc i) p lt is = let w = kept_at xs i p (omega (arith, lt)) is in (suc w.0, omega (arith, w.1), w.2)
