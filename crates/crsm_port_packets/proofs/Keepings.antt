-- Fragments are kept, and put together once all have come.
use Rattle.std.proofs.Common.{◌≡◌, ◌∙◌, ◌<◌, ◌++◌, ℕ, zero, suc, List, [], ◌∷◌, Bool, true, false, cond, length, map, sym, ap, subst, arith, append_assoc, append-nil}
use Rattle.std.proofs.lemmas.Bool.Decides.{nat_tests}
use Rattle.std.specs.List.{concat, filter, remove}
use Rattle.std.specs.Prelude.{Contains, nat_lt, slice_index_or}
use Rattle.crsm_port_packets.specs.Kept.{Forgets, IsHeld, arrived, is_recent}
use Rattle.crsm_port_packets.specs.declared.fragments.Piece.{Piece}

-- one that is in a list without one of its elements was there before
remove_less : {X Y : Type 0} (f : X → Y) (xs : List X) (i : ℕ) (y : Y) → Contains (map f (remove xs i)) y → Contains (map f xs) y
remove_less f [] zero y (k, lt, is) = (k, lt, is)
remove_less f [] (suc i) y (k, lt, is) = (k, lt, is)
remove_less f (z ∷ xs) zero y (k, lt, is) = (suc k, omega (arith, lt), is)
remove_less f (z ∷ xs) (suc i) y (zero, lt, is) = (zero, omega arith, is)
remove_less f (z ∷ xs) (suc i) y (suc k, lt, is) = let w = remove_less f xs i y (k, omega (arith, lt), is) in (suc w.0, omega (arith, w.1), w.2)

pub forgets_one : (old : List Piece) (i : ℕ) → Forgets old (remove old i)
forgets_one old i a has = remove_less arrived old i a has

-- those that came lately were there before
pub forgets_recent : (now : ℕ) (old new : List Piece) → new ≡ filter (is_recent now) old → Forgets old new
forgets_recent now old new is a has = go old (subst (λ (ps : List Piece). IsHeld ps a) is has)
  where
    at : (p : Piece) (ps : List Piece) (b : Bool) → (IsHeld (filter (is_recent now) ps) a → IsHeld ps a) → IsHeld (cond b (p ∷ filter (is_recent now) ps) (filter (is_recent now) ps)) a → IsHeld (p ∷ ps) a
    at p ps true rest (zero, lt, is) = (zero, omega arith, is)
    at p ps true rest (suc k, lt, is) = let w = rest (k, omega (arith, lt), is) in (suc w.0, omega (arith, w.1), w.2)
    at p ps false rest is = let w = rest is in (suc w.0, omega (arith, w.1), w.2)

    go : (ps : List Piece) → IsHeld (filter (is_recent now) ps) a → IsHeld ps a
    go [] (k, lt, is) = (k, lt, is)
    go (p ∷ ps) is = at p ps (is_recent now p) (go ps) is

-- ---- pieces, one after another

pub concat_more : (pieces : List (List ℕ)) (piece : List ℕ) → concat (pieces ++ piece ∷ []) ≡ concat pieces ++ piece
concat_more [] piece = append-nil piece
concat_more (p ∷ pieces) piece = ap (λ (r : List ℕ). p ++ r) (concat_more pieces piece) ∙ sym (append_assoc p (concat pieces) piece)

-- each of a list of pieces is there, and so is the next
pub each_more : (F : ℕ → List ℕ → Type 0) (pieces : List (List ℕ)) (piece : List ℕ) → ((i : ℕ) → i < length pieces → F i (slice_index_or pieces i [])) → F (length pieces) piece
    → (i : ℕ) → i < length (pieces ++ piece ∷ []) → F i (slice_index_or (pieces ++ piece ∷ []) i [])
each_more F [] piece all here zero lt = here
each_more F [] piece all here (suc i) lt = absurd (omega (arith, lt))
each_more F (p ∷ pieces) piece all here zero lt = all zero (omega arith)
each_more F (p ∷ pieces) piece all here (suc i) lt =
    each_more (λ j. F (suc j)) pieces piece (λ j l. all (suc j) (omega (arith, l))) here i (omega (arith, lt))

pub is_some : (count : ℕ) → nat_lt 0 count ≡ true → 0 < count
is_some count test = grind (arith, nat_tests)
