-- How many bytes the bodies of a log file take.
use Rattle.std.proofs.Common.{◌≡◌, ℕ, ◌+◌, ◌≤◌, List, [], ◌∷◌, ◌++◌, length, refl, sym, ap, subst, inl, inr, Bool, true, false, arith}
use Rattle.std.specs.Prelude.{◌^◌, if◌then◌else◌}
use Rattle.std.proofs.lemmas.Bool.{cases_lt}
use Rattle.std.proofs.lemmas.List.Sums.{sum_by-append, sum_by-cons}
use Rattle.crsm_base.specs.declared.limits.TheConstants.{MAX_LOG_BYTES}
use Rattle.crsm_log.specs.Format.{Entry, Items, bodies_among, bodies_in, bodies_of, broken, entries_in, gate_in, is_cluster, items_of, reading_in, size, whole}
use Rattle.crsm_shell.specs.Flushing.{IsFull}
use Rattle.crsm_law_processes.specs.Files.{size_of}
use Rattle.crsm_node.specs.Kept.{PutInTurn}

pub size_none : size_of [] ≡ 0
unfolding size_of
size_none = refl

size_first : (body : List ℕ) (bodies : List (List ℕ)) → size_of (body ∷ bodies) ≡ length body + size_of bodies
unfolding size_of
size_first body bodies = sum_by-cons (λ (b : List ℕ). length b) body bodies

pub size_more : (bodies more : List (List ℕ)) → size_of (bodies ++ more) ≡ size_of bodies + size_of more
unfolding size_of
size_more bodies more = sum_by-append (λ (b : List ℕ). length b) bodies more

pub size_push : (bodies : List (List ℕ)) (body : List ℕ) → size_of (bodies ++ body ∷ []) ≡ size_of bodies + length body
size_push bodies body = let a = size_more bodies (body ∷ []) in let b = size_first body [] in let c = size_none in omega (arith, a, b, c)

-- ---- in a file

bodies_within : (es : List Entry) → size_of (bodies_among es) ≤ size es
bodies_within [] = let e = size_none in omega (arith, e)
bodies_within (e ∷ es) = go (is_cluster e.field) (bodies_within es)
  where
    go : (b : Bool) → size_of (bodies_among es) ≤ size es → size_of (if b then bodies_among es else e.bytes ∷ bodies_among es) ≤ size (e ∷ es)
    go true t = omega (arith, t)
    go false t = let c = size_first e.bytes (bodies_among es) in omega (arith, t, c)

before_gate : (items : Items) → size_of (bodies_in (reading_in items)) ≤ size (entries_in items)
before_gate (whole es) = bodies_within es
before_gate (broken k) = let e = size_none in omega (arith, e)

pub before_its_gate : (file : List ℕ) → size_of (bodies_of file) ≤ gate_in file
before_its_gate file = before_gate (items_of file)

-- ---- bodies that are put

-- one that may be put, behind a gate
pub fits_in : (old body : List ℕ) → (IsFull old body → ⊥) → size_of (bodies_of old) ≤ 2 ^ 32 → size_of (bodies_of old) + length body ≤ 2 ^ 32
fits_in old [] not_full small = omega (arith, small)
fits_in old (b ∷ body) not_full small = elim (cases_lt MAX_LOG_BYTES (gate_in old + 6 + length (b ∷ body))) [
  | inl past ↦ absurd (not_full (omega arith, inl past))
  | inr within ↦ (let g = before_its_gate old in let limit : MAX_LOG_BYTES ≡ 4294967296 = refl in omega (arith, within, g, limit))
]

pub put_small : (bodies : List (List ℕ)) (old new : List ℕ) → PutInTurn bodies old new → size_of (bodies_of old) ≤ 2 ^ 32 → size_of (bodies_of new) ≤ 2 ^ 32
unfolding PutInTurn
put_small [] old new put small = subst (λ (f : List ℕ). size_of (bodies_of f) ≤ 2 ^ 32) (sym put) small
put_small (body ∷ bodies) old new put small =
    let here : bodies_of put.0 ≡ bodies_of old ++ body ∷ [] = ap bodies_in put.1 in
    let count = ap size_of here in
    let more = size_push (bodies_of old) body in
    let fits = fits_in old body put.2 small in
    put_small bodies put.0 new put.3 (omega (arith, count, more, fits))
