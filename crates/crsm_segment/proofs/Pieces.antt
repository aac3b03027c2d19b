-- A message is cut part by part.
use Rattle.std.proofs.Common.{◌≡◌, ℕ, zero, suc, ◌+◌, ◌-◌, ◌*◌, ◌/◌, ◌≤◌, min, List, [], ◌∷◌, ◌++◌, map, length, take, drop, arith, inl, inr, refl, sym, ap, ◌∙◌}
use Rattle.std.specs.List.{range_with_len, enumerate_from}
use Rattle.std.proofs.lemmas.Bool.{cases_lt}
use Rattle.std.proofs.lemmas.List.{take_all, length-drop}
use Rattle.std.proofs.lemmas.List.FromFn.{map-range_with_len_more}
use Rattle.crsm_base.specs.declared.send.Send.{Send}
use Rattle.crsm_base.specs.declared.send.To.TheVariants as to_whom
use Rattle.crsm_base.specs.declared.datagram.Datagram.TheVariants as datagram
use Rattle.crsm_spec.specs.Parts.{part_count, cut_into, cut}
use Rattle.crsm_fact_log.proofs.Parts.{cut_length}
use Rattle.crsm_segment.specs.Pieces.{send_of, piece_of, sends_of}

no_bytes : (k : ℕ) (xs : List ℕ) → xs ≡ [] → drop k xs ≡ []
no_bytes zero xs e = e
no_bytes (suc k) xs e = ap (λ z. drop (suc k) z) e

drop_drop : (m n : ℕ) (xs : List ℕ) → drop m (drop n xs) ≡ drop (n + m) xs
drop_drop m zero xs = let e : m ≡ 0 + m = omega arith in ap (λ k. drop k xs) e
drop_drop m (suc n) [] = no_bytes m [] refl ∙ sym (no_bytes (suc n + m) [] refl)
drop_drop m (suc n) (x ∷ xs) = let e : suc n + m ≡ suc (n + m) = omega arith in drop_drop m n xs ∙ ap (λ k. drop k (x ∷ xs)) (sym e)

-- the part at an index
abbrev pub part_at : List ℕ → ℕ → List ℕ
part_at m i = take 8000 (drop (8000 * i) m)

-- the parts from an index on, each with something made of it
parts_from : {X : Type 0} (f : ℕ × List ℕ → X) (m : List ℕ) (i k : ℕ) →
    map f (enumerate_from i (cut_into k (drop (8000 * i) m))) ≡ map (λ j. f (j, part_at m j)) (range_with_len i k)
unfolding cut_into
parts_from f m i zero = refl
parts_from f m i (suc k) =
    let next : 8000 * i + 8000 ≡ 8000 * (i + 1) = omega arith in
    ap (λ z. f (i, part_at m i) ∷ map f (enumerate_from (i + 1) (cut_into k z))) (drop_drop 8000 (8000 * i) m ∙ ap (λ n. drop n m) next)
    ∙ ap (λ z. f (i, part_at m i) ∷ z) (parts_from f m (i + 1) k)

pub made_of_parts : {X : Type 0} (f : ℕ × List ℕ → X) (m : List ℕ) (k : ℕ) → map f (enumerate_from 0 (cut_into k m)) ≡ map (λ j. f (j, part_at m j)) (range_with_len 0 k)
made_of_parts f m k = let none : 8000 * 0 ≡ 0 = omega arith in ap (λ n. map f (enumerate_from 0 (cut_into k (drop n m)))) (sym none) ∙ parts_from f m 0 k

-- as the loop cuts it: up to the end of the message
pub piece_is : (m : List ℕ) (a : ℕ) → take (min (a + 8000) (length m) - a) (drop a m) ≡ take 8000 (drop a m)
piece_is m a = elim (cases_lt (length m) (a + 8000)) [
  | inl short ↦
      let l : length (drop a m) ≤ min (a + 8000) (length m) - a = omega (arith, length-drop a m) in
      take_all (min (a + 8000) (length m) - a) (drop a m) l ∙ sym (take_all 8000 (drop a m) (omega (arith, length-drop a m)))
  | inr long ↦ let e : min (a + 8000) (length m) - a ≡ 8000 = omega arith in ap (λ n. take n (drop a m)) e
]

-- ---- the loop that cuts

count_is : (m : List ℕ) → length (cut m) ≡ (length m + 7999) / 8000
unfolding cut part_count
count_is m = cut_length ((length m + 7999) / 8000) m

abbrev pub sent : ℕ → ℕ → ℕ → ℕ → List ℕ → ℕ → Send
sent from to boot number m i = send_of to (piece_of from boot number m i (part_at m i))

pub one_more : (from to boot number : ℕ) (m : List ℕ) (i : ℕ) (before : List Send) (bytes : List ℕ) →
    before ≡ map (sent from to boot number m) (range_with_len 0 i) → bytes ≡ part_at m i →
    before ++ record { to = to_whom.Replica to; datagram = datagram.Part from to boot number i ((length m + 7999) / 8000) bytes } ∷ []
    ≡ map (sent from to boot number m) (range_with_len 0 (i + 1))
unfolding send_of
one_more from to boot number m i before bytes e b =
    let counted : (length m + 7999) / 8000 ≡ length (cut m) = sym (count_is m) in
    (λ j. e j ++ record { to = to_whom.Replica to; datagram = datagram.Part from to boot number i (counted j) (b j) } ∷ [])
    ∙ sym (map-range_with_len_more (sent from to boot number m) 0 i i (omega arith))

pub all_sent : (from to boot number : ℕ) (m : List ℕ) (i : ℕ) → i ≡ (length m + 7999) / 8000 →
    map (sent from to boot number m) (range_with_len 0 i) ≡ sends_of from to boot number m
unfolding sends_of cut part_count
all_sent from to boot number m i e =
    ap (λ n. map (sent from to boot number m) (range_with_len 0 n)) e
    ∙ sym (made_of_parts (λ p. send_of to (piece_of from boot number m p.0 p.1)) m ((length m + 7999) / 8000))
