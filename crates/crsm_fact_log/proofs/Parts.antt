-- Messages cut into parts: the number of parts, and that they make up the message again.
use Rattle.std.proofs.Common.{◌≡◌, ℕ, zero, suc, ◌+◌, ◌*◌, List, ◌++◌, length, take, drop, arith, refl, sym, ap, ◌∙◌}
use Rattle.std.specs.List.{concat}
use Rattle.std.proofs.Math.Seq.{take-add}
use Rattle.std.proofs.lemmas.List.{take_all}
use Rattle.crsm_spec.specs.Parts.{part_count, cut_into, cut}

pub cut_length : (k : ℕ) (m : List ℕ) → length (cut_into k m) ≡ k
unfolding cut_into
cut_length zero m = refl
cut_length (suc k) m = let e = cut_length k (drop 8000 m) in omega arith

prefix : (k : ℕ) (m : List ℕ) → concat (cut_into k m) ≡ take (8000 * k) m
unfolding cut_into
prefix zero m = let none : 8000 * 0 ≡ 0 = omega arith in ap (λ n. take n m) (sym none)
prefix (suc k) m =
    let more : 8000 + 8000 * k ≡ 8000 * suc k = omega arith in
    ap (λ z. take 8000 m ++ z) (prefix k (drop 8000 m)) ∙ sym (take-add 8000 (8000 * k) m) ∙ ap (λ n. take n m) more

-- the parts joined are the message
pub joined_again : (m : List ℕ) → concat (cut m) ≡ m
unfolding cut part_count
joined_again m = prefix (part_count (length m)) m ∙ take_all (8000 * part_count (length m)) m (omega arith)
