-- The hexadecimal text of pieces.
use Rattle.std.proofs.Common.{◌≡◌, ℕ, sym, ◌∙◌, take, drop, List, [], ◌∷◌, ◌++◌, ◌/◌, ◌%◌, refl, ap}
use Rattle.std.specs.Prelude.{slice_index}
use Rattle.std.proofs.lemmas.List.{take-append-drop}
use Rattle.hex.specs.Hex.{encode_with, encode_lower}

pub encode_with-append : (t xs ys : List ℕ) → encode_with t (xs ++ ys) ≡ encode_with t xs ++ encode_with t ys
unfolding encode_with
encode_with-append t [] ys = refl
encode_with-append t (b ∷ xs) ys = ap (λ (s : List ℕ). slice_index t (b / 16) ∷ slice_index t (b % 16) ∷ s) (encode_with-append t xs ys)

pub encode_lower-parts : (bytes : List ℕ) (n : ℕ) → encode_lower (take n bytes) ++ encode_lower (drop n bytes) ≡ encode_lower bytes
encode_lower-parts bytes n = sym (encode_with-append _ (take n bytes) (drop n bytes)) ∙ ap encode_lower (take-append-drop n bytes)
