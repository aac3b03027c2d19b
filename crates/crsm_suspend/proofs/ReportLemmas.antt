-- The reports of replicas, by their pages.
use Rattle.std.proofs.Common.{◌≡◌, ◌∙◌, ◌-◌, refl, ap, List, [], ◌∷◌, length, arith}
use Rattle.std.specs.Prelude.{Some, slice_get}
use Rattle.std.specs.List.{last_or}
use Rattle.crsm_spec.specs.Types.{Entry}
use Rattle.crsm_spec.specs.Lists.{last_of}

at_end : (x : Entry) (xs : List Entry) → slice_get (x ∷ xs) (length xs) ≡ last_or (Some x) xs
at_end x [] = refl
at_end x (y ∷ ys) = at_end y ys

pub last_is : (xs : List Entry) → slice_get xs (length xs - 1) ≡ last_of xs
unfolding last_of
last_is [] = refl
last_is (x ∷ xs) = let one : length (x ∷ xs) - 1 ≡ length xs = omega arith in ap (λ i. slice_get (x ∷ xs) i) one ∙ at_end x xs
