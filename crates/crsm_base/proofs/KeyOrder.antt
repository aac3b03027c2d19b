-- Keys compare as the bytes of the store's rows do.
use Rattle.std.proofs.Common.{◌≡◌, ℕ, Bool, true, false, cond, ltb, eqb, ◌&&◌, ◌||◌, List, [], ◌∷◌, refl}
use Rattle.std.proofs.Common.{Ordering, Less, Equal, Greater}
use Rattle.std.specs.Ordering.{is_lt, nat_cmp, ordering_then}
use Rattle.std.specs.Cmp.Lexicographic.{slice_cmp}
use Rattle.crsm_base.specs.Store.{bytes_lt}

then_later : (less same : Bool) (r : Ordering) (later : Bool) → is_lt r ≡ later → is_lt (ordering_then (cond less Less (cond same Equal Greater)) r) ≡ (less || (same && later))
then_later true same r later e = refl
then_later false true r later e = e
then_later false false r later e = refl

pub slice_cmp-bytes_lt : (a b : List ℕ) → is_lt (slice_cmp nat_cmp a b) ≡ bytes_lt a b
unfolding bytes_lt
slice_cmp-bytes_lt [] [] = refl
slice_cmp-bytes_lt [] (y ∷ ys) = refl
slice_cmp-bytes_lt (x ∷ xs) [] = refl
slice_cmp-bytes_lt (x ∷ xs) (y ∷ ys) = then_later (ltb x y) (eqb x y) (slice_cmp nat_cmp xs ys) (bytes_lt xs ys) (slice_cmp-bytes_lt xs ys)
