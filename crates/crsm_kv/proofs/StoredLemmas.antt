-- Where the heads of two keys differ, the keys are ordered as these.
use Rattle.std.proofs.Common.{◌≡◌, ◌<◌, ◌≤◌, ◌+◌, ◌*◌, ◌∙◌, ℕ, zero, suc, Bool, true, false, cond, ltb, eqb, List, [], ◌∷◌, drop, get_or, refl, ap, sym, subst, arith}
use Rattle.std.proofs.Common.{Less, Equal, Greater}
use Rattle.std.specs.Ordering.{nat_cmp, ordering_then, ordering_reverse}
use Rattle.std.specs.Cmp.Lexicographic.{slice_cmp, nat_list_cmp_total}
use Rattle.std.proofs.lemmas.Bool.{ltb-false, eqb-false}
use Rattle.std.proofs.lemmas.Bool.Decides.{Decides-eqb}
use Rattle.crsm_kv.specs.Stored.{head_from, head_of, AreBytes}

-- a lesser head stays less, whatever bytes follow
lesser_stays : (a b n : ℕ) (xs ys : List ℕ) → a < b → AreBytes xs → head_from a n xs < head_from b n ys
unfolding head_from
lesser_stays a b zero xs ys less bytes = less
lesser_stays a b (suc n) [] [] less bytes = lesser_stays (a * 256) (b * 256) n [] [] (omega (arith, less)) bytes
lesser_stays a b (suc n) [] (y ∷ ys) less bytes = lesser_stays (a * 256) (b * 256 + y) n [] ys (omega (arith, less)) bytes
lesser_stays a b (suc n) (x ∷ xs) [] less bytes = lesser_stays (a * 256 + x) (b * 256) n xs [] (omega (arith, less, bytes 0)) (λ i. bytes (suc i))
lesser_stays a b (suc n) (x ∷ xs) (y ∷ ys) less bytes = lesser_stays (a * 256 + x) (b * 256 + y) n xs ys (omega (arith, less, bytes 0)) (λ i. bytes (suc i))

-- zeros are the least bytes
zeros_least : (a b n : ℕ) (ys : List ℕ) → a ≤ b → head_from a n [] ≤ head_from b n ys
unfolding head_from
zeros_least a b zero ys most = most
zeros_least a b (suc n) [] most = zeros_least (a * 256) (b * 256) n [] (omega (arith, most))
zeros_least a b (suc n) (y ∷ ys) most = zeros_least (a * 256) (b * 256 + y) n ys (omega (arith, most))

by_first : (lower same : Bool) (a n x y : ℕ) (xs ys : List ℕ) → ltb x y ≡ lower → eqb x y ≡ same → AreBytes (x ∷ xs) → AreBytes (y ∷ ys)
    → head_from (a * 256 + x) n xs < head_from (a * 256 + y) n ys
    → (head_from (a * 256 + x) n xs < head_from (a * 256 + x) n ys → slice_cmp nat_cmp xs ys ≡ Less)
    → ordering_then (cond lower Less (cond same Equal Greater)) (slice_cmp nat_cmp xs ys) ≡ Less
by_first true same a n x y xs ys l s first second less rest = refl
by_first false true a n x y xs ys l s first second less rest =
    rest (subst (λ z. head_from (a * 256 + x) n xs < head_from (a * 256 + z) n ys) (sym ((Decides-eqb x y).0 s)) less)
by_first false false a n x y xs ys l s first second less rest =
    let above : y < x = omega (arith, ltb-false x y l, eqb-false x y s) in
    absurd (omega (arith, less, lesser_stays (a * 256 + y) (a * 256 + x) n ys xs (omega (arith, above)) (λ i. second (suc i))))

pub by_heads : (a n : ℕ) (xs ys : List ℕ) → AreBytes xs → AreBytes ys → head_from a n xs < head_from a n ys → slice_cmp nat_cmp xs ys ≡ Less
unfolding head_from
by_heads a zero xs ys first second less = absurd (omega (arith, less))
by_heads a (suc n) [] [] first second less = absurd (omega (arith, less))
by_heads a (suc n) [] (y ∷ ys) first second less = refl
by_heads a (suc n) (x ∷ xs) [] first second less = absurd (omega (arith, less, zeros_least (a * 256) (a * 256 + x) n xs (omega arith)))
by_heads a (suc n) (x ∷ xs) (y ∷ ys) first second less =
    by_first (ltb x y) (eqb x y) a n x y xs ys refl refl first second less (by_heads (a * 256 + x) n xs ys (λ i. first (suc i)) (λ i. second (suc i)))

pub by_heads_back : (xs ys : List ℕ) → AreBytes xs → AreBytes ys → head_of ys < head_of xs → slice_cmp nat_cmp xs ys ≡ Greater
by_heads_back xs ys first second less = nat_list_cmp_total.antisymm xs ys ∙ ap ordering_reverse (by_heads 0 8 ys xs second first less)

-- one more byte
next_byte : (a n i : ℕ) (xs : List ℕ) → head_from a (suc n) (drop i xs) ≡ head_from (a * 256 + get_or xs i 0) n (drop (suc i) xs)
unfolding head_from
next_byte a n zero [] = ap (λ b. head_from b n []) (omega arith)
next_byte a n zero (x ∷ xs) = refl
next_byte a n (suc i) [] = ap (λ b. head_from b n []) (omega arith)
next_byte a n (suc i) (x ∷ xs) = next_byte a n i xs

pub spelled : (xs : List ℕ) → head_of xs ≡ (((((((get_or xs 0 0 * 256 + get_or xs 1 0) * 256 + get_or xs 2 0) * 256 + get_or xs 3 0) * 256 + get_or xs 4 0) * 256 + get_or xs 5 0) * 256 + get_or xs 6 0) * 256 + get_or xs 7 0)
unfolding head_from
spelled xs =
    next_byte 0 7 0 xs ∙ next_byte _ 6 1 xs ∙ next_byte _ 5 2 xs ∙ next_byte _ 4 3 xs ∙ next_byte _ 3 4 xs ∙ next_byte _ 2 5 xs ∙ next_byte _ 1 6 xs ∙ next_byte _ 0 7 xs
    ∙ omega arith
