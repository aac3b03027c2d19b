-- The digits of numbers and of bytes, one after another.
use Rattle.std.proofs.Common.{◌≡◌, ℕ, suc, ◌+◌, ◌-◌, ◌*◌, ◌/◌, ◌%◌, ◌^◌, ◌<◌, List, [], ◌∷◌, ◌++◌, decimal, length, get_or, take, drop, refl, sym, ap, ◌∙◌, arith}
use Rattle.std.proofs.lemmas.Fmt.{decimal_digit, decimal_step}
use Rattle.std.proofs.lemmas.List.{take_more, take_all}
use Rattle.std.specs.Prelude.{slice_index}
use Rattle.hex.specs.Hex.{encode_with, encode_lower, lower_digits}

-- the items behind the first
pub behind_first : (xs : List ℕ) (i : ℕ) → i < length (take (length xs - 1) (drop 1 xs)) → get_or (take (length xs - 1) (drop 1 xs)) i 0 ≡ get_or xs (i + 1) 0
behind_first [] i within = absurd (omega arith)
behind_first (x ∷ xs) i within =
    let next : i + 1 ≡ suc i = omega arith in
    let whole : take (length (x ∷ xs) - 1) xs ≡ xs = take_all (length (x ∷ xs) - 1) xs (omega arith) in
    ap (λ ys. get_or ys i 0) whole ∙ ap (λ n. get_or (x ∷ xs) n 0) (sym next)

-- a word of one digit
pub one_digit : (xs : List ℕ) (n : ℕ) → length xs ≡ 1 → get_or xs 0 0 ≡ 48 + n → n < 10 → xs ≡ decimal n
one_digit [] n len is small = absurd (omega arith)
one_digit (x ∷ []) n len is small = ap (λ y. y ∷ []) is ∙ sym (decimal_digit n small)
one_digit (x ∷ y ∷ ys) n len is small = absurd (omega arith)

-- the first digit of a word
pub first_digit : (xs : List ℕ) (n : ℕ) → 0 < length xs → get_or xs 0 0 ≡ 48 + n → n < 10 → take 1 xs ≡ decimal n
first_digit [] n some is small = absurd (omega arith)
first_digit (x ∷ xs) n some is small = ap (λ y. y ∷ []) is ∙ sym (decimal_digit n small)

-- one digit more
pub next_digit : (xs : List ℕ) (i n d : ℕ) → i < length xs → get_or xs i 0 ≡ 48 + d → d < 10 → 0 < n → n * 10 + d < 2 ^ 64 → take i xs ≡ decimal n → take (i + 1) xs ≡ decimal (n * 10 + d)
next_digit xs i n d within is small some fits prefix =
    let tens : (n * 10 + d) / 10 ≡ n = omega (arith, small) in
    let ones : (n * 10 + d) % 10 ≡ d = omega (arith, small) in
    take_more xs i 0 within ∙ ap (λ ys. ys ++ get_or xs i 0 ∷ []) prefix ∙ ap (λ y. decimal n ++ y ∷ []) is
    ∙ ap (λ m. decimal m ++ (48 + d) ∷ []) (sym tens) ∙ ap (λ m. decimal ((n * 10 + d) / 10) ++ (48 + m) ∷ []) (sym ones)
    ∙ sym (decimal_step (n * 10 + d) (omega (arith, some)) fits)

-- the digits of the first bytes are the first digits
pub encode_take : (bytes rest : List ℕ) → take (2 * length bytes) (encode_lower (bytes ++ rest)) ≡ encode_lower bytes
unfolding encode_with
encode_take [] rest = refl
encode_take (b ∷ bytes) rest =
    let two : 2 * length (b ∷ bytes) ≡ suc (suc (2 * length bytes)) = omega arith in
    ap (λ n. take n (encode_lower (b ∷ bytes ++ rest))) two
    ∙ ap (λ (s : List ℕ). slice_index lower_digits (b / 16) ∷ slice_index lower_digits (b % 16) ∷ s) (encode_take bytes rest)
