-- Numbers and words that are written into a row one after another.
use Rattle.std.proofs.Common.{◌≡◌, ◌≤◌, ◌<◌, ◌+◌, ◌/◌, ◌%◌, ◌^◌, ◌++◌, ◌∷◌, [], ℕ, List, decimal, length, take, drop, arith, ap, ◌∙◌}
use Rattle.std.proofs.lemmas.Fmt.{decimal_digit, decimal_step}
use Rattle.std.proofs.lemmas.List.{length-append}
use Rattle.std.proofs.Math.Seq.{take-add, take-append_seam}

-- one digit more
longer : (n : ℕ) → 10 ≤ n → n < 2 ^ 64 → length (decimal n) ≡ length (decimal (n / 10)) + 1
longer n more fits = ap length (decimal_step n (omega (arith, more)) fits) ∙ length-append (decimal (n / 10)) ((48 + n % 10) ∷ [])

pub one_digit_long : (n : ℕ) → n < 10 → length (decimal n) ≡ 1
one_digit_long n small = ap length (decimal_digit n small)

pub two_digits_long : (n : ℕ) → 10 ≤ n → n < 100 → length (decimal n) ≡ 2
two_digits_long n more less =
    let step = longer n more (omega (arith, less)) in
    let rest = one_digit_long (n / 10) (omega (arith, less)) in
    omega (arith, step, rest)

pub three_digits_long : (n : ℕ) → 100 ≤ n → n < 1000 → length (decimal n) ≡ 3
three_digits_long n more less =
    let step = longer n (omega (arith, more)) (omega (arith, less)) in
    let rest = two_digits_long (n / 10) (omega (arith, more)) (omega (arith, less)) in
    omega (arith, step, rest)

pub four_digits_long : (n : ℕ) → 1000 ≤ n → n < 10000 → length (decimal n) ≡ 4
four_digits_long n more less =
    let step = longer n (omega (arith, more)) (omega (arith, less)) in
    let rest = three_digits_long (n / 10) (omega (arith, more)) (omega (arith, less)) in
    omega (arith, step, rest)

-- four digits more
pub four_longer : (n : ℕ) → 10000 ≤ n → n < 2 ^ 64 → length (decimal n) ≡ length (decimal (n / 10000)) + 4
four_longer n more fits =
    let same : n / 10 / 10 / 10 / 10 ≡ n / 10000 = omega arith in
    let one = longer n (omega (arith, more)) fits in
    let two = longer (n / 10) (omega (arith, more)) (omega (arith, fits)) in
    let three = longer (n / 10 / 10) (omega (arith, more)) (omega (arith, fits)) in
    let four = longer (n / 10 / 10 / 10) (omega (arith, more)) (omega (arith, fits)) in
    let last : length (decimal (n / 10 / 10 / 10 / 10)) ≡ length (decimal (n / 10000)) = ap (λ m. length (decimal m)) same in
    omega (arith, one, two, three, four, last)

-- what was written at this place stands behind what stood before it
pub grown : (old new text rest : List ℕ) (at : ℕ) → take at new ≡ take at old → drop at new ≡ text ++ rest → take (at + length text) new ≡ take at old ++ text
grown old new text rest at before behind =
    take-add at (length text) new ∙ ap (λ s. take at new ++ take (length text) s) behind
    ∙ ap (λ s. take at new ++ s) (take-append_seam text rest) ∙ ap (λ s. s ++ text) before
