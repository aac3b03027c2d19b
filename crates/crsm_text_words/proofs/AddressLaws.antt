-- Parts of addresses, and texts without a separator.
use Rattle.std.proofs.Common.{◌≡◌, ℕ, ◌+◌, ◌*◌, ◌/◌, ◌%◌, ◌^◌, ◌<◌, ◌≤◌, List, [], ◌∷◌, ◌++◌, refl, ap, sym, ◌∙◌, arith, decimal}
use Rattle.std.proofs.lemmas.Fmt.{decimal_by_steps}
use Rattle.crsm_text.specs.Words.{Lacks}
use Rattle.crsm_text.proofs.WordsLemmas.{Lacks-append, Lacks-decimal}
use Rattle.crsm_text_words.specs.declared.address.AddressParts.{AddressParts}
use Rattle.crsm_text_words.specs.Addresses.{AreParts, address_text, joined, parts_of, parts_text}

pub joined_below : (p : AddressParts) → AreParts p → joined p < 2 ^ 48
joined_below p are =
    let a = are.first in
    let b = are.second in
    let c = are.third in
    let d = are.fourth in
    let e = are.port in
    omega (arith, a, b, c, d, e)

pub joined_fits : (p : AddressParts) → AreParts p → ((p.first * 256 + p.second) * 256 + p.third) * 256 + p.fourth < 2 ^ 32
joined_fits p are =
    let a = are.first in
    let b = are.second in
    let c = are.third in
    let d = are.fourth in
    omega (arith, a, b, c, d)

pub parts_are : (a : ℕ) → a < 2 ^ 48 → AreParts (parts_of a)
parts_are a below = record { first = omega (arith, below); second = omega arith; third = omega arith; fourth = omega arith; port = omega arith }

-- the parts of an address make it
pub joined_parts : (a : ℕ) → a < 2 ^ 48 → joined (parts_of a) ≡ a
joined_parts a below = omega (arith, below)

-- and what parts make has them
pub parts_joined : (p : AddressParts) → AreParts p → parts_text p ≡ address_text (joined p)
parts_joined p are =
    let a = are.first in
    let b = are.second in
    let c = are.third in
    let d = are.fourth in
    let e = are.port in
    let first : joined p / 2 ^ 40 ≡ p.first = omega (arith, a, b, c, d, e) in
    let second : joined p / 2 ^ 32 % 256 ≡ p.second = omega (arith, a, b, c, d, e) in
    let third : joined p / 2 ^ 24 % 256 ≡ p.third = omega (arith, a, b, c, d, e) in
    let fourth : joined p / 2 ^ 16 % 256 ≡ p.fourth = omega (arith, a, b, c, d, e) in
    let port : joined p % 65536 ≡ p.port = omega (arith, a, b, c, d, e) in
    sym (rw (first, second, third, fourth, port) refl)

-- no number has a colon
pub lacks_colon : (n : ℕ) → n < 2 ^ 64 → Lacks 58 (decimal n)
lacks_colon n fits = decimal_by_steps (λ _ ds. Lacks 58 ds)
    (λ m small. (λ e. absurd (omega (arith, e, small)), tt))
    (λ m ds big p. Lacks-append 58 ds ((48 + m % 10) ∷ []) p (λ e. absurd (omega (arith, e)), tt))
    n fits

-- no address has a comma
pub lacks_comma : (a : ℕ) → a < 2 ^ 48 → Lacks 44 (address_text a)
lacks_comma a below =
    let are = parts_are a below in
    let p = parts_of a in
    let number : (n : ℕ) → n < 65536 → Lacks 44 (decimal n) = λ n small. Lacks-decimal 44 n (omega arith) (omega (arith, small)) in
    let first = are.first in
    let second = are.second in
    let third = are.third in
    let fourth = are.fourth in
    Lacks-append 44 (decimal p.first) _ (number p.first (omega (arith, first))) (
      λ e. absurd (omega (arith, e)),
      Lacks-append 44 (decimal p.second) _ (number p.second (omega (arith, second))) (
        λ e. absurd (omega (arith, e)),
        Lacks-append 44 (decimal p.third) _ (number p.third (omega (arith, third))) (
          λ e. absurd (omega (arith, e)),
          Lacks-append 44 (decimal p.fourth) _ (number p.fourth (omega (arith, fourth))) (λ e. absurd (omega (arith, e)), number p.port are.port),
        ),
      ),
    )
