-- Hexadecimal digits without capitals.
use Rattle.std.proofs.Common.{◌≡◌, ℕ, zero, suc, ◌+◌, ◌*◌, ◌/◌, ◌%◌, ◌<◌, ◌∷◌, [], List, false, if◌then◌else◌, nat_le, slice_index, Option, Some, None, Result, Ok, Err, refl, sym, ap, ◌∙◌, arith}
use Rattle.std.specs.Result.{result_unwrap_or}
use Rattle.std.proofs.lemmas.Bool.{or_parts}
use Rattle.std.specs.Char.{is_ascii_uppercase}
use Rattle.std.specs.List.{list_any}
use Rattle.hex.specs.Hex.{decode_of, decode_pairs, digit_or_error, encode_lower, encode_with, hex_digit_value, lower_digits, pair_value, value_at, ◌>>=◌}
use Rattle.hex.specs.declared.error.FromHexError.{FromHexError}
use Rattle.hex.proofs.HexLemmas.{IsDigits-lower_digits, decode_of-ok, decode_of-even}

-- what stands at a place of a text without capitals, or behind its end, is no capital
no_capital_at : (text : List ℕ) (i : ℕ) → list_any is_ascii_uppercase text ≡ false → is_ascii_uppercase (slice_index text i) ≡ false
no_capital_at [] i none = refl
no_capital_at (c ∷ rest) zero none = (or_parts (is_ascii_uppercase c) (list_any is_ascii_uppercase rest) none).0
no_capital_at (c ∷ rest) (suc i) none = no_capital_at rest i (or_parts (is_ascii_uppercase c) (list_any is_ascii_uppercase rest) none).1

lower_has_none : (d : ℕ) → is_ascii_uppercase (slice_index lower_digits d) ≡ false
lower_has_none d = no_capital_at lower_digits d refl

pub encode_lower-no_capitals : (bytes : List ℕ) → list_any is_ascii_uppercase (encode_lower bytes) ≡ false
unfolding encode_with
encode_lower-no_capitals [] = refl
encode_lower-no_capitals (b ∷ rest) =
    let high = lower_has_none (b / 16) in
    let low = lower_has_none (b % 16) in
    let others = encode_lower-no_capitals rest in
    rw (high, low, others) refl

-- the lower-case digit of a value
abbrev lower : ℕ → ℕ
lower v = if nat_le 10 v then v + 87 else v + 48

no_capital_is : (c v : ℕ) → hex_digit_value c ≡ Some v → is_ascii_uppercase c ≡ false → c ≡ lower v
no_capital_is c v value none = grind (arith)

small : (c v : ℕ) → hex_digit_value c ≡ Some v → v < 16
small c v h = grind (arith)

-- the value of a digit that read
digit_read : (c i : ℕ) (o : Option ℕ) (v : ℕ) → digit_or_error c i o ≡ Ok v → o ≡ Some v
digit_read c i (Some w) v h = ap Some (ap (λ (r : Result ℕ FromHexError). result_unwrap_or r 0) h)
digit_read c i None v h = cc h

-- the digit of a value that a digit without capitals read
lower_digit : (c i v : ℕ) → value_at c i ≡ Ok v → is_ascii_uppercase c ≡ false → (c ≡ slice_index lower_digits v) × (v < 16)
lower_digit c i v read none =
    let value : hex_digit_value c ≡ Some v = digit_read c i (hex_digit_value c) v read in
    let below : v < 16 = small c v value in
    (no_capital_is c v value none ∙ sym (no_capital_is (slice_index lower_digits v) v (IsDigits-lower_digits v below) (lower_has_none v)), below)

bind_ok : {A B : Type 0} (r : Result A FromHexError) (f : A → Result B FromHexError) (y : B)
    → (r >>= f) ≡ Ok y → (x : A) × (r ≡ Ok x) × (f x ≡ Ok y)
bind_ok (Ok x) f y h = (x, refl, h)
bind_ok (Err e) f y h = cc h

pairs_lower : (i : ℕ) (text bytes : List ℕ) → decode_pairs i text ≡ Ok bytes
    → list_any is_ascii_uppercase text ≡ false → text ≡ encode_lower bytes
unfolding decode_pairs encode_with
pairs_lower i [] bytes h none =
    let e : [] ≡ bytes = ap (λ (r : Result (List ℕ) FromHexError). result_unwrap_or r []) h in
    rw (← e) refl
pairs_lower i (a ∷ []) bytes h none = cc h
pairs_lower i (a ∷ b ∷ rest) bytes h none =
    let pair = bind_ok (pair_value a b i) _ bytes h in
    let high = bind_ok (value_at a i) _ pair.0 pair.1 in
    let low = bind_ok (value_at b (i + 1)) _ pair.0 high.2 in
    let others = bind_ok (decode_pairs (i + 2) rest) _ bytes pair.2 in
    let whole : pair.0 ∷ others.0 ≡ bytes = ap (λ (r : Result (List ℕ) FromHexError). result_unwrap_or r []) others.2 in
    let byte : high.0 * 16 + low.0 ≡ pair.0 = ap (λ (r : Result ℕ FromHexError). result_unwrap_or r 0) low.2 in
    let none_a = or_parts (is_ascii_uppercase a) (list_any is_ascii_uppercase (b ∷ rest)) none in
    let none_b = or_parts (is_ascii_uppercase b) (list_any is_ascii_uppercase rest) none_a.1 in
    let first = lower_digit a i high.0 high.1 none_a.0 in
    let second = lower_digit b (i + 1) low.0 low.1 none_b.0 in
    let over : pair.0 / 16 ≡ high.0 = omega (arith, byte, first.1, second.1) in
    let under : pair.0 % 16 ≡ low.0 = omega (arith, byte, first.1, second.1) in
    let rest_is : rest ≡ encode_lower others.0 = pairs_lower (i + 2) rest others.0 others.1 none_b.1 in
    rw (← whole) (rw (over, under, ← first.0, ← second.0, ← rest_is) refl)

-- a text without capitals is the text of the bytes that it decodes to
pub decode_of-lower : (text bytes : List ℕ) → decode_of text ≡ Ok bytes → list_any is_ascii_uppercase text ≡ false → text ≡ encode_lower bytes
decode_of-lower text bytes read none =
    pairs_lower 0 text bytes (sym (decode_of-even text (decode_of-ok text bytes read).0) ∙ read) none
