-- Texts have no line feed, have bounded lengths, and differ for different values.
use Rattle.std.proofs.Common.{◌≡◌, ◌≢◌, ℕ, ◌+◌, ◌*◌, ◌%◌, ◌^◌, ◌<◌, ◌≤◌, List, [], ◌∷◌, ◌++◌, Option, Some, None, length, get_or, codes, decimal, map, refl, ap, sym, ◌∙◌, arith, length-append, append_assoc}
use Rattle.std.specs.List.{AllByRecursion, join_with_byte}
use Rattle.std.proofs.lemmas.Fmt.{length-decimal-le, decimal_injective, decimal_by_steps}
use Rattle.hex.specs.Hex.{encode_lower, lower_digits, decode_of, IsBytes}
use Rattle.hex.proofs.HexLemmas.{length-encode_with, decode_of-encode_lower, decode_of-same}
use Rattle.crsm_base.specs.declared.Op.{Op}
use Rattle.crsm_base.specs.declared.Op.TheVariants.{Get, Put, Delete, Cas}
use Rattle.crsm_base.specs.Spelling.{FitsVal, FitsOption, FitsOp}
use Rattle.crsm_text.specs.Words.{Lacks, spaced, commas}
use Rattle.crsm_text.specs.Values.{value_text, option_text, op_text, HasBytes}
use Rattle.crsm_text.proofs.WordsLemmas.{Lacks-append, Lacks-test, Lacks-decimal, Lacks-encode_lower, split_unique, lacks_not}
use Rattle.crsm_text.proofs.Commas.{Fit}
use Rattle.crsm_text.proofs.Texts.{Lacks-value_text, Lacks-option_text, value_text_is_empty, option_text_is_none}

-- ---- no line feed

pub Lacks-join : (c separator : ℕ) (words : List (List ℕ)) → separator ≢ c → AllByRecursion (Lacks c) words → Lacks c (join_with_byte separator words)
Lacks-join c separator [] other all = tt
Lacks-join c separator (x ∷ []) other all = all.0
Lacks-join c separator (x ∷ y ∷ xs) other all =
    Lacks-append c x (separator ∷ join_with_byte separator (y ∷ xs)) all.0 (other, Lacks-join c separator (y ∷ xs) other all.1)

pub no_feed_decimal : (n : ℕ) → n < 2 ^ 64 → Lacks 10 (decimal n)
no_feed_decimal n fits = Lacks-decimal 10 n (omega arith) fits

pub no_feed_hex : (bytes : List ℕ) → Lacks 10 (encode_lower bytes)
no_feed_hex bytes = Lacks-encode_lower 10 bytes (omega arith) (Lacks-test 10 lower_digits refl)

pub no_feed_option : (val : Option (List ℕ)) → Lacks 10 (option_text val)
no_feed_option val = Lacks-option_text 10 val (omega arith) (Lacks-test 10 lower_digits refl) (Lacks-test 10 (codes "empty") refl) (Lacks-test 10 (codes "none") refl)

no_feed_value : (val : List ℕ) → Lacks 10 (value_text val)
no_feed_value val = Lacks-value_text 10 val (omega arith) (Lacks-test 10 lower_digits refl) (Lacks-test 10 (codes "empty") refl)

decimals_lack : (ns : List ℕ) → Fit ns → AllByRecursion (Lacks 10) (map decimal ns)
decimals_lack [] fit = tt
decimals_lack (n ∷ ns) fit = (no_feed_decimal n fit.0, decimals_lack ns fit.1)

pub no_feed_commas : (ns : List ℕ) → Fit ns → Lacks 10 (commas ns)
no_feed_commas ns fit = Lacks-join 10 44 (map decimal ns) (λ e. absurd (omega (arith, e))) (decimals_lack ns fit)

pub no_feed_spaced : (words : List (List ℕ)) → AllByRecursion (Lacks 10) words → Lacks 10 (spaced words)
no_feed_spaced words all = Lacks-join 10 32 words (λ e. absurd (omega (arith, e))) all

pub no_feed_op : (op : Op) → Lacks 10 (op_text op)
no_feed_op (Get key) = no_feed_spaced (codes "get" ∷ encode_lower key ∷ []) (Lacks-test 10 (codes "get") refl, (no_feed_hex key, tt))
no_feed_op (Put key val) =
    no_feed_spaced (codes "put" ∷ encode_lower key ∷ value_text val ∷ []) (Lacks-test 10 (codes "put") refl, (no_feed_hex key, (no_feed_value val, tt)))
no_feed_op (Delete key) = no_feed_spaced (codes "del" ∷ encode_lower key ∷ []) (Lacks-test 10 (codes "del") refl, (no_feed_hex key, tt))
no_feed_op (Cas key expected new) =
    no_feed_spaced (codes "cas" ∷ encode_lower key ∷ option_text expected ∷ option_text new ∷ [])
    (Lacks-test 10 (codes "cas") refl, (no_feed_hex key, (no_feed_option expected, (no_feed_option new, tt))))

-- ---- lengths

pub length-decimal : (n : ℕ) → n < 2 ^ 64 → length (decimal n) ≤ 20
length-decimal n fits = length-decimal-le 20 n (omega arith) (omega arith) fits

pub length-hex : (bytes : List ℕ) → length (encode_lower bytes) ≡ 2 * length bytes
length-hex bytes = length-encode_with lower_digits bytes

-- two words and what is between them
pub length-two : (c : ℕ) (x y : List ℕ) → length (x ++ c ∷ y) ≡ length x + 1 + length y
length-two c x y = let a = length-append x (c ∷ y) in omega (arith, a)

pub length-commas : (ns : List ℕ) → Fit ns → length (commas ns) ≤ 21 * length ns
length-commas [] fit = omega arith
length-commas (n ∷ []) fit = let d = length-decimal n fit.0 in omega (arith, d)
length-commas (n ∷ m ∷ ns) fit =
    let d = length-decimal n fit.0 in
    let rest = length-commas (m ∷ ns) fit.1 in
    let a = length-two 44 (decimal n) (commas (m ∷ ns)) in
    omega (arith, d, rest, a)

length-value : (val : List ℕ) → length val ≤ 512 → length (value_text val) ≤ 1024
length-value [] short = omega arith
length-value (b ∷ bs) short = let e = length-hex (b ∷ bs) in omega (arith, e)

length-option : (val : Option (List ℕ)) → FitsOption FitsVal val → length (option_text val) ≤ 1024
length-option None fits = omega arith
length-option (Some val) fits = length-value val fits.most

pub length-op : (op : Op) → FitsOp op → length (op_text op) ≤ 2200
length-op (Get key) fits = let e = length-hex key in let s = fits.most in omega (arith, e, s)
length-op (Put key val) fits =
    let e = length-hex key in
    let s = fits.0.most in
    let v = length-value val fits.1.most in
    let a = length-two 32 (encode_lower key) (value_text val) in
    omega (arith, e, s, v, a)
length-op (Delete key) fits = let e = length-hex key in let s = fits.most in omega (arith, e, s)
length-op (Cas key expected new) fits =
    let e = length-hex key in
    let s = fits.0.most in
    let v = length-option expected fits.1 in
    let w = length-option new fits.2 in
    let a = length-two 32 (encode_lower key) (option_text expected ++ 32 ∷ option_text new) in
    let b = length-two 32 (option_text expected) (option_text new) in
    omega (arith, e, s, v, w, a, b)

-- ---- one value for each text

pub hex_injective : (a b : List ℕ) → IsBytes a → IsBytes b → encode_lower a ≡ encode_lower b → a ≡ b
hex_injective a b are are_too e =
    decode_of-same (encode_lower b) a b (ap decode_of (sym e) ∙ decode_of-encode_lower a are) (decode_of-encode_lower b are_too)

value_injective : (a b : List ℕ) → IsBytes a → IsBytes b → value_text a ≡ value_text b → a ≡ b
value_injective [] b are are_too e = sym (value_text_is_empty b e)
value_injective (x ∷ a) [] are are_too e = value_text_is_empty (x ∷ a) (sym e)
value_injective (x ∷ a) (y ∷ b) are are_too e = hex_injective (x ∷ a) (y ∷ b) are are_too e

option_injective : (a b : Option (List ℕ)) → FitsOption IsBytes a → FitsOption IsBytes b → option_text a ≡ option_text b → a ≡ b
option_injective None b are are_too e = sym (option_text_is_none b e)
option_injective (Some a) None are are_too e = option_text_is_none (Some a) (sym e)
option_injective (Some a) (Some b) are are_too e = ap (λ (v : List ℕ). Some v) (value_injective a b are are_too e)

no_space_hex : (bytes : List ℕ) → Lacks 32 (encode_lower bytes)
no_space_hex bytes = Lacks-encode_lower 32 bytes (omega arith) (Lacks-test 32 lower_digits refl)

no_space_option : (val : Option (List ℕ)) → Lacks 32 (option_text val)
no_space_option val = Lacks-option_text 32 val (omega arith) (Lacks-test 32 lower_digits refl) (Lacks-test 32 (codes "empty") refl) (Lacks-test 32 (codes "none") refl)

pub no_space_decimal : (n : ℕ) → n < 2 ^ 64 → Lacks 32 (decimal n)
no_space_decimal n fits = Lacks-decimal 32 n (omega arith) fits

-- a number before a space
pub decimal_split : (m n : ℕ) (x y : List ℕ) → m < 2 ^ 64 → n < 2 ^ 64 → decimal m ++ 32 ∷ x ≡ decimal n ++ 32 ∷ y → (m ≡ n) × (x ≡ y)
decimal_split m n x y fits fits_too e =
    let s = split_unique 32 (decimal m) (decimal n) x y (no_space_decimal m fits) (no_space_decimal n fits_too) e in
    (decimal_injective m n fits fits_too s.0, s.1)

pub commas_injective : (ms ns : List ℕ) → Fit ms → Fit ns → 1 ≤ length ms → 1 ≤ length ns → commas ms ≡ commas ns → ms ≡ ns
commas_injective [] ns fit fit_too some some_too e = absurd (omega (arith, some))
commas_injective (m ∷ ms) [] fit fit_too some some_too e = absurd (omega (arith, some_too))
commas_injective (m ∷ []) (n ∷ []) fit fit_too some some_too e = ap (λ (k : ℕ). k ∷ []) (decimal_injective m n fit.0 fit_too.0 e)
commas_injective (m ∷ []) (n ∷ l ∷ ns) fit fit_too some some_too e =
    absurd (lacks_not 44 (decimal m) (decimal n) (commas (l ∷ ns)) (Lacks-decimal 44 m (omega arith) fit.0) e)
commas_injective (m ∷ k ∷ ms) (n ∷ []) fit fit_too some some_too e =
    absurd (lacks_not 44 (decimal n) (decimal m) (commas (k ∷ ms)) (Lacks-decimal 44 n (omega arith) fit_too.0) (sym e))
commas_injective (m ∷ k ∷ ms) (n ∷ l ∷ ns) fit fit_too some some_too e =
    let s = split_unique 44 (decimal m) (decimal n) (commas (k ∷ ms)) (commas (l ∷ ns)) (Lacks-decimal 44 m (omega arith) fit.0) (Lacks-decimal 44 n (omega arith) fit_too.0) e in
    let first : m ≡ n = decimal_injective m n fit.0 fit_too.0 s.0 in
    let rest : k ∷ ms ≡ l ∷ ns = commas_injective (k ∷ ms) (l ∷ ns) fit.1 fit_too.1 (omega arith) (omega arith) s.1 in
    cc

pub op_injective : (a b : Op) → HasBytes a → HasBytes b → op_text a ≡ op_text b → a ≡ b
op_injective (Get k) (Get l) are are_too e = let same : k ≡ l = hex_injective k l are are_too (cc) in cc
op_injective (Delete k) (Delete l) are are_too e = let same : k ≡ l = hex_injective k l are are_too (cc) in cc
op_injective (Put k v) (Put l w) are are_too e =
    let s = split_unique 32 (encode_lower k) (encode_lower l) (value_text v) (value_text w) (no_space_hex k) (no_space_hex l) (cc) in
    let keys : k ≡ l = hex_injective k l are.0 are_too.0 s.0 in
    let vals : v ≡ w = value_injective v w are.1 are_too.1 s.1 in
    cc
op_injective (Cas k v x) (Cas l w y) are are_too e =
    let s = split_unique 32 (encode_lower k) (encode_lower l) (option_text v ++ 32 ∷ option_text x) (option_text w ++ 32 ∷ option_text y) (no_space_hex k) (no_space_hex l) (cc) in
    let t = split_unique 32 (option_text v) (option_text w) (option_text x) (option_text y) (no_space_option v) (no_space_option w) s.1 in
    let keys : k ≡ l = hex_injective k l are.0 are_too.0 s.0 in
    let expected : v ≡ w = option_injective v w are.1 are_too.1 t.0 in
    let new : x ≡ y = option_injective x y are.2 are_too.2 t.1 in
    cc
op_injective a b are are_too e =
    let first : get_or (op_text a) 0 0 ≡ get_or (op_text b) 0 0 = ap (λ (s : List ℕ). get_or s 0 0) e in
    absurd (omega (arith, first))

-- a number begins with a digit
pub first_digit : (n : ℕ) (rest : List ℕ) → n < 2 ^ 64 → (48 ≤ get_or (decimal n ++ rest) 0 0) × (get_or (decimal n ++ rest) 0 0 ≤ 57)
first_digit n rest fits = decimal_by_steps (λ _ ds. (rest : List ℕ) → (48 ≤ get_or (ds ++ rest) 0 0) × (get_or (ds ++ rest) 0 0 ≤ 57))
    (λ m small rest. (omega arith, omega arith))
    (λ m ds big p rest. rw append_assoc (p ((48 + m % 10) ∷ rest)))
    n fits rest
