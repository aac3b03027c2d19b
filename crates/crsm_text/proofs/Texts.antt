-- Texts of different values and operations differ.
use Rattle.std.proofs.Common.{◌≡◌, ◌≢◌, ℕ, ◌*◌, ◌<◌, List, [], ◌∷◌, ◌++◌, Option, Some, None, length, codes, refl, ap, sym, subst, arith, ◌∙◌}
use Rattle.hex.specs.Hex.{encode_lower, lower_digits, IsBytes}
use Rattle.hex.proofs.HexLemmas.{length-encode_with}
use Rattle.crsm_base.specs.declared.Op.{Op}
use Rattle.crsm_base.specs.declared.Op.TheVariants.{Get, Put, Delete, Cas}
use Rattle.crsm_base.specs.Spelling.{FitsKey, FitsVal, FitsOption, FitsOp}
use Rattle.crsm_text.specs.Words.{Lacks}
use Rattle.crsm_text.specs.Values.{value_text, option_text, op_text, HasBytes}
use Rattle.crsm_text.proofs.WordsLemmas.{Lacks-test, Lacks-encode_lower}

-- lists with other heads are not equal
pub heads_differ : (m n : ℕ) (xs ys : List ℕ) → m ≢ n → m ∷ xs ≢ n ∷ ys
heads_differ m n xs ys other e = other (cc)

-- hexadecimal digits come in pairs, so they never spell `empty`
pub value_text_is_empty : (val : List ℕ) → codes "empty" ≡ value_text val → val ≡ []
value_text_is_empty [] e = refl
value_text_is_empty (b ∷ bs) e =
    let long : 5 ≡ 2 * length (b ∷ bs) = ap length e ∙ length-encode_with lower_digits (b ∷ bs) in
    absurd (omega (arith, long))

-- any other text of a value is its digits
pub value_text_is_plain : (val word : List ℕ) → word ≢ codes "empty" → word ≡ value_text val → (0 < length val) × (word ≡ encode_lower val)
value_text_is_plain [] word other e = absurd (other e)
value_text_is_plain (b ∷ bs) word other e = (omega arith, e)

-- no digit is the first letter of `none`
pub option_text_is_none : (val : Option (List ℕ)) → codes "none" ≡ option_text val → val ≡ None
option_text_is_none None e = refl
option_text_is_none (Some []) e = absurd (heads_differ 110 101 _ _ (λ same. omega (arith, same)) e)
option_text_is_none (Some (b ∷ bs)) e =
    let lacks : Lacks 110 (encode_lower (b ∷ bs)) = Lacks-encode_lower 110 (b ∷ bs) (omega arith) (Lacks-test 110 lower_digits refl) in
    let there : Lacks 110 (codes "none") = subst (λ (xs : List ℕ). Lacks 110 xs) (sym e) lacks in
    absurd (there.0 refl)

pub Lacks-value_text : (c : ℕ) (val : List ℕ) → 0 < c → Lacks c lower_digits → Lacks c (codes "empty") → Lacks c (value_text val)
Lacks-value_text c [] pos digits word = word
Lacks-value_text c (b ∷ bs) pos digits word = Lacks-encode_lower c (b ∷ bs) pos digits

pub Lacks-option_text : (c : ℕ) (val : Option (List ℕ)) → 0 < c → Lacks c lower_digits → Lacks c (codes "empty") → Lacks c (codes "none") → Lacks c (option_text val)
Lacks-option_text c None pos digits empty none = none
Lacks-option_text c (Some val) pos digits empty none = Lacks-value_text c val pos digits empty

-- the parts of a put
pub record PutParts (text : List ℕ) (op : Op) : Type 0 where
  pub key : List ℕ
  pub val : List ℕ
  pub is : op ≡ Put key val
  pub fits_key : FitsKey key
  pub key_bytes : IsBytes key
  pub fits_val : FitsVal val
  pub val_bytes : IsBytes val
  pub split : text ≡ encode_lower key ++ 32 ∷ value_text val

pub put_parts : (text : List ℕ) (op : Op) → FitsOp op → HasBytes op → codes "put " ++ text ≡ op_text op → PutParts text op
put_parts text (Get key) fits bytes e = absurd (heads_differ 112 103 _ _ (λ same. omega (arith, same)) e)
put_parts text (Delete key) fits bytes e = absurd (heads_differ 112 100 _ _ (λ same. omega (arith, same)) e)
put_parts text (Cas key expected new) fits bytes e = absurd (heads_differ 112 99 _ _ (λ same. omega (arith, same)) e)
put_parts text (Put key val) fits bytes e =
    record { key = key; val = val; is = refl; fits_key = fits.0; key_bytes = bytes.0; fits_val = fits.1; val_bytes = bytes.1; split = cc }

-- the parts of a compare and set
pub record CasParts (text : List ℕ) (op : Op) : Type 0 where
  pub key : List ℕ
  pub expected : Option (List ℕ)
  pub new : Option (List ℕ)
  pub is : op ≡ Cas key expected new
  pub fits_key : FitsKey key
  pub key_bytes : IsBytes key
  pub fits_expected : FitsOption FitsVal expected
  pub expected_bytes : FitsOption IsBytes expected
  pub fits_new : FitsOption FitsVal new
  pub new_bytes : FitsOption IsBytes new
  pub split : text ≡ encode_lower key ++ 32 ∷ (option_text expected ++ 32 ∷ option_text new)

pub cas_parts : (text : List ℕ) (op : Op) → FitsOp op → HasBytes op → codes "cas " ++ text ≡ op_text op → CasParts text op
cas_parts text (Get key) fits bytes e = absurd (heads_differ 99 103 _ _ (λ same. omega (arith, same)) e)
cas_parts text (Delete key) fits bytes e = absurd (heads_differ 99 100 _ _ (λ same. omega (arith, same)) e)
cas_parts text (Put key val) fits bytes e = absurd (heads_differ 99 112 _ _ (λ same. omega (arith, same)) e)
cas_parts text (Cas key expected new) fits bytes e = record {
  key = key;
  expected = expected;
  new = new;
  is = refl;
  fits_key = fits.0;
  key_bytes = bytes.0;
  fits_expected = fits.1;
  expected_bytes = bytes.1;
  fits_new = fits.2;
  new_bytes = bytes.2;
  split = cc;
}
