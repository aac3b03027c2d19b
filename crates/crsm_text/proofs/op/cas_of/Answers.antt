use Rattle.std.proofs.Common.{◌≡◌, ◌++◌, ◌∷◌, ℕ, List, Option, codes, refl, arith}
use Rattle.std.proofs.lemmas.Result.{err_from_is_err_and}
use Rattle.hex.specs.Hex.{encode_lower, lower_digits}
use Rattle.crsm_text.specs.Words.{Lacks}
use Rattle.crsm_text.specs.Values.{option_text}
use Rattle.crsm_text.proofs.WordsLemmas.{Lacks-encode_lower, Lacks-test}
use Rattle.crsm_text.proofs.Texts.{Lacks-option_text, cas_parts}
use Rattle.crsm_text.proofs.op.cas_of.Goals as goal

lacks : (key : List ℕ) → Lacks 32 (encode_lower key)
lacks key = Lacks-encode_lower 32 key (omega arith) (Lacks-test 32 lower_digits refl)

lacks_option : (val : Option (List ℕ)) → Lacks 32 (option_text val)
lacks_option val = Lacks-option_text 32 val (omega arith) (Lacks-test 32 lower_digits refl) (Lacks-test 32 (codes "empty") refl) (Lacks-test 32 (codes "none") refl)

pub returns-in_default-clause-only : goal.returns-in_default-clause-only
returns-in_default-clause-only c = λ op fits bytes e.
    let p = cas_parts c.args.text.now op fits bytes e in
    absurd (c.in_default.ensures.only (encode_lower p.key) (option_text p.expected ++ 32 ∷ option_text p.new) (lacks p.key) p.split)

pub returns-in_default-split_field-clause-only : goal.returns-in_default-split_field-clause-only
returns-in_default-split_field-clause-only c = λ op fits bytes e.
    let p = cas_parts c.args.text.now op fits bytes e in
    let s = c.in-Some.ensures.only (encode_lower p.key) (option_text p.expected ++ 32 ∷ option_text p.new) (lacks p.key) p.split in
    absurd (c.in_default-split_field.ensures.only (option_text p.expected) (option_text p.new) (lacks_option p.expected) s.1)

pub returns-in_err-key-clause-only : goal.returns-in_err-key-clause-only
returns-in_err-key-clause-only c = λ op fits bytes e.
    let p = cas_parts c.args.text.now op fits bytes e in
    let s = c.in-Some.ensures.only (encode_lower p.key) (option_text p.expected ++ 32 ∷ option_text p.new) (lacks p.key) p.split in
    let k = c.in_err-key.ensures.only p.key p.fits_key p.key_bytes s.0 in
    let r = err_from_is_err_and c.from_residual.result c.from_residual.ensures.1 in rw (r.1, r.2) k

pub returns-in_err-expected-clause-only : goal.returns-in_err-expected-clause-only
returns-in_err-expected-clause-only c = λ op fits bytes e.
    let p = cas_parts c.args.text.now op fits bytes e in
    let s = c.in-Some.ensures.only (encode_lower p.key) (option_text p.expected ++ 32 ∷ option_text p.new) (lacks p.key) p.split in
    let t = c.in-Some-split_field.ensures.only (option_text p.expected) (option_text p.new) (lacks_option p.expected) s.1 in
    let k = c.in_err-expected.ensures.only p.expected p.fits_expected p.expected_bytes t.0 in
    let r = err_from_is_err_and c.from_residual-in_err-expected.result c.from_residual-in_err-expected.ensures.1 in rw (r.1, r.2) k

pub returns-in_err-new-clause-only : goal.returns-in_err-new-clause-only
returns-in_err-new-clause-only c = λ op fits bytes e.
    let p = cas_parts c.args.text.now op fits bytes e in
    let s = c.in-Some.ensures.only (encode_lower p.key) (option_text p.expected ++ 32 ∷ option_text p.new) (lacks p.key) p.split in
    let t = c.in-Some-split_field.ensures.only (option_text p.expected) (option_text p.new) (lacks_option p.expected) s.1 in
    let k = c.in_err-new.ensures.only p.new p.fits_new p.new_bytes t.1 in
    let r = err_from_is_err_and c.from_residual-in_err-new.result c.from_residual-in_err-new.ensures.1 in rw (r.1, r.2) k

pub returns-clause-only : goal.returns-clause-only
returns-clause-only c = λ op fits bytes e.
    let p = cas_parts c.args.text.now op fits bytes e in
    let s = c.in-Some.ensures.only (encode_lower p.key) (option_text p.expected ++ 32 ∷ option_text p.new) (lacks p.key) p.split in
    let t = c.in-Some-split_field.ensures.only (option_text p.expected) (option_text p.new) (lacks_option p.expected) s.1 in
    let k : c.in_ok-key.key ≡ p.key = c.in_ok-key.ensures.only p.key p.fits_key p.key_bytes s.0 in
    let x : c.in_ok-expected.expected ≡ p.expected = c.in_ok-expected.ensures.only p.expected p.fits_expected p.expected_bytes t.0 in
    let n : c.in_ok-new.new ≡ p.new = c.in_ok-new.ensures.only p.new p.fits_new p.new_bytes t.1 in
    let is = p.is in cc
