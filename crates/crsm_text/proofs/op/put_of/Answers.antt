use Rattle.std.proofs.Common.{◌≡◌, ℕ, List, refl, arith}
use Rattle.std.proofs.lemmas.Result.{err_from_is_err_and}
use Rattle.hex.specs.Hex.{encode_lower, lower_digits}
use Rattle.crsm_text.specs.Words.{Lacks}
use Rattle.crsm_text.specs.Values.{value_text}
use Rattle.crsm_text.proofs.WordsLemmas.{Lacks-encode_lower, Lacks-test}
use Rattle.crsm_text.proofs.Texts.{put_parts}
use Rattle.crsm_text.proofs.op.put_of.Goals as goal

lacks : (key : List ℕ) → Lacks 32 (encode_lower key)
lacks key = Lacks-encode_lower 32 key (omega arith) (Lacks-test 32 lower_digits refl)

pub returns-in_default-clause-only : goal.returns-in_default-clause-only
returns-in_default-clause-only c = λ op fits bytes e.
    let p = put_parts c.args.text.now op fits bytes e in
    absurd (c.in_default.ensures.only (encode_lower p.key) (value_text p.val) (lacks p.key) p.split)

pub returns-in_err-key-clause-only : goal.returns-in_err-key-clause-only
returns-in_err-key-clause-only c = λ op fits bytes e.
    let p = put_parts c.args.text.now op fits bytes e in
    let s = c.in-Some.ensures.only (encode_lower p.key) (value_text p.val) (lacks p.key) p.split in
    let k = c.in_err-key.ensures.only p.key p.fits_key p.key_bytes s.0 in
    let r = err_from_is_err_and c.from_residual.result c.from_residual.ensures.1 in rw (r.1, r.2) k

pub returns-in_err-val-clause-only : goal.returns-in_err-val-clause-only
returns-in_err-val-clause-only c = λ op fits bytes e.
    let p = put_parts c.args.text.now op fits bytes e in
    let s = c.in-Some.ensures.only (encode_lower p.key) (value_text p.val) (lacks p.key) p.split in
    let v = c.in_err-val.ensures.only p.val p.fits_val p.val_bytes s.1 in
    let r = err_from_is_err_and c.from_residual-in_err-val.result c.from_residual-in_err-val.ensures.1 in rw (r.1, r.2) v

pub returns-clause-only : goal.returns-clause-only
returns-clause-only c = λ op fits bytes e.
    let p = put_parts c.args.text.now op fits bytes e in
    let s = c.in-Some.ensures.only (encode_lower p.key) (value_text p.val) (lacks p.key) p.split in
    let k : c.in_ok-key.key ≡ p.key = c.in_ok-key.ensures.only p.key p.fits_key p.key_bytes s.0 in
    let v : c.in_ok-val.val ≡ p.val = c.in_ok-val.ensures.only p.val p.fits_val p.val_bytes s.1 in
    let is = p.is in cc
