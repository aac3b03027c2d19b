use Rattle.std.proofs.Common.{◌≡◌, Ok, Err, ℕ, List, sym, ◌∙◌, ap, true, false, inl, inr}
use Rattle.std.specs.Char.{is_ascii_uppercase}
use Rattle.std.specs.List.{list_any}
use Rattle.hex.specs.Hex.{IsBytes, decode_of, encode_lower}
use Rattle.hex.proofs.HexLemmas.{decode_of-encode_lower, decode_of-ok}
use Rattle.crsm_text.proofs.Lower.{decode_of-lower, encode_lower-no_capitals}
use Rattle.crsm_text.proofs.value.hex_of.Goals as goal

decoded : (word bytes : List ℕ) → IsBytes bytes → word ≡ encode_lower bytes → decode_of word ≡ Ok bytes
decoded word bytes are e = ap decode_of e ∙ decode_of-encode_lower bytes are

pub returns-then-has_capitals-clause-only : goal.returns-then-has_capitals-clause-only
returns-then-has_capitals-clause-only c = λ bytes are e.
    let none : list_any is_ascii_uppercase c.args.word.now ≡ false = ap (list_any is_ascii_uppercase) e ∙ encode_lower-no_capitals bytes in
    let some : list_any is_ascii_uppercase c.args.word.now ≡ true = sym c.has_capitals.ensures ∙ c.if-has_capitals.true in
    absurd (cc (sym none ∙ some))

pub returns-in-Ok-clause-found : goal.returns-in-Ok-clause-found
returns-in-Ok-clause-found c =
    let read : decode_of c.args.word.now ≡ Ok c.in-Ok.bytes.items = c.in-Ok.ensures.ok in
    let none : list_any is_ascii_uppercase c.args.word.now ≡ false = sym c.has_capitals.ensures ∙ c.if-has_capitals.false in (
      (decode_of-ok c.args.word.now c.in-Ok.bytes.items read).3,
      decode_of-lower c.args.word.now c.in-Ok.bytes.items read none,
    )

pub returns-in-Ok-clause-only : goal.returns-in-Ok-clause-only
returns-in-Ok-clause-only c = λ bytes are e.
    let read : decode_of c.args.word.now ≡ Ok c.in-Ok.bytes.items = c.in-Ok.ensures.ok in
    let again : decode_of c.args.word.now ≡ Ok bytes = decoded c.args.word.now bytes are e in
    cc

pub returns-in-Err-clause-only : goal.returns-in-Err-clause-only
returns-in-Err-clause-only c = λ bytes are e.
    let read : decode_of c.args.word.now ≡ Ok bytes = decoded c.args.word.now bytes are e in
    elim c.in-Err.ensures.err [ inl memory ↦ c.refusal.ensures memory | inr other ↦ absurd (let no : decode_of c.args.word.now ≡ Err c.in-Err.error = other in cc) ]
