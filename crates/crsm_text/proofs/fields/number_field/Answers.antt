use Rattle.std.proofs.Common.{◌≡◌, arith, decimal}
use Rattle.crsm_text.proofs.WordsLemmas.{Lacks-decimal}
use Rattle.crsm_text.proofs.fields.number_field.Goals as goal

pub returns-in_err-word-clause-only : goal.returns-in_err-word-clause-only
returns-in_err-word-clause-only c = λ n rest fits e.
    absurd (c.in_err-word.ensures.only (decimal n) rest (Lacks-decimal 32 n (omega arith) fits) e)

pub returns-in_err-number-clause-only : goal.returns-in_err-number-clause-only
returns-in_err-number-clause-only c = λ n rest fits e.
    let parts = c.in_ok-word.ensures.only (decimal n) rest (Lacks-decimal 32 n (omega arith) fits) e in
    let read = c.in_err-number.ensures.only n fits parts.0 in cc

pub returns-clause-only : goal.returns-clause-only
returns-clause-only c = λ n rest fits e.
    let parts = c.in_ok-word.ensures.only (decimal n) rest (Lacks-decimal 32 n (omega arith) fits) e in
    let read = c.in_ok-number.ensures.only n fits parts.0 in
    let same : c.in_ok-number.number ≡ n = cc in
    (same, parts.1)
