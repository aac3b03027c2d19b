use Rattle.std.proofs.Common.{◌≡◌, ◌<◌, ◌^◌, ℕ, arith, decimal}
use Rattle.crsm_text.specs.Words.{Lacks}
use Rattle.crsm_text.proofs.WordsLemmas.{Lacks-decimal}
use Rattle.crsm_text_words.proofs.address.octet_field.Goals as goal

no_dot : (n : ℕ) → n < 256 → Lacks 46 (decimal n)
no_dot n small = Lacks-decimal 46 n (omega arith) (omega (arith, small))

pub returns-in_err-word-clause-only : goal.returns-in_err-word-clause-only
returns-in_err-word-clause-only c = λ n rest small e. absurd (c.in_err-word.ensures.only (decimal n) rest (no_dot n small) e)

pub returns-in_err-number-clause-only : goal.returns-in_err-number-clause-only
returns-in_err-number-clause-only c = λ n rest small e.
    let parts = c.in_ok-word.ensures.only (decimal n) rest (no_dot n small) e in
    let read = c.in_err-number.ensures.only n small parts.0 in cc

pub returns-clause-only : goal.returns-clause-only
returns-clause-only c = λ n rest small e.
    let parts = c.in_ok-word.ensures.only (decimal n) rest (no_dot n small) e in
    let read = c.in_ok-number.ensures.only n small parts.0 in
    let same : c.in_ok-number.number ≡ n = cc in
    (same, parts.1)
