use Rattle.std.proofs.Common.{◌≡◌, ◌<◌, ℕ, arith, decimal}
use Rattle.crsm_text.specs.Words.{Lacks}
use Rattle.crsm_text_words.proofs.AddressLaws.{lacks_colon}
use Rattle.crsm_text_words.proofs.address.port_field.Goals as goal

no_colon : (n : ℕ) → n < 256 → Lacks 58 (decimal n)
no_colon n small = lacks_colon n (omega (arith, small))

pub returns-in_err-word-clause-only : goal.returns-in_err-word-clause-only
returns-in_err-word-clause-only c = λ n port small low e. absurd (c.in_err-word.ensures.only (decimal n) (decimal port) (no_colon n small) e)

pub returns-in_err-number-clause-only : goal.returns-in_err-number-clause-only
returns-in_err-number-clause-only c = λ n port small low e.
    let parts = c.in_ok-word.ensures.only (decimal n) (decimal port) (no_colon n small) e in
    let read = c.in_err-number.ensures.only n small parts.0 in cc

pub returns-in_err-port-clause-only : goal.returns-in_err-port-clause-only
returns-in_err-port-clause-only c = λ n port small low e.
    let parts = c.in_ok-word.ensures.only (decimal n) (decimal port) (no_colon n small) e in
    let read = c.in_err-port.ensures.only port low parts.1 in cc

pub returns-clause-only : goal.returns-clause-only
returns-clause-only c = λ n port small low e.
    let parts = c.in_ok-word.ensures.only (decimal n) (decimal port) (no_colon n small) e in
    let read = c.in_ok-number.ensures.only n small parts.0 in
    let last = c.in_ok-port.ensures.only port low parts.1 in
    let same : c.in_ok-number.number ≡ n = cc in
    let same_port : c.in_ok-port.port ≡ port = cc in
    (same, same_port)
