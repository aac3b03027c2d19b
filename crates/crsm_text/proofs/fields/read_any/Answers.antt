use Rattle.std.proofs.Common.{◌≡◌, Ok, decimal, sym, ◌∙◌, ap, true}
use Rattle.std.proofs.lemmas.Str.{IsUtf8-from_ascii}
use Rattle.std.proofs.lemmas.Fmt.{IsAscii-decimal, parse-decimal}
use Rattle.std.proofs.lemmas.Slice.Eq.{bytes_eq-Decides}
use Rattle.std.specs.Str.{bytes_eq}
use Rattle.crsm_text.proofs.fields.read_any.Goals as goal

pub returns-in_default-clause-only : goal.returns-in_default-clause-only
returns-in_default-clause-only c = λ n fits e. absurd (c.in_default.ensures.cases.0 (rw e (IsUtf8-from_ascii (decimal n) (IsAscii-decimal n fits))))

pub returns-in_default-parse-clause-only : goal.returns-in_default-parse-clause-only
returns-in_default-parse-clause-only c = λ n fits e.
    let r : c.parse.result ≡ Ok n = parse-decimal 64 n c.in-Ok.text.now c.parse.result fits fits (c.in-Ok.ensures.cases.0 ∙ e) c.parse.ensures.value.0 in cc

pub returns-then-eq-clause-only : goal.returns-then-eq-clause-only
returns-then-eq-clause-only c = λ n fits e.
    let r : c.parse.result ≡ Ok n = parse-decimal 64 n c.in-Ok.text.now c.parse.result fits fits (c.in-Ok.ensures.cases.0 ∙ e) c.parse.ensures.value.0 in cc

pub returns-else-eq-clause-only : goal.returns-else-eq-clause-only
returns-else-eq-clause-only c = λ n fits e.
    let r : c.parse.result ≡ Ok n = parse-decimal 64 n c.in-Ok.text.now c.parse.result fits fits (c.in-Ok.ensures.cases.0 ∙ e) c.parse.ensures.value.0 in
    let same : c.in-Ok-parse.number ≡ n = cc in
    let text : c.as_bytes.result.now ≡ c.args.word.now = c.as_bytes.ensures.value ∙ c.format.ensures.text ∙ ap decimal same ∙ sym e in
    let tested : bytes_eq c.as_bytes.result.now c.args.word.now ≡ true = (bytes_eq-Decides c.as_bytes.result.now c.args.word.now).1 text in
    cc
