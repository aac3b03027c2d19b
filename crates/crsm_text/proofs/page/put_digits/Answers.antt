use Rattle.std.proofs.Common.{◌+◌, ◌++◌, take, arith, ap, sym, ◌∙◌}
use Rattle.std.proofs.lemmas.Fmt.{decimal_digit}
use Rattle.std.proofs.lemmas.List.{take_more_set}
use Rattle.crsm_text.proofs.Pages.{one_digit_long}
use Rattle.crsm_text.proofs.page.put_digits.Goals as goal

pub returns-then-value-lt10-clause-end : goal.returns-then-value-lt10-clause-end
returns-then-value-lt10-clause-end c = ap (λ n. c.args.at + n) (sym (one_digit_long c.args.value c.if-value-lt10.true))

pub returns-then-value-lt10-clause-written : goal.returns-then-value-lt10-clause-written
returns-then-value-lt10-clause-written c =
    take_more_set c.args.row.now c.args.at (48 + c.args.value) (omega (arith, c.requires))
    ∙ ap (λ s. take c.args.at c.args.row.now ++ s) (sym (decimal_digit c.args.value c.if-value-lt10.true))
