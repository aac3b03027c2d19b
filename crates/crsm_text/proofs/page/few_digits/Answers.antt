use Rattle.std.proofs.Common.{sym, arith}
use Rattle.crsm_text.proofs.Pages.{one_digit_long, two_digits_long, three_digits_long, four_digits_long}
use Rattle.crsm_text.proofs.page.few_digits.Goals as goal

pub returns-then-value-lt10 : goal.returns-then-value-lt10
returns-then-value-lt10 c = sym (one_digit_long c.args.value c.if-value-lt10.true)

pub returns-then-value-lt100 : goal.returns-then-value-lt100
returns-then-value-lt100 c = sym (two_digits_long c.args.value (omega (arith, c.if-value-lt10.false)) c.if-value-lt100.true)

pub returns-then-value-lt1000 : goal.returns-then-value-lt1000
returns-then-value-lt1000 c = sym (three_digits_long c.args.value (omega (arith, c.if-value-lt100.false)) c.if-value-lt1000.true)

pub returns-else-value-lt1000 : goal.returns-else-value-lt1000
returns-else-value-lt1000 c = sym (four_digits_long c.args.value (omega (arith, c.if-value-lt1000.false)) (omega (arith, c.requires)))
