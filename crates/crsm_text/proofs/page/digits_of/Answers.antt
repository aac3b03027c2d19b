use Rattle.std.proofs.Common.{◌≤◌, length, decimal, arith}
use Rattle.std.proofs.lemmas.Fmt.{length-decimal-le}
use Rattle.crsm_text.proofs.Pages.{four_longer}
use Rattle.crsm_text.proofs.page.digits_of.Goals as goal

pub overflow_add-behind : goal.overflow_add-behind
overflow_add-behind c =
    let most : length (decimal c.args.value) ≤ 20 = length-decimal-le 20 c.args.value (omega arith) (omega arith) (omega arith) in
    omega (arith, most, c.loop-left.invariant.digits)

pub loop-left-preserved : goal.loop-left-preserved
loop-left-preserved c =
    let within = c.loop-left.invariant.within in
    let four = four_longer c.loop-left.left (omega (arith, c.loop-left-test.true)) (omega (arith, within)) in
    record {
      within = omega (arith, within);
      digits = omega (arith, four, c.loop-left.invariant.digits);
    }

pub overflow_add-result : goal.overflow_add-result
overflow_add-result c =
    let most : length (decimal c.args.value) ≤ 20 = length-decimal-le 20 c.args.value (omega arith) (omega arith) (omega arith) in
    omega (arith, most, c.loop-left.invariant.digits, c.few_digits.ensures)
