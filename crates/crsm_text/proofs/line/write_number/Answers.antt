use Rattle.std.proofs.Common.{◌≡◌, ◌+◌, ◌-◌, length, decimal, ap, arith}
use Rattle.std.proofs.lemmas.Fmt.{decimal_digit}
use Rattle.std.proofs.lemmas.List.{drop-set}
use Rattle.crsm_text.proofs.line.write_number.Goals as goal

pub overflow_sub-row : goal.overflow_sub-row
overflow_sub-row c =
    let one : length (decimal c.args.value) ≡ 1 = ap length (decimal_digit c.args.value c.if-value-lt10.true) in omega (arith, one, c.requires.0)

pub bounds-row-end : goal.bounds-row-end
bounds-row-end c =
    let one : length (decimal c.args.value) ≡ 1 = ap length (decimal_digit c.args.value c.if-value-lt10.true) in
    omega (arith, one, c.requires.0, c.requires.1)

pub overflow_sub-result : goal.overflow_sub-result
overflow_sub-result c =
    let one : length (decimal c.args.value) ≡ 1 = ap length (decimal_digit c.args.value c.if-value-lt10.true) in omega (arith, one, c.requires.0)

pub returns-then-value-lt10-clause-start : goal.returns-then-value-lt10-clause-start
returns-then-value-lt10-clause-start c =
    let one : length (decimal c.args.value) ≡ 1 = ap length (decimal_digit c.args.value c.if-value-lt10.true) in omega (arith, one, c.requires.0)

pub returns-then-value-lt10-clause-written : goal.returns-then-value-lt10-clause-written
returns-then-value-lt10-clause-written c =
    let one : length (decimal c.args.value) ≡ 1 = ap length (decimal_digit c.args.value c.if-value-lt10.true) in
    let behind : c.args.end - 1 + 1 ≡ c.args.end = omega (arith, one, c.requires.0) in
    rw (drop-set c.args.row.now (c.args.end - 1) (48 + c.args.value) (omega (arith, one, c.requires.0, c.requires.1)), behind, decimal_digit c.args.value c.if-value-lt10.true)
