use Rattle.std.proofs.Common.{◌≡◌, ◌+◌, get_or, arith}
use Rattle.crsm_text.proofs.Digits.{behind_first, one_digit, first_digit, next_digit}
use Rattle.crsm_text.proofs.fields.read_digits.Goals as goal

pub returns-then-word-eq1 : goal.returns-then-word-eq1
returns-then-word-eq1 c =
    let is = c.if-first-eq48.true in
    let one = c.if-word-eq1.true in
    one_digit c.args.word.now 0 (omega (arith, one)) (omega (arith, is)) (omega arith)

pub loop-byte-init : goal.loop-byte-init
loop-byte-init c =
    let low = c.if-first-lt49.false in
    let high = c.if-first-gt57.false in
    let from = c.from-number.ensures in
    let some = c.in-len1-up.len_at_least in
    record {
      some = omega (arith, low, from);
      text = first_digit c.args.word.now c.from-number.result (omega (arith, some)) (omega (arith, low, high, from)) (omega (arith, high, from));
    }

pub loop-byte-preserved : goal.loop-byte-preserved
loop-byte-preserved c =
    let low = c.if-byte-lt48.false in
    let high = c.if-byte-gt57.false in
    let small = c.if-number-ge-MOST_TENS.false in
    let from = c.from.ensures in
    let within = c.loop-byte-test.true in
    let some = c.loop-byte.invariant.some in
    let is : get_or c.args.word.now (c.loop-byte.byte-index + 1) 0 ≡ 48 + c.from.result =
    let same = behind_first c.args.word.now c.loop-byte.byte-index within in omega (arith, same, low, from) in
    record {
      some = omega (arith, some);
      text =
          next_digit c.args.word.now (c.loop-byte.byte-index + 1) c.loop-byte.number c.from.result (omega (arith, within)) is (omega (arith, high, from)) some
          (omega (arith, small, high, from)) c.loop-byte.invariant.text;
    }
