use Rattle.std.proofs.Common.{arith, rules}
use Rattle.hex.specs.Hex.{lower_digits}
use Rattle.hex.proofs.Pairs.{encode_step, encode_done}
use Rattle.crsm_text.proofs.print.digits_of.Goals as goal

pub loop-i-2-preserved : goal.loop-i-2-preserved
loop-i-2-preserved c =
    let size = c.loop-i-2.invariant.length in
    let whole = c.loop-i.auto.i-end in
    let none = c.loop-i-test.false in
    let below = c.loop-i-2-test.true in
    record {
      length = search rules;
      text = encode_step lower_digits c.args.bytes.now c.loop-i-2.row c.loop-i-2.i _ _ (omega arith) (omega (arith, size))
          (c.loop-i.invariant.first c.loop-i-2.i (omega arith)) (c.loop-i.invariant.second c.loop-i-2.i (omega arith)) c.loop-i-2.invariant.text;
    }

pub returns : goal.returns
returns c =
    let size = c.loop-i-2.invariant.length in
    let whole = c.loop-i-2.auto.i-end in
    let none = c.loop-i-2-test.false in
    encode_done lower_digits c.args.bytes.now c.loop-i-2.row c.loop-i-2.i (omega arith) (omega (arith, size)) c.loop-i-2.invariant.text
