use Rattle.std.proofs.Common.{arith, length-drop, ℕ, take, drop, sym}
use Rattle.std.proofs.lemmas.List.{take_rest, take-append-drop, append-nil}
use Rattle.crsm_io.proofs.Steps.{puts_more, puts_after}
use Rattle.crsm_io.proofs.streams.put_all.Goals as goal

pub loop-at-preserved : goal.loop-at-preserved
loop-at-preserved g c = record {
  within = omega (arith, length-drop {A = ℕ}, c.in_ok-at.ensures.bound);
  put = puts_more _ _ _ c.args.bytes.now c.loop-at.at c.in_ok-at.field-0 c.loop-at.invariant.put (rw take_rest at c.in_ok-at.ensures.put);
  later = omega arith;
}

pub returns-in_err-at-clause-prefix : goal.returns-in_err-at-clause-prefix
returns-in_err-at-clause-prefix g c = record {
  prefix = take c.loop-at.at c.args.bytes.now;
  rest = drop c.loop-at.at c.args.bytes.now;
  cut = sym (take-append-drop c.loop-at.at c.args.bytes.now);
  put = rw append-nil at (puts_after _ _ _ _ _ c.loop-at.invariant.put c.in_err-at.ensures.put);
}
