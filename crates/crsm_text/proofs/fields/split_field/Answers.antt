use Rattle.std.proofs.Common.{arith}
use Rattle.std.proofs.lemmas.List.{take_rest}
use Rattle.crsm_text.proofs.WordsLemmas.{Lacks-take, split_here, split_nowhere}
use Rattle.crsm_text.proofs.fields.split_field.Goals as goal

pub returns-then-byte-separator-clause-word : goal.returns-then-byte-separator-clause-word
returns-then-byte-separator-clause-word c = Lacks-take c.args.separator c.args.input.now c.loop-i.i (omega arith) c.loop-i.invariant

pub returns-then-byte-separator-clause-only : goal.returns-then-byte-separator-clause-only
returns-then-byte-separator-clause-only c = λ word rest lacks e.
    rw take_rest (split_here c.args.separator c.args.input.now word rest c.loop-i.i c.loop-i-test.true c.if-byte-separator.true c.loop-i.invariant lacks e)

pub returns-clause-only : goal.returns-clause-only
returns-clause-only c = λ word rest lacks e. split_nowhere c.args.separator c.args.input.now word rest c.loop-i.i c.loop-i-test.false c.loop-i.invariant e
