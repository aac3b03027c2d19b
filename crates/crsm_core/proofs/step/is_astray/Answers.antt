use Rattle.std.proofs.Common.{◌∙◌, ap, sym, arith}
use Rattle.std.specs.Prelude.{◌≢◌, ◌==◌, not}
use Rattle.crsm_core.proofs.StepLemmas.{no_replica, from_here, from_there}
use Rattle.crsm_core.proofs.step.is_astray.Goals as goal

pub returns-then-from-gt14 : goal.returns-then-from-gt14
returns-then-from-gt14 c = λ x s. no_replica x.replica c.args.from c.args.to (omega arith)

pub returns-then-from-me : goal.returns-then-from-me
returns-then-from-me c = λ x s. from_here x.replica c.args.from c.args.to (omega arith) (c.if-from-me.true ∙ c.me-me.ensures.value x s)

pub returns : goal.returns
returns c = λ x s.
    let other : c.args.from ≢ x.replica.me = λ h. c.if-from-me.false (h ∙ sym (c.me-me.ensures.value x s)) in
    ap (λ m. not (c.args.to == m)) (c.me-me.ensures.value x s) ∙ from_there x.replica c.args.from c.args.to (omega arith) other
