use Rattle.std.proofs.Common.{◌∙◌, ap, arith}
use Rattle.std.specs.Prelude.{not}
use Rattle.crsm_core.proofs.TickLemmas.{soon, spent, waited}
use Rattle.crsm_core.proofs.idle.is_idle.Goals as goal

pub returns-then-reading-lt-IDLE_UNITS : goal.returns-then-reading-lt-IDLE_UNITS
returns-then-reading-lt-IDLE_UNITS c = λ x s. soon x.replica c.args.reading (omega arith)

pub returns-then-reading-last : goal.returns-then-reading-last
returns-then-reading-last c = λ x s.
    let last = c.last_issued-last.ensures x s in
    soon x.replica c.args.reading (omega (arith, last))

pub returns-then-last : goal.returns-then-last
returns-then-last c = λ x s.
    let last = c.last_issued-last.ensures x s in
    spent x.replica c.args.reading (omega (arith, last)) (omega (arith, last))

pub returns : goal.returns
returns c = λ x s.
    let last = c.last_issued-last.ensures x s in
    ap (λ b. not b) (c.is_congested.ensures x s) ∙ waited x.replica c.args.reading (omega (arith, last)) (omega (arith, last))
