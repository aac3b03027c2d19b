use Rattle.std.proofs.Common.{arith}
use Rattle.std.proofs.lemmas.Bool.{ltb-true}
use Rattle.crsm_state.proofs.Faults.{counts_more}
use Rattle.crsm_state.proofs.counts.counts_more.Goals as goal

pub returns-in-Some : goal.returns-in-Some
returns-in-Some c = λ more.
    counts_more c.args.bytes.now c.in-Some.field-0-1.now c.args.limit c.in-Some.count (λ i. omega (arith, c.type_inv.bytes i)) c.in-Some.ensures (ltb-true _ _ more)
