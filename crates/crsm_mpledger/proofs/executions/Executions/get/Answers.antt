use Rattle.std.proofs.Common.{◌∙◌, ◌-◌, List, ap, arith}
use Rattle.std.specs.Prelude.{slice_get}
use Rattle.crsm_mpledger.specs.declared.executions.Execution.{Execution}
use Rattle.crsm_mpledger.specs.Executed.{executions_of}
use Rattle.crsm_mpledger.proofs.ExecutedLemmas.{get-kept}
use Rattle.crsm_mpledger.proofs.NumberedLemmas.{lent-item}
use Rattle.crsm_mpledger.proofs.executions.Executions.get.Goals as goal

pub returns-then-slot-self : goal.returns-then-slot-self
returns-then-slot-self c values s most = absurd (omega (arith, most, c.if-slot-self.true))

pub returns : goal.returns
returns c values s most =
    let self = c.args.self.now in
    let index = c.args.slot - self.first in
    lent-item c.deref.result.now index c.get.result c.get.ensures.lookup.0 c.get.ensures.lookup.1
    ∙ ap (λ (xs : List Execution). slice_get xs index) (c.deref.ensures.value ∙ s.slots) ∙ get-kept self.first c.args.slot (executions_of values) most
