use Rattle.std.proofs.Common.{refl}
use Rattle.crsm_spec.specs.Draft.{Draft}
use Rattle.crsm_spec.specs.Step.{step}
use Rattle.crsm_core.specs.Inputs.{input_of}
use Rattle.crsm_core.proofs.StepLemmas.{answered}
use Rattle.crsm_core.proofs.replica.Core.step.Goals as goal

pub returns-clause-ruled : goal.returns-clause-ruled
returns-clause-ruled c = λ r s.
    let x : Draft = step r (input_of c.args.input.now) c.args.reading in
    let stands = c.in_ok-step.ensures r s.stands in
    let both = c.in_ok-batch.ensures x stands in
    (answered c.in_ok-batch.batch x (c.states_are_sound.ensures c.step.new.state x stands) both.0, record { unspent = refl; stands = both.1 })
