use Rattle.std.proofs.Common.{refl}
use Rattle.crsm_spec.specs.Draft.{Draft}
use Rattle.crsm_spec.specs.Step.{boot}
use Rattle.crsm_core.proofs.StepLemmas.{answered}
use Rattle.crsm_core.proofs.replica.Core.begin.Goals as goal

pub returns-clause-ruled : goal.returns-clause-ruled
returns-clause-ruled c = λ me n log s l.
    let x : Draft = boot me n log in
    let stands = c.in_ok-begin.ensures me n log s.waits l in
    let both = c.in_ok-batch.ensures x stands in
    (answered c.in_ok-batch.batch x (c.states_are_sound.ensures c.begin.new.self x stands) both.0, record { unspent = refl; stands = both.1 })
