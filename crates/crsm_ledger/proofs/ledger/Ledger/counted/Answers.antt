use Rattle.std.proofs.Common.{◌∙◌, ap}
use Rattle.std.specs.Prelude.{unwrap_or}
use Rattle.crsm_spec.specs.Lists.{numbers_below}
use Rattle.crsm_spec.specs.Types.{Decision}
use Rattle.crsm_ledger.proofs.ReadLemmas.{founders-are, spec-is}
use Rattle.crsm_ledger.proofs.ledger.Ledger.counted.Goals as goal

pub returns-in-Some : goal.returns-in-Some
returns-in-Some c = λ me n log s.
    let named = rw c.in-Some.is at (ap (λ (d : Decision). unwrap_or d.spec (numbers_below n)) c.get.ensures.value ∙ spec-is s.says) in
    named

pub returns-in-None : goal.returns-in-None
returns-in-None c = λ me n log s.
    let first = rw c.in-None.is at (ap (λ (d : Decision). unwrap_or d.spec (numbers_below n)) c.get.ensures.value ∙ spec-is s.says) in
    founders-are s.says ∙ first
