use Rattle.std.proofs.Common.{◌≡◌, ◌∙◌, ap, length}
use Rattle.crsm_spec.specs.Types.{Decision}
use Rattle.crsm_spec.specs.Log.{executed, known}
use Rattle.crsm_fact_log.proofs.Known.{known-epoch}
use Rattle.crsm_transfer.proofs.paging.want.Goals as goal

pub returns : goal.returns
returns c = λ me n log s.
    let epoch : c.known.result.now.epoch ≡ known log = ap (λ (d : Decision). d.epoch) (c.known.ensures.value me n log s) ∙ known-epoch n log in
    let from : c.executed_len.result ≡ length (executed log) = c.executed_len.ensures.value me n log s in
    cc
