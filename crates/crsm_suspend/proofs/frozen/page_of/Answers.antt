use Rattle.std.proofs.Common.{◌≡◌, ◌∙◌, ap}
use Rattle.crsm_spec.specs.Types.{Decision}
use Rattle.crsm_spec.specs.Log.{known, logged}
use Rattle.crsm_fact_log.proofs.Known.{known-epoch}
use Rattle.crsm_ledger.proofs.ReadLemmas.{stands-logged}
use Rattle.crsm_suspend.proofs.FrozenLemmas.{answer_is}
use Rattle.crsm_suspend.proofs.frozen.page_of.Goals as goal

pub returns-clause-value : goal.returns-clause-value
returns-clause-value c = λ me n log s.
    let epoch : c.known.result.now.epoch ≡ known log = ap (λ (d : Decision). d.epoch) (c.known.ensures.value me n log s) ∙ known-epoch n log in
    answer_is log c.args.after c.last_stamp-last.result c.asked.result c.known.result.now.epoch c.executed_len.result c.in_ok-page.page.1 c.in_ok-page.page.0
    epoch (c.executed_len.ensures.value me n log s) (c.last_stamp-last.ensures.value me n log s) c.asked.ensures (c.in_ok-page.ensures.value (logged log) (stands-logged s))
