use Rattle.std.proofs.Common.{◌∙◌, ap}
use Rattle.crsm_base.specs.declared.decision.Decision.{Decision}
use Rattle.crsm_fact_log.proofs.Known.{known-epoch}
use Rattle.crsm_sim_machine.proofs.stopped.summary_of.Goals as goal

pub returns : goal.returns
returns c me n log s = record {
  known = ap (λ (d : Decision). d.epoch) (c.known.ensures.value me n log s) ∙ known-epoch n log;
  executed = c.executed_len.ensures.value me n log s;
}
