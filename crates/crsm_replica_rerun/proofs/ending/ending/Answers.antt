use Rattle.std.proofs.Common.{◌≡◌, length, ap, ◌∙◌}
use Rattle.crsm_base.specs.declared.decision.Decision.{Decision}
use Rattle.crsm_fact_log.proofs.Known.{known-epoch}
use Rattle.crsm_spec.specs.Log.{executed, known}
use Rattle.crsm_spec.specs.World.{Site, final_line, log_of, state_of}
use Rattle.crsm_replica_rerun.proofs.ending.ending.Goals as goal

pub returns : goal.returns
unfolding final_line log_of
returns c = λ r s.
    let state : c.state_of.result ≡ state_of (Site.Up r) = c.state_of.ensures r s in
    let epoch : c.known.result.now.epoch ≡ known r.log = ap (λ (d : Decision). d.epoch) (c.known.ensures.value r.me r.n r.log s) ∙ known-epoch r.n r.log in
    let count : c.executed_len.result ≡ length (executed r.log) = c.executed_len.ensures.value r.me r.n r.log s in
    cc
