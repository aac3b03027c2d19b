use Rattle.std.proofs.Common.{◌∙◌, length, ap, sym}
use Rattle.crsm_fact_log.proofs.Lists.{length-map}
use Rattle.crsm_mpreplica.specs.State.{waiting_of}
use Rattle.crsm_mpreplica.proofs.state.MpReplica.waiting_len.Goals as goal

pub returns : goal.returns
returns c x s = c.len.ensures.len ∙ sym (length-map waiting_of c.args.self.now.waiting.entries) ∙ ap length s.waiting
