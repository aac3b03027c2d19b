use Rattle.crsm_fact_log.proofs.Collected.{collected_is_made}
use Rattle.crsm_fact_log.proofs.collected_is_made.Goals as goal

pub returns : goal.returns
returns c = collected_is_made
