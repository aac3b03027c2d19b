use Rattle.crsm_mpledger.proofs.RunLemmas.{executed-grown}
use Rattle.crsm_mpledger.proofs.laws.executed_slots_grow.Goals as goal

pub returns : goal.returns
returns c slot v log new = executed-grown slot v log new
