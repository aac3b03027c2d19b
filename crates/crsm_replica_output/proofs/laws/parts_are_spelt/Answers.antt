use Rattle.crsm_replica_output.proofs.Parts.{parts_spelt}
use Rattle.crsm_replica_output.proofs.laws.parts_are_spelt.Goals as goal

pub returns : goal.returns
returns c = parts_spelt
