use Rattle.std.proofs.Common.{refl}
use Rattle.crsm_replica_io.proofs.input.take_input.Goals as goal

pub returns-in-Tick-clause-taken : goal.returns-in-Tick-clause-taken
returns-in-Tick-clause-taken g c = rw c.in-Tick.is (refl, refl)

pub returns-in-Suspect-clause-taken : goal.returns-in-Suspect-clause-taken
returns-in-Suspect-clause-taken g c = rw c.in-Suspect.is (refl, refl)
