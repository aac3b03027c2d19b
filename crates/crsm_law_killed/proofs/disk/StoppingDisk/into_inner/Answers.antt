use Rattle.crsm_law_killed.proofs.Handed.{made_of}
use Rattle.crsm_law_killed.proofs.disk.StoppingDisk.into_inner.Goals as goal

pub returns-clause-handed : goal.returns-clause-handed
returns-clause-handed g c = made_of c.args.self.handed
