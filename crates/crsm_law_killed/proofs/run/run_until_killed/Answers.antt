use Rattle.crsm_law_killed.proofs.Handed.{made_of_this}
use Rattle.crsm_law_killed.proofs.run.run_until_killed.Goals as goal

pub returns-clause-disk : goal.returns-clause-disk
returns-clause-disk g c = made_of_this c.run_stopping.ensures.disk

pub returns-clause-port : goal.returns-clause-port
returns-clause-port g c = made_of_this c.run_stopping.ensures.port

pub returns-clause-sheet : goal.returns-clause-sheet
returns-clause-sheet g c = made_of_this c.run_stopping.ensures.sheet
