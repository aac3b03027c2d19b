use Rattle.crsm_law_worked.proofs.Breaking.{lost_files_break}
use Rattle.crsm_law_worked.proofs.lost_files_break.Goals as goal

pub returns : goal.returns
returns c = λ two. lost_files_break c.args.peers.now two
