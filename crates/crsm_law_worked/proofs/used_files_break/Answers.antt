use Rattle.crsm_law_worked.proofs.Started.{used_files_break}
use Rattle.crsm_law_worked.proofs.used_files_break.Goals as goal

pub returns : goal.returns
returns c = λ two. used_files_break c.args.peers.now two
