use Rattle.crsm_law_worked.proofs.Started.{shared_numbers_break}
use Rattle.crsm_law_worked.proofs.shared_numbers_break.Goals as goal

pub returns : goal.returns
returns c = λ two. shared_numbers_break c.args.peers.now two
