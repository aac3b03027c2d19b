use Rattle.crsm_law_worked.proofs.Breaking.{forgetful_disks_break}
use Rattle.crsm_law_worked.proofs.forgetful_disks_break.Goals as goal

pub returns : goal.returns
returns c = λ two. forgetful_disks_break c.args.peers.now two
