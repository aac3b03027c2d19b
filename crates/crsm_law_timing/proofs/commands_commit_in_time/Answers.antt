use Rattle.crsm_law_timing.proofs.Timing.{commands_commit_in_time}
use Rattle.crsm_law_timing.proofs.commands_commit_in_time.Goals as goal

pub returns : goal.returns
returns c plan es fit line i lt = commands_commit_in_time plan es fit line i lt
