use Rattle.crsm_log.proofs.Unread.{reads_with}
use Rattle.crsm_log.proofs.behind.bytes_behind_are_not_read.Goals as goal

pub returns : goal.returns
returns c file behind end whole = reads_with file behind end whole
