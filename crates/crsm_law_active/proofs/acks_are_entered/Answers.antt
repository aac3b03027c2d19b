use Rattle.crsm_law_active.proofs.Worlds.{acks_are_entered}
use Rattle.crsm_law_active.proofs.acks_are_entered.Goals as goal

pub returns : goal.returns
returns c n w q few j m e a h = acks_are_entered n w q few j m e a h
