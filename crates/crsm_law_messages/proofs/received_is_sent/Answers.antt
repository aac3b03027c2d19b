use Rattle.crsm_law_messages.proofs.Worlds.{received_is_sent}
use Rattle.crsm_law_messages.proofs.received_is_sent.Goals as goal

pub returns : goal.returns
returns c n w k j m h f = received_is_sent n w k j m h f
