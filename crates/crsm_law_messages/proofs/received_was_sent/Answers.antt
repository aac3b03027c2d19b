use Rattle.crsm_law_messages.proofs.Worlds.{received_was_sent}
use Rattle.crsm_law_messages.proofs.received_was_sent.Goals as goal

pub returns : goal.returns
returns c n w k j m h = received_was_sent n w k j m h
