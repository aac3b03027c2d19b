use Rattle.crsm_law_texts.proofs.Events.{event_injective}
use Rattle.crsm_law_texts.proofs.events_have_one_text.Goals as goal

pub returns : goal.returns
returns c e f fits gits same = event_injective e f fits gits same
