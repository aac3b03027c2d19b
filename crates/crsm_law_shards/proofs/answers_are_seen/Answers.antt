use Rattle.crsm_law_shards.proofs.Seen.{answers_seen}
use Rattle.crsm_law_shards.proofs.answers_are_seen.Goals as goal

pub returns : goal.returns
returns c = answers_seen c.answers_are_right.ensures c.entries_were_submitted.ensures
