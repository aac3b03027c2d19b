use Rattle.std.proofs.Common.{◌∙◌, sym}
use Rattle.std.proofs.lemmas.List.{get_or-replicate}
use Rattle.crsm_commit.proofs.LatestLemmas.{none_received}
use Rattle.crsm_commit.proofs.latest.Latest.new.Goals as goal

pub returns : goal.returns
returns c k h = get_or-replicate 15 k 0 0 h ∙ sym (none_received k)
