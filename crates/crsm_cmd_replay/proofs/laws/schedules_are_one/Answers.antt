use Rattle.crsm_cmd_replay.proofs.OneText.{as_one}
use Rattle.crsm_cmd_replay.proofs.laws.schedules_are_one.Goals as goal

pub returns : goal.returns
returns c r s fits gits same = as_one c.schedules_are_one.ensures r s fits gits same
