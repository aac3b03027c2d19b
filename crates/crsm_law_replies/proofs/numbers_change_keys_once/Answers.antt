use Rattle.crsm_law_replies.proofs.Laws.{keys_once}
use Rattle.crsm_law_replies.proofs.numbers_change_keys_once.Goals as goal

pub returns : goal.returns
returns c = keys_once c.log_files_agree.ensures c.one_changes_keys.ensures
