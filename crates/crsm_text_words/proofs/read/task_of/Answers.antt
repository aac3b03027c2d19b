use Rattle.std.proofs.Common.{map, string_bytes}
use Rattle.crsm_text_words.proofs.Clusters.{answered}
use Rattle.crsm_text_words.proofs.read.task_of.Goals as goal

pub returns-in-Err-clause-any : goal.returns-in-Err-clause-any
returns-in-Err-clause-any c = answered (map string_bytes c.args.words.now) c.in-Err.error c.answer-task.result c.in-Err.ensures.any.0 c.answer-task.ensures
