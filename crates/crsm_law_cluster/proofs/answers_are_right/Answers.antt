use Rattle.crsm_law_cluster.proofs.Answers.{answers_are_right}
use Rattle.crsm_law_cluster.proofs.answers_are_right.Goals as goal

pub returns : goal.returns
returns c n h q = answers_are_right n h q
