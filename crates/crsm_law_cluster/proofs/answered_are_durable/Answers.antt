use Rattle.crsm_law_cluster.proofs.Answers.{answered_are_durable}
use Rattle.crsm_law_cluster.proofs.answered_are_durable.Goals as goal

pub returns : goal.returns
returns z n h q i j k m client number place a reply c e le said is at there = answered_are_durable n h q i j k m client number place a reply c e le said is at there
