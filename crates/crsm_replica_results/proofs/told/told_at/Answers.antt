use Rattle.crsm_replica_results.proofs.told.told_at.Goals as goal

pub returns : goal.returns
returns c done all = c.answer_in.ensures done (c.in_ok-line.ensures done all)
