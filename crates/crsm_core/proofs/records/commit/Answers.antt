use Rattle.crsm_core.proofs.records.commit.Goals as goal

pub returns : goal.returns
returns c = c.keep.ensures
