use Rattle.crsm_mpworld.proofs.site.executed_by.Goals as goal

pub returns : goal.returns
returns c r s = c.executed_len.ensures.value r.log (c.ledger.ensures r s)
