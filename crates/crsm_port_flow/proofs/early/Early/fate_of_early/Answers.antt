use Rattle.crsm_port_flow.proofs.early.Early.fate_of_early.Goals as goal

pub returns-then-has-clause-kept : goal.returns-then-has-clause-kept
returns-then-has-clause-kept c = λ _. c.has.ensures.0 c.if-has.true
