use Rattle.crsm_port_flow.proofs.clients.Clients.next.Goals as goal

pub returns-then-is_operate_due-clause-membership : goal.returns-then-is_operate_due-clause-membership
returns-then-is_operate_due-clause-membership c = λ _. c.is_operate_due.ensures.due c.if-is_operate_due.true
