use Rattle.crsm_mpreplica.proofs.state.MpReplica.forget_executions.Goals as goal

pub returns-then-not-is_behind : goal.returns-then-not-is_behind
returns-then-not-is_behind c x s =
    record { me = s.me; n = s.n; ledger = c.forget_executions.ensures.stands x.replica.log s.ledger; note = s.note; waiting = s.waiting; made = s.made }
