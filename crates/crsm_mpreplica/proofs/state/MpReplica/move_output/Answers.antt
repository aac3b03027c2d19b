use Rattle.crsm_mpreplica.specs.Made.{outcome_of}
use Rattle.crsm_mpspec.specs.Draft.{begun}
use Rattle.crsm_mpreplica.proofs.state.MpReplica.move_output.Goals as goal

pub returns-clause-out : goal.returns-clause-out
returns-clause-out c x s = c.move_to.ensures.out (outcome_of x) s.made

pub returns-clause-none : goal.returns-clause-none
unfolding begun
returns-clause-none c x s =
    c.forget_executions.ensures (begun x.replica)
    (record { me = s.me; n = s.n; ledger = s.ledger; note = s.note; waiting = s.waiting; made = c.move_to.ensures.none (outcome_of x) s.made })
