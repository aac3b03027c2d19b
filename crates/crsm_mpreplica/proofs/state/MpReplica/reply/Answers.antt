use Rattle.crsm_mpreplica.specs.Made.{outcome_of}
use Rattle.crsm_mpspec.specs.Draft.{reply}
use Rattle.crsm_mpreplica.proofs.state.MpReplica.reply.Goals as goal

pub returns : goal.returns
unfolding reply
returns c x s = record { me = s.me; n = s.n; ledger = s.ledger; note = s.note; waiting = s.waiting; made = c.in_ok-reply.ensures (outcome_of x) s.made }
