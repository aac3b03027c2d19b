use Rattle.crsm_mpreplica.specs.Made.{outcome_of}
use Rattle.crsm_mpspec.specs.Draft.{send}
use Rattle.crsm_mpreplica.proofs.state.MpReplica.send.Goals as goal

pub returns : goal.returns
unfolding send
returns c x s fits = record { me = s.me; n = s.n; ledger = s.ledger; note = s.note; waiting = s.waiting; made = c.in_ok-send.ensures (outcome_of x) s.made fits }
