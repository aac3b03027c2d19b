use Rattle.crsm_mpspec.specs.Draft.{noting}
use Rattle.crsm_mpreplica.proofs.state.MpReplica.end_lead.Goals as goal

pub returns : goal.returns
unfolding noting
returns c x s = record { me = s.me; n = s.n; ledger = s.ledger; note = c.end_lead.ensures x.replica.me x.replica.log x.replica.note s.note; waiting = s.waiting; made = s.made }
