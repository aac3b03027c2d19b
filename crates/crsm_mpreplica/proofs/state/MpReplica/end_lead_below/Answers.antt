use Rattle.crsm_mpspec.specs.Draft.{noting}
use Rattle.crsm_mpspec.specs.Electing.{on_no}
use Rattle.crsm_mpreplica.proofs.state.MpReplica.end_lead_below.Goals as goal

pub returns : goal.returns
unfolding noting on_no
returns c x s = record { me = s.me; n = s.n; ledger = s.ledger; note = c.end_lead_below.ensures x.replica.me x.replica.log x.replica.note s.note; waiting = s.waiting; made = s.made }
