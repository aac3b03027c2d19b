use Rattle.crsm_mpspec.specs.Draft.{send_to_others}
use Rattle.crsm_mpspec.specs.Replica.{others}
use Rattle.crsm_mpreplica.specs.Made.{outcome_of}
use Rattle.crsm_mpreplica.proofs.StateLemmas.{sent-each}
use Rattle.crsm_mpreplica.proofs.state.MpReplica.send_to_others.Goals as goal

pub returns : goal.returns
unfolding send_to_others others
returns c x s fits =
    let r = x.replica in
    let m = c.args.message in
    let made = c.in_ok-send_to_others.ensures (outcome_of x) s.made fits in
    rw (sent-each (others r) m x) (record {
      me = s.me;
      n = s.n;
      ledger = s.ledger;
      note = s.note;
      waiting = s.waiting;
      made = rw (s.me, s.n) at made;
    })
