use Rattle.std.proofs.Common.{◌<◌, length}
use Rattle.std.specs.Prelude.{map}
use Rattle.crsm_mpspec.specs.Log.{executed}
use Rattle.crsm_mpreplica.specs.State.{WhereStands, waiting_of, with_waiting}
use Rattle.crsm_mpreplica.proofs.WaitLemmas.{due-slot, if_some, popped, rest-is}
use Rattle.crsm_mpreplica.proofs.state.MpReplica.next_due.Goals as goal

pub returns-clause-executed : goal.returns-clause-executed
unfolding waiting_of
returns-clause-executed c =
    if_some c.pop_first.result _ (λ due. WhereStands c.args.self.now (λ x. due.0 < length (executed x.replica.log)))
    (λ due removal x s.
    let first = c.is_one_due.ensures.one c.if-not-is_one_due.false x s in
    due-slot x.replica.waiting (map waiting_of c.pop_first.new.self.entries) first.0 (waiting_of due) (length (executed x.replica.log))
    (popped c.args.self.now.waiting.entries c.pop_first.new.self.entries x.replica.waiting due s.waiting removal) first.1 first.2)
    c.pop_first.ensures.removal

pub returns-clause-rest : goal.returns-clause-rest
unfolding with_waiting
returns-clause-rest c =
    if_some c.pop_first.result _ _
    (λ due removal x s. record {
      me = s.me;
      n = s.n;
      ledger = s.ledger;
      note = s.note;
      waiting = rest-is x.replica.waiting (map waiting_of c.pop_first.new.self.entries) (waiting_of due)
          (popped c.args.self.now.waiting.entries c.pop_first.new.self.entries x.replica.waiting due s.waiting removal);
      made = s.made;
    })
    c.pop_first.ensures.removal
