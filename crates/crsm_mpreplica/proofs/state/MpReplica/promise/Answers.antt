use Rattle.std.proofs.Common.{◌∷◌, refl, subst}
use Rattle.crsm_mpspec.specs.declared.rec.MpRec.{MpRec}
use Rattle.crsm_mpspec.specs.Draft.{keep, keep_as, line_of}
use Rattle.crsm_mpspec.specs.Log.{is_chosen, chosen_at, choices}
use Rattle.crsm_mpspec.specs.Replica.{note_after, ended_by}
use Rattle.crsm_mpreplica.specs.Made.{MadeStands, outcome_of}
use Rattle.crsm_mpreplica.proofs.StateLemmas.{note-same, promise-tells}
use Rattle.crsm_mpreplica.proofs.state.MpReplica.promise.Goals as goal

pub returns : goal.returns
unfolding keep keep_as line_of note_after is_chosen chosen_at choices
returns c x s fits =
    let log = x.replica.log in
    let b = c.args.ballot in
    record {
      me = s.me;
      n = s.n;
      ledger = c.in_ok-keep.ensures.ledger log s.ledger fits;
      note = note-same c.end_below.new.note x.replica.me log (MpRec.Promise b ∷ log) (ended_by b x.replica.note) (λ q. refl) (c.end_below.ensures x.replica.me log x.replica.note s.note);
      waiting = s.waiting;
      made = subst (MadeStands c.keep.new.made) (promise-tells x b c.args.self.now.me s.me) (c.in_ok-keep.ensures.made (outcome_of x) s.made fits);
    }
