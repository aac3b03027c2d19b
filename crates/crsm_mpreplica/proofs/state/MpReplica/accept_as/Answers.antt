use Rattle.std.proofs.Common.{◌∷◌, ◌<◌, ◌^◌, refl, subst, arith}
use Rattle.crsm_mpspec.specs.declared.rec.MpRec.{MpRec}
use Rattle.crsm_mpspec.specs.Draft.{keep_as}
use Rattle.crsm_mpspec.specs.Log.{is_chosen, chosen_at, choices}
use Rattle.crsm_mpspec.specs.Replica.{note_after, ended_by}
use Rattle.crsm_mpreplica.specs.Made.{MadeStands, outcome_of}
use Rattle.crsm_mpreplica.proofs.StateLemmas.{note-same, accept-tells}
use Rattle.crsm_mpreplica.proofs.state.MpReplica.accept_as.Goals as goal

pub returns : goal.returns
unfolding keep_as note_after is_chosen chosen_at choices
returns c x s fits =
    let log = x.replica.log in
    let b = c.args.ballot in
    let rec = MpRec.Accept c.args.slot b c.args.value in
    let below : c.args.slot < 2 ^ 64 = omega (arith, fits.0) in
    record {
      me = s.me;
      n = s.n;
      ledger = c.in_ok-keep.ensures.ledger log s.ledger fits;
      note = note-same c.end_below.new.note x.replica.me log (rec ∷ log) (ended_by b x.replica.note) (λ q. refl) (c.end_below.ensures x.replica.me log x.replica.note s.note);
      waiting = s.waiting;
      made = subst (MadeStands c.keep.new.made) (accept-tells x c.args.line c.args.slot b c.args.value) (c.in_ok-keep.ensures.made (outcome_of x) s.made (below, fits.1, fits.2));
    }
