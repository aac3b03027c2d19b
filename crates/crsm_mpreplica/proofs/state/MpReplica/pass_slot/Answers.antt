use Rattle.std.proofs.Common.{subst, arith}
use Rattle.crsm_mpspec.specs.Draft.{noting}
use Rattle.crsm_mpreplica.specs.declared.note.Note.{Note}
use Rattle.crsm_mpreplica.specs.Notes.{NoteStands, IsLeading}
use Rattle.crsm_mpreplica.proofs.state.MpReplica.pass_slot.Goals as goal

pub returns-in-Leading : goal.returns-in-Leading
unfolding noting
returns-in-Leading c x b start next reports votes s led below =
    let me = x.replica.me in
    let log = x.replica.log in
    let l : IsLeading c.in-Leading.leading me log b next votes
    = subst (λ p. NoteStands (Note.Leading c.in-Leading.leading) me log p) led (subst (λ m. NoteStands m me log x.replica.note) c.in-Leading.is s.note) in
    record {
      me = s.me;
      n = s.n;
      ledger = s.ledger;
      note = record {
        ballot = l.ballot;
        next_is = omega (arith, c.saturating_add-leading.ensures, l.next_is, below);
        open_are = l.open_are;
        proposed = l.proposed;
        ballot_fits = l.ballot_fits;
      };
      waiting = s.waiting;
      made = s.made;
    }
