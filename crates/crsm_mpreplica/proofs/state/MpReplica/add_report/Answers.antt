use Rattle.std.proofs.Common.{◌∙◌, sym, subst, true≢false}
use Rattle.crsm_mpspec.specs.Draft.{noting}
use Rattle.crsm_mpreplica.specs.Notes.{NoteStands}
use Rattle.crsm_mpreplica.proofs.ReportLemmas.{awaits-none, reported}
use Rattle.crsm_mpreplica.proofs.state.MpReplica.add_report.Goals as goal

pub returns-in_ok-insert : goal.returns-in_ok-insert
unfolding noting
returns-in_ok-insert c b fits x s awaits =
    let stands = subst (λ note. NoteStands note x.replica.me x.replica.log x.replica.note) c.in-Asking.is s.note in
    record {
      me = s.me;
      n = s.n;
      ledger = s.ledger;
      note = reported c.in-Asking.asking c.insert.new.self c.args.report b c.args.from x.replica.me x.replica.log x.replica.note stands awaits fits c.in_ok-insert.ensures.entries;
      waiting = s.waiting;
      made = s.made;
    }

pub returns-in_default : goal.returns-in_default
returns-in_default c b fits x s awaits =
    absurd (true≢false (sym awaits ∙ sym (awaits-none c.args.self.now.note b c.args.from x.replica.me x.replica.log x.replica.note c.in_default.not-Asking s.note)))
