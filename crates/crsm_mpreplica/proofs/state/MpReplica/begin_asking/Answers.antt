use Rattle.std.proofs.Common.{refl, ap, ◌∙◌}
use Rattle.std.specs.Prelude.{map}
use Rattle.std.specs.BTreeMap.{insert_entry}
use Rattle.std.specs.Ordering.{nat_cmp}
use Rattle.crsm_mpspec.specs.Draft.{noting}
use Rattle.crsm_mpspec.specs.Electing.{report}
use Rattle.crsm_mpreplica.specs.Notes.{report_of}
use Rattle.crsm_mpreplica.proofs.ReportLemmas.{accepted-fit, chosen-fit, report-of_log}
use Rattle.crsm_mpreplica.proofs.state.MpReplica.begin_asking.Goals as goal

pub returns : goal.returns
unfolding noting report
returns c x s fits =
    let log = x.replica.log in
    let start = c.args.start in
    record {
      me = s.me;
      n = s.n;
      ledger = s.ledger;
      note = record {
        ballot = refl;
        start_is = refl;
        reports_are =
            ap (λ es. map report_of es) (c.in_ok-insert.ensures.entries ∙ ap (λ es. insert_entry nat_cmp es c.args.self.now.me (record { accepted = c.in_ok-accepted_from.field-0; chosen = c.in_ok-chosen_from.field-0 })) c.new-reports.ensures.empty)
            ∙ report-of_log start x.replica c.args.self.now.me (record { accepted = c.in_ok-accepted_from.field-0; chosen = c.in_ok-chosen_from.field-0 }) s.me (c.in_ok-accepted_from.ensures log s.ledger) (c.in_ok-chosen_from.ensures log s.ledger);
        ballot_fits = fits;
        reports_fit = ((accepted-fit log start s.ledger.sound, chosen-fit log start s.ledger.sound), tt);
      };
      waiting = s.waiting;
      made = s.made;
    }
