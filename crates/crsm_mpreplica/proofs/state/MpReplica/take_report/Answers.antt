use Rattle.std.proofs.Common.{◌∙◌, sym, subst}
use Rattle.crsm_spec.specs.Choice.{when◌then◌otherwise◌}
use Rattle.crsm_mpspec.specs.Draft.{noting}
use Rattle.crsm_mpreplica.specs.Fitting.{FitsReport}
use Rattle.crsm_mpreplica.specs.Notes.{note_report}
use Rattle.crsm_mpreplica.specs.State.{MpReplicaStands}
use Rattle.crsm_mpreplica.proofs.ReportLemmas.{report-same}
use Rattle.crsm_mpreplica.proofs.state.MpReplica.take_report.Goals as goal

pub returns-then-not-awaits_report : goal.returns-then-not-awaits_report
unfolding when◌then◌otherwise◌
returns-then-not-awaits_report c fits x s =
    let awaits = sym (c.awaits_report.ensures x s) ∙ c.if-not-awaits_report.true in
    (sym awaits, rw (awaits) s)

pub returns : goal.returns
unfolding when◌then◌otherwise◌
returns c fits x s =
    let awaits = sym (c.awaits_report.ensures x s) ∙ c.if-not-awaits_report.false in
    let same = report-same c.args.from (record { accepted = c.in_ok-share.field-0; chosen = c.in_ok-share-2.field-0 }) c.args.accepted.now c.args.chosen.now c.in_ok-share.ensures c.in_ok-share-2.ensures in (
      sym awaits,
      rw (awaits)
          (subst (λ r. MpReplicaStands c.add_report.new.self (noting (note_report r x.replica.note) x)) same
          (c.in_ok-add_report.ensures c.args.ballot (subst FitsReport (sym same) fits) x s awaits)),
    )
