use Rattle.std.proofs.Common.{◌∙◌, ◌<◌, ◌≤◌, sym, subst, ap, refl, length, arith}
use Rattle.std.specs.Prelude.{ℕ, List}
use Rattle.std.specs.List.{AllByRecursion}
use Rattle.crsm_base.specs.Spelling.{FitsBallot}
use Rattle.crsm_spec.specs.Paxos.{majority}
use Rattle.crsm_mpspec.specs.Replica.{Report}
use Rattle.crsm_mpspec.specs.Types.{Ballot}
use Rattle.crsm_mpspec.specs.Electing.{lead}
use Rattle.crsm_mpreplica.specs.declared.note.Note.{Note}
use Rattle.crsm_mpreplica.specs.Fitting.{FitsReport}
use Rattle.crsm_mpreplica.specs.Notes.{NoteStands, report_of}
use Rattle.crsm_mpcore.specs.Findings.{AreFindings}
use Rattle.crsm_mpcore.proofs.ElectionLemmas.{length-map, asks, asks-not, too-few, enough, leads-at}
use Rattle.crsm_mpcore.proofs.electing.election_of.Goals as goal

pub returns-in_default : goal.returns-in_default
returns-in_default c x s =
    leads-at x x.replica.note x refl (asks-not c.note.result.now x.replica.me x.replica.log x.replica.note x (c.note.ensures x s) c.in_default.not-Asking)

pub returns-then-len-majority : goal.returns-then-len-majority
returns-then-len-majority c x s =
    let a = c.in-Asking.asking in
    let p = asks a x.replica.me x.replica.log x.replica.note (subst (λ (n : Note). NoteStands n x.replica.me x.replica.log x.replica.note) c.in-Asking.is (c.note.ensures x s)) in
    let count = ap length p.stands.reports_are in
    let same = length-map report_of a.reports.entries in
    let n = c.n.ensures.is x s in
    let few : length p.reports < majority x.replica.n = omega (arith, count, same, n, c.len.ensures.len, c.majority.ensures, c.if-len-majority.true) in
    leads-at x _ x p.note (too-few p.b p.start p.reports x few)

pub returns : goal.returns
returns c x s =
    let a = c.in-Asking.asking in
    let p = asks a x.replica.me x.replica.log x.replica.note (subst (λ (n : Note). NoteStands n x.replica.me x.replica.log x.replica.note) c.in-Asking.is (c.note.ensures x s)) in
    let count = ap length p.stands.reports_are in
    let same = length-map report_of a.reports.entries in
    let n = c.n.ensures.is x s in
    let many : majority x.replica.n ≤ length p.reports = omega (arith, count, same, n, c.len.ensures.len, c.majority.ensures, c.if-len-majority.false) in
    let found : AreFindings c.in_ok-findings_of.field-0 a.start p.reports
    = subst (AreFindings c.in_ok-findings_of.field-0 a.start) p.stands.reports_are (c.in_ok-findings_of.ensures (subst (λ (rs : List Report). AllByRecursion FitsReport rs) (sym p.stands.reports_are) p.stands.reports_fit)) in
    let leads = leads-at x _ _ p.note (enough p.b p.start p.reports x many) in (
      p.reports,
      record { ballot_fits = subst FitsBallot (sym p.stands.ballot) p.stands.ballot_fits; findings = found },
      leads ∙ ap (λ (b : Ballot). lead b p.start p.reports x) (sym p.stands.ballot) ∙ ap (λ (k : ℕ). lead a.ballot k p.reports x) (sym p.stands.start_is),
    )
