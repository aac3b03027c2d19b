use Rattle.std.proofs.Common.{◌≡◌, ◌∙◌, true, false, sym, subst}
use Rattle.crsm_spec.specs.Choice.{when◌then◌otherwise◌}
use Rattle.crsm_mpspec.specs.Electing.{on_prom}
use Rattle.crsm_mpspec.specs.Draft.{noting}
use Rattle.crsm_mpspec.specs.Replica.{Report}
use Rattle.crsm_mpreplica.specs.Notes.{awaits_report, note_report}
use Rattle.crsm_mpreplica.specs.State.{MpReplicaStands}
use Rattle.crsm_mpcore.proofs.ElectionLemmas.{takes}
use Rattle.crsm_mpcore.proofs.electing.on_prom.Goals as goal

pub returns-then-not-is_awaited : goal.returns-then-not-is_awaited
unfolding on_prom when◌then◌otherwise◌
returns-then-not-is_awaited c x s fits =
    let r : Report = record { from = c.args.from; accepted = c.args.accepted.now; chosen = c.args.chosen.now } in
    let taken = c.in_ok-is_awaited.ensures (fits.1, fits.2) x s in
    let is : awaits_report c.args.ballot c.args.from x.replica.note ≡ false = sym taken.0 ∙ c.if-not-is_awaited.true in
    let same = takes c.args.ballot r x.replica.note x in
    subst (MpReplicaStands c.take_report.new.self) (sym same) (rw (is) (rw (is) at taken.1))

pub returns : goal.returns
unfolding on_prom when◌then◌otherwise◌
returns c x s fits =
    let r : Report = record { from = c.args.from; accepted = c.args.accepted.now; chosen = c.args.chosen.now } in
    let taken = c.in_ok-is_awaited.ensures (fits.1, fits.2) x s in
    let is : awaits_report c.args.ballot c.args.from x.replica.note ≡ true = sym taken.0 ∙ c.if-not-is_awaited.false in
    let same = takes c.args.ballot r x.replica.note x in
    let counted = rw (is) at taken.1 in
    subst (MpReplicaStands c.lead_at_majority.new.state) (sym same) (rw (is) (c.in_ok-lead_at_majority.ensures (noting (note_report r x.replica.note) x) counted))
