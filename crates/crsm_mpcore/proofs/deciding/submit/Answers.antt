use Rattle.std.proofs.Common.{Some, sym, subst}
use Rattle.crsm_mpspec.specs.declared.line.MpLine.{MpLine}
use Rattle.crsm_mpspec.specs.declared.rec.MpRec.{MpRec}
use Rattle.crsm_mpspec.specs.Draft.{await, keep_as}
use Rattle.crsm_mpspec.specs.Deciding.{propose_as, submit}
use Rattle.crsm_mpreplica.specs.Fitting.{FitsValue}
use Rattle.crsm_mpreplica.specs.State.{MpReplicaStands}
use Rattle.crsm_mpcore.specs.Parts.{ask_to_accept}
use Rattle.crsm_mpcore.proofs.deciding.submit.Goals as goal

pub returns : goal.returns
unfolding submit propose_as ask_to_accept keep_as await
returns c x s fits =
    let b = c.args.ballot in
    let slot = c.args.slot in
    let d = c.args.command.now in
    let waits = subst (λ e. MpReplicaStands c.await_command.new.self (await slot e x)) c.in_ok-awaited.ensures (c.in_ok-await_command.ensures x s) in
    let y = keep_as (MpLine.Submit x.replica.me slot b.round b.by d.client d.number) (MpRec.Accept slot b (Some d)) (await slot d x) in
    subst (λ v. MpReplicaStands c.ask_to_accept.new.state (ask_to_accept b slot v y)) c.in_ok-value.ensures
    (c.in_ok-ask_to_accept.ensures y (c.in_ok-submit.ensures (await slot d x) waits fits) (fits.0, fits.1, subst FitsValue (sym c.in_ok-value.ensures) fits.2))
