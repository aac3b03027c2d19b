use Rattle.std.proofs.Common.{Some, sym, subst}
use Rattle.crsm_base.specs.Spelling.{FitsCommand, FitsOption}
use Rattle.crsm_mpspec.specs.declared.line.MpLine.{MpLine}
use Rattle.crsm_mpspec.specs.declared.rec.MpRec.{MpRec}
use Rattle.crsm_mpspec.specs.Draft.{keep_as}
use Rattle.crsm_mpspec.specs.Types.{Command}
use Rattle.crsm_mpreplica.specs.State.{MpReplicaStands}
use Rattle.crsm_mpreplica.proofs.state.MpReplica.submit.Goals as goal

pub returns : goal.returns
returns c x s fits =
    let b = c.args.ballot in
    let slot = c.args.slot in
    let d = c.args.command.now in
    let own = c.get-own.result.now in
    subst (λ (e : Command). MpReplicaStands c.accept_as.new.self (keep_as (MpLine.Submit x.replica.me slot b.round b.by e.client e.number) (MpRec.Accept slot b (Some d)) x)) c.get-own.ensures
    (subst (λ v. MpReplicaStands c.accept_as.new.self (keep_as (MpLine.Submit x.replica.me slot b.round b.by own.client own.number) (MpRec.Accept slot b v) x)) c.in_ok-value.ensures
    (subst (λ me. MpReplicaStands c.accept_as.new.self (keep_as (MpLine.Submit me slot b.round b.by own.client own.number) (MpRec.Accept slot b c.in_ok-value.value) x)) s.me
    (c.in_ok-accept_as.ensures x s (fits.0, fits.1, subst (FitsOption FitsCommand) (sym c.in_ok-value.ensures) fits.2))))
