use Rattle.std.proofs.Common.{sym, subst}
use Rattle.crsm_base.specs.Spelling.{FitsCommand, FitsOption}
use Rattle.crsm_mpspec.specs.declared.line.MpLine.{MpLine}
use Rattle.crsm_mpspec.specs.declared.rec.MpRec.{MpRec}
use Rattle.crsm_mpspec.specs.Draft.{keep, keep_as, line_of}
use Rattle.crsm_mpreplica.specs.State.{MpReplicaStands}
use Rattle.crsm_mpreplica.proofs.state.MpReplica.accept.Goals as goal

pub returns : goal.returns
unfolding keep line_of
returns c x s fits =
    let b = c.args.ballot in
    let slot = c.args.slot in
    subst (λ v. MpReplicaStands c.accept_as.new.self (keep_as (MpLine.Accept x.replica.me slot b.round b.by) (MpRec.Accept slot b v) x)) c.in_ok-value.ensures
    (subst (λ me. MpReplicaStands c.accept_as.new.self (keep_as (MpLine.Accept me slot b.round b.by) (MpRec.Accept slot b c.in_ok-value.value) x)) s.me (c.in_ok-accept_as.ensures x s (fits.0, fits.1, subst (FitsOption FitsCommand) (sym c.in_ok-value.ensures) fits.2)))
