use Rattle.std.proofs.Common.{sym, subst}
use Rattle.std.specs.Prelude.{Option}
use Rattle.crsm_mpreplica.specs.State.{MpReplicaStands}
use Rattle.crsm_mpcore.specs.declared.electing.Election.{Election}
use Rattle.crsm_mpcore.specs.Elections.{IsElection}
use Rattle.crsm_mpcore.proofs.electing.lead_at_majority.Goals as goal

pub returns-in_default : goal.returns-in_default
returns-in_default c x s =
    subst (MpReplicaStands c.args.state.now) (sym (subst (λ (e : Option Election). IsElection e x) c.in_default.is (c.in_ok-election.ensures x s))) s

pub returns : goal.returns
returns c x s =
    let e = subst (λ (e : Option Election). IsElection e x) c.in-Some.is (c.in_ok-election.ensures x s) in
    subst (MpReplicaStands c.lead.new.state) (sym e.2) (c.in_ok-lead.ensures x s e.0 e.1)
