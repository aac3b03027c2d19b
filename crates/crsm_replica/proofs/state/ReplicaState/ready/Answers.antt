use Rattle.std.proofs.Common.{◌≡◌, sym, ap, ◌∙◌, subst}
use Rattle.crsm_replica.specs.Replica.{ReplicaStands}
use Rattle.std.specs.Prelude.{Option}
use Rattle.crsm_base.specs.Spelling.{FitsOption, FitsStamp}
use Rattle.crsm_spec.specs.Types.{Stamp}
use Rattle.crsm_spec.specs.Replica.{members_of, spec_of}
use Rattle.crsm_replica_epoch.specs.First.{ready_of}
use Rattle.crsm_fact_log.proofs.Known.{known-members}
use Rattle.crsm_replica.proofs.Known.{ready-fits}
use Rattle.crsm_replica.proofs.state.ReplicaState.ready.Goals as goal

pub returns-clause-value : goal.returns-clause-value
unfolding ReplicaStands members_of spec_of
returns-clause-value c x s active =
    let named = c.counted.ensures x.replica.me x.replica.n x.replica.log s.ledger in
    let is : c.ready-ready.result ≡ ready_of x.replica =
    c.ready-ready.ensures x.replica s.epoch_state (ap (λ d. d.members) (c.known.ensures.value x.replica.me x.replica.n x.replica.log s.ledger) ∙ known-members x.replica.n x.replica.log) named active in
    c.of_a_replica.ensures.same (subst (λ (o : Option Stamp). FitsOption FitsStamp o) (sym is) (ready-fits x.replica s.sound.spelt)) ∙ is
