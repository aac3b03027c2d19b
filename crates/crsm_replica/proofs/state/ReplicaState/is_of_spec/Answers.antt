use Rattle.std.proofs.Common.{◌∙◌, ap, sym}
use Rattle.std.specs.Prelude.{nat_lt}
use Rattle.crsm_ledger.specs.Ledger.{known_decision}
use Rattle.crsm_spec.specs.Lists.{has}
use Rattle.crsm_spec.specs.Log.{spec}
use Rattle.crsm_spec.specs.Types.{Decision}
use Rattle.crsm_spec.specs.Replica.{spec_of}
use Rattle.crsm_fact_log.proofs.Known.{known-spec}
use Rattle.crsm_replica.specs.Replica.{ReplicaStands}
use Rattle.crsm_replica.proofs.Excepting.{among_named, among_first}
use Rattle.crsm_replica.proofs.state.ReplicaState.is_of_spec.Goals as goal

pub returns-in-Some : goal.returns-in-Some
unfolding ReplicaStands spec_of
returns-in-Some c x s =
    let known = c.known.ensures.value x.replica.me x.replica.n x.replica.log s.ledger in
    c.is_among.ensures ∙ ap (λ ks. has ks c.args.k) c.as_slice.ensures.value
    ∙ among_named (known_decision x.replica.n x.replica.log).spec c.in-Some.spec (spec x.replica.n x.replica.log) x.replica.n c.args.k
    (ap (λ (d : Decision). d.spec) (sym known) ∙ c.in-Some.is) (known-spec x.replica.n x.replica.log)

pub returns-in-None : goal.returns-in-None
unfolding ReplicaStands spec_of
returns-in-None c x s =
    let known = c.known.ensures.value x.replica.me x.replica.n x.replica.log s.ledger in
    ap (λ n. nat_lt c.args.k n) (c.n.ensures x.replica.me x.replica.n x.replica.log s.ledger)
    ∙ among_first (known_decision x.replica.n x.replica.log).spec (spec x.replica.n x.replica.log) x.replica.n c.args.k
    (ap (λ (d : Decision). d.spec) (sym known) ∙ c.in-None.is) (known-spec x.replica.n x.replica.log)
