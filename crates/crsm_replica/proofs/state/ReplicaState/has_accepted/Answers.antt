use Rattle.std.proofs.Common.{ap, ◌∙◌, false}
use Rattle.crsm_replica.specs.Replica.{ReplicaStands}
use Rattle.std.specs.Prelude.{Option}
use Rattle.crsm_spec.specs.Types.{Ballot, Decision}
use Rattle.crsm_base.specs.Order.{ballot_eq}
use Rattle.std.specs.Option.{option_map_or}
use Rattle.crsm_spec.specs.Coordinate.{has_accepted}
use Rattle.crsm_replica.proofs.state.ReplicaState.has_accepted.Goals as goal

pub returns-in-Some : goal.returns-in-Some
unfolding ReplicaStands has_accepted
returns-in-Some c x s =
    c.is_same_ballot.ensures
    ∙ ap (λ (o : Option (Ballot × Decision)). option_map_or (λ a. ballot_eq a.0 c.args.b) o false) (rw c.in-Some.is at c.accepted.ensures.value x.replica.me x.replica.n x.replica.log s.ledger)

pub returns-in-None : goal.returns-in-None
unfolding ReplicaStands has_accepted
returns-in-None c x s =
    ap (λ (o : Option (Ballot × Decision)). option_map_or (λ a. ballot_eq a.0 c.args.b) o false) (rw c.in-None.is at c.accepted.ensures.value x.replica.me x.replica.n x.replica.log s.ledger)
