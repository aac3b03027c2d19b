use Rattle.std.proofs.Common.{false, ◌∙◌, ap}
use Rattle.std.specs.Option.{option_map_or}
use Rattle.crsm_base.specs.Order.{ballot_eq}
use Rattle.crsm_mpspec.specs.Deciding.{has_accepted}
use Rattle.crsm_mpcore.proofs.deciding.has_accepted.Goals as goal

pub returns-in-Some : goal.returns-in-Some
unfolding has_accepted ballot_eq
returns-in-Some c x s =
    c.eq.ensures ∙ ap (λ o. option_map_or (λ a. ballot_eq a.0 c.args.ballot) o false) (c.in-Some.ensures x.replica.log (c.ledger.ensures x s))

pub returns-in-None : goal.returns-in-None
unfolding has_accepted
returns-in-None c x s = ap (λ o. option_map_or (λ a. ballot_eq a.0 c.args.ballot) o false) (c.in-None.ensures x.replica.log (c.ledger.ensures x s))
