use Rattle.std.proofs.Common.{◌≡◌, ◌∙◌, sym, ap, arith}
use Rattle.std.proofs.lemmas.Bool.Decides.{nat_tests}
use Rattle.crsm_base.specs.Order.{stamp_lt}
use Rattle.crsm_replica_epoch.specs.EpochState.{is_above}
use Rattle.crsm_replica_epoch.proofs.records.is_above.Goals as goal

pub returns-in-Some : goal.returns-in-Some
unfolding stamp_lt
returns-in-Some c =
    let here : c.lt.result ≡ stamp_lt c.in-Some.last c.args.stamp = grind (arith, nat_tests, c.lt.ensures) in
    here ∙ ap (λ o. is_above o c.args.stamp) (sym c.in-Some.is)
