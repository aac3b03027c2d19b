use Rattle.std.proofs.Common.{◌≡◌, true, false, arith}
use Rattle.std.proofs.lemmas.Bool.Decides.{nat_tests}
use Rattle.crsm_base.specs.Order.{stamp_lt}
use Rattle.crsm_commit.proofs.LeastLemmas.{lesser_first, lesser_second}
use Rattle.crsm_commit.proofs.pending.lesser.Goals as goal

pub returns-then-lt : goal.returns-then-lt
unfolding stamp_lt
returns-then-lt c =
    let here : stamp_lt c.in-Some-Some.second c.in-Some-Some.first ≡ true = grind (arith, nat_tests, c.if-lt.ensures) in
    lesser_second _ _ _ _ c.in-Some-Some.is-0 c.in-Some-Some.is-1 here

pub returns-else-lt : goal.returns-else-lt
unfolding stamp_lt
returns-else-lt c =
    let here : stamp_lt c.in-Some-Some.second c.in-Some-Some.first ≡ false = grind (arith, nat_tests, c.if-lt.ensures) in
    lesser_first _ _ _ _ c.in-Some-Some.is-0 c.in-Some-Some.is-1 here
