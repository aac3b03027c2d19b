use Rattle.std.proofs.Common.{◌∙◌, ap, arith, length, refl}
use Rattle.crsm_world.proofs.Letting.{lets_all_out, spelt_first}
use Rattle.crsm_world.proofs.outgoing.let_all_out.Goals as goal

pub returns-clause-stands : goal.returns-clause-stands
returns-clause-stands c packets bytes x h made spelt =
    lets_all_out _ packets bytes c.args.k _ x c.as_slice.result.now _ _ (c.as_slice.ensures ∙ made.batch.made.sends) refl (c.in_ok-next.ensures.stands packets bytes x h made (spelt_first _ _ _ _ spelt))

pub returns-clause-behind : goal.returns-clause-behind
returns-clause-behind c spelt =
    let next = c.in_ok-next.ensures.behind (spelt_first _ _ _ _ spelt) in
    let all = ap length c.as_slice.ensures in
    omega (arith, next, all)

pub returns-clause-exact : goal.returns-clause-exact
returns-clause-exact c =
    let next = c.in_ok-next.ensures.exact in
    let all = ap length c.as_slice.ensures in
    omega (arith, next, all)
