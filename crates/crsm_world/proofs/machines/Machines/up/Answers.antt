use Rattle.std.proofs.Common.{◌≡◌, ◌∙◌, sym, arith}
use Rattle.std.proofs.Common.{◌<◌, true}
use Rattle.crsm_world.specs.Machines.{IsNotDownAt, is_up_in}
use Rattle.crsm_world.proofs.Sites.{up_some, up_none, up_within, number_is, ok_from, some_as}
use Rattle.crsm_world.proofs.machines.Machines.up.Goals as goal

pub returns-then-not-is_up-clause-up : goal.returns-then-not-is_up-clause-up
returns-then-not-is_up-clause-up c n places h = up_none places c.args.k (sym (c.is_up.ensures.up n places h) ∙ c.if-not-is_up.true)

pub returns-clause-up : goal.returns-clause-up
returns-clause-up c n places h =
    let e : is_up_in places c.args.k ≡ true = sym (c.is_up.ensures.up n places h) ∙ c.if-not-is_up.false in
    let l : c.args.k < 4294967296 = let m = up_within places c.args.k e in let f = h.few in omega arith in
    c.ok.ensures.value ∙ (ok_from c.try_from.result _ c.args.k c.try_from.ensures l ∙ up_some places c.args.k e)

pub returns-clause-not_down : goal.returns-clause-not_down
returns-clause-not_down c =
    some_as _ _ (λ j. IsNotDownAt c.args.self.now j) c.args.k c.ok.ensures.value (number_is c.try_from.result _ c.args.k c.try_from.ensures) (c.is_up.ensures.not_down c.if-not-is_up.false)
