use Rattle.std.proofs.Common.{◌∙◌, sym, subst, Option, Some, None, IsSome}
use Rattle.std.specs.Prelude.{OnSome}
use Rattle.crsm_phase.specs.Owed.{IsAscending}
use Rattle.crsm_phase.proofs.Ordered.{ascending_without}
use Rattle.crsm_phase.proofs.waits.Waits.done.Goals as goal

on_some : {A P : Type 0} (r : Option A) → IsSome r → OnSome r P → P
on_some None some holds = absurd (cc)
on_some (Some x) some holds = holds

pub invariant_of-self : goal.invariant_of-self
invariant_of-self c =
    let rest = on_some c.remove.result (c.remove.ensures.variant.1 c.in-Some.ensures.within) c.remove.ensures.items in
    subst IsAscending (sym (rest ∙ c.in-Some.ensures.found)) (ascending_without _ _ c.self.invariant)
