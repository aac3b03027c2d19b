use Rattle.std.proofs.Common.{◌∙◌, sym, subst}
use Rattle.crsm_phase.specs.Owed.{IsAscending}
use Rattle.crsm_phase.proofs.Ordered.{ascending_with}
use Rattle.crsm_phase.proofs.waits.Waits.add.Goals as goal

pub invariant_of-self-2 : goal.invariant_of-self-2
invariant_of-self-2 c = subst IsAscending (sym (c.in_ok-insert.ensures.items ∙ c.place_for-place.ensures.place)) (ascending_with _ _ c.self.invariant)
