-- An ignored input still has the rest of its step.
use Rattle.std.proofs.Common.{◌≡◌, refl, ◌∙◌, ap, inl, inr, Bool, true, false}
use Rattle.crsm_spec.specs.Choice.{when◌then◌otherwise◌}
use Rattle.crsm_spec.specs.Draft.{Draft, begun}
use Rattle.crsm_spec.specs.Clients.{commits, replies}
use Rattle.crsm_spec.specs.Frames.{owed_oks}
use Rattle.crsm_spec.specs.Step.{step, on_input, if_fitting, idle_at}
use Rattle.crsm_fact_step.specs.Steps.{IgnoredInputsEnd}

pub ignored_inputs_end : IgnoredInputsEnd
unfolding step if_fitting when◌then◌otherwise◌
ignored_inputs_end r input reading (inl e) = ap (λ y. replies (commits (idle_at input reading (owed_oks reading y)))) (go (on_input input reading (begun r)) e)
  where
    go : (y : Draft) → y ≡ begun r → (when y.fitting then y otherwise begun r) ≡ begun r
    go y e = either_way y.fitting y e
      where
        either_way : (c : Bool) (y : Draft) → y ≡ begun r → (when c then y otherwise begun r) ≡ begun r
        either_way true y e = e
        either_way false y e = refl
ignored_inputs_end r input reading (inr e) = ap (λ y. replies (commits (idle_at input reading (owed_oks reading y)))) (ap (λ c. when c then on_input input reading (begun r) otherwise begun r) e ∙ refl)
