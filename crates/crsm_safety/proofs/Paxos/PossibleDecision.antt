-- A single replica can decide.
use Rattle.std.proofs.Common.{List, [], ◌∷◌, refl, arith}
use Rattle.std.specs.List.{Contains}
use Rattle.crsm_base.specs.Order.{ballot_lt, ballot_eq}
use Rattle.crsm_spec.specs.Epochs.{Event, world_after, start_world}
use Rattle.crsm_spec.specs.Epochs.Message.{Decide}
use Rattle.crsm_spec.specs.Epochs.Event.{Begin, Comes}

-- it begins, and its answer, its proposal and its vote come to it
pub can_decide : (D : Type 0) (d : D) → (events : List (Event D)) × Contains (world_after (λ _. 0 ∷ []) start_world events).sent (Decide 1 d)
unfolding ballot_lt ballot_eq
can_decide D d = (Begin 0 d ∷ Comes 0 1 ∷ Comes 0 2 ∷ Comes 0 3 ∷ [], (4, omega arith, refl))
