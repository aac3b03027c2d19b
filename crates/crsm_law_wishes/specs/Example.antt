-- Turns of a node that suspects a replica.
use Rattle.std.specs.Prelude.{ℕ, List, [], ◌∷◌}
use Rattle.crsm_spec.specs.Node.{Turn}
use Rattle.crsm_spec.specs.Replica.{Replica}
use Rattle.crsm_law_wishes.specs.Laws.{AreTurnsOf, SuspectsAllBut}
use Rattle.crsm_law_wishes.specs.Readings.{IsLastWordOf, IsNow}

-- A node takes turns as it wants them. In the fourth it suspects all but 0 and 1: it has heard 1 within the last
-- 5 seconds, and of 2 nothing since its first turn, 5 seconds before.
pub record ReplicasAreSuspected : Type 0 where
  pub replica : Replica
  pub turns : List (Turn × ℕ)
  pub are : AreTurnsOf replica turns
  pub suspects : SuspectsAllBut turns 3 (0 ∷ 1 ∷ [])
  pub now : IsNow turns 3 5000000
  pub heard : IsLastWordOf turns 3 1 4999999
  pub silent : IsLastWordOf turns 3 2 0
