-- The laws of the acts that a world has executed.
use Rattle.std.specs.Prelude.{ℕ, ◌≤◌, List}
use Rattle.crsm_spec.specs.World.{begin}
use Rattle.crsm_spec.specs.Acts.{Act}
use Rattle.crsm_spec.specs.Run.{ArePossible, last_world}
use Rattle.crsm_spec.specs.Calm.{IsBounded}
use Rattle.crsm_spec.specs.Safe.{Agreed, Answered, RealTime}
use Rattle.crsm_spec.specs.Decided.{DecisionsAgree}
use Rattle.crsm_spec.specs.Durable.{KeepsAnswered}
use Rattle.crsm_world.specs.declared.world.World.{World}
use Rattle.crsm_world.specs.World.{WorldStands}

-- The world is that of a cluster of n replicas after these acts, each of which was possible.
pub record HasDone (w : World) (n : ℕ) (acts : List Act) : Type 0 where
  pub some : 1 ≤ n
  pub most : n ≤ 15
  pub possible : ArePossible (begin n) acts
  pub stands : WorldStands w (last_world n acts)

-- In the run of these acts executed lists agree, answers are the store's, real time is kept, nothing answered is lost,
-- and decisions agree; and where it has led to a calm state, two calm rounds do all that was submitted.
pub record IsLawful (n : ℕ) (acts : List Act) : Type 0 where
  pub agreement : Agreed n acts
  pub answers : Answered n acts
  pub real_time : RealTime n acts
  pub durable : KeepsAnswered n acts
  pub decisions : DecisionsAgree n acts
  pub bounded : IsBounded (last_world n acts)
