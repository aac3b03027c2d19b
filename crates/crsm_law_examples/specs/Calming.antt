-- A run that reaches a calm state, from which two calm rounds are possible.
use Rattle.std.specs.Prelude.{◌≡◌, ℕ, false, List, [], ◌∷◌, ◌++◌}
use Rattle.crsm_spec.specs.Types.{Entry}
use Rattle.crsm_spec.specs.World.{begin, is_full}
use Rattle.crsm_spec.specs.Acts.{Act}
use Rattle.crsm_spec.specs.Run.{ArePossible, after_acts, last_world}
use Rattle.crsm_spec.specs.Calm.{IsOpen, IsCalm, IsCalmReading, calm_round}

-- the members of epoch 0 of three replicas
abbrev pub all_three : List ℕ
all_three = 0 ∷ 1 ∷ 2 ∷ []

-- A possible run of three replicas after which epoch 0 is calm while an entry of it is open, and from there two rounds
-- that are calm and possible and leave the world not full.
pub record ComesToCalm : Type 0 where
  pub acts : List Act
  pub possible : ArePossible (begin 3) acts
  pub calm : IsCalm 0 all_three (last_world 3 acts)
  pub entry : Entry
  pub open_entry : IsOpen 0 all_three (last_world 3 acts) entry
  pub first : IsCalmReading all_three (last_world 3 acts) 20
  pub second : IsCalmReading all_three (after_acts (last_world 3 acts) (calm_round all_three 20)) 60
  pub rounds : ArePossible (last_world 3 acts) (calm_round all_three 20 ++ calm_round all_three 60)
  pub room : is_full (after_acts (last_world 3 acts) (calm_round all_three 20 ++ calm_round all_three 60)) ≡ false
