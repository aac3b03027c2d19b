-- The replies to clients on the way to a world.
use Rattle.std.specs.Prelude.{◌≡◌, ℕ, List}
use Rattle.crsm_spec.specs.Types.{Line, Outcome, Refusal}
use Rattle.crsm_spec.specs.Lists.{Among}
use Rattle.crsm_spec.specs.Draft.{Reply}
use Rattle.crsm_spec.specs.World.{World}
use Rattle.crsm_spec.specs.Run.{TraceLine}
use Rattle.crsm_law_steps.specs.Laws.{LogsGoOn}
use Rattle.crsm_law_runs.specs.Seen.{IsSeen}

-- the line is the reply with this outcome to this client
abbrev pub Says : ℕ → ℕ → Outcome → Line → Type 0
Says client number told (Line.ReplyOk k c m place a) = (client ≡ c) × (number ≡ m) × (told ≡ Outcome.Answered a)
Says client number told (Line.ReplyDropped k c m epoch s) = (client ≡ c) × (number ≡ m) × (told ≡ Outcome.Refused Refusal.Dropped)
Says client number told _ = Unit {0}

-- The reply's line is in a world whose logs are extended by those of this one, and the reply has the line's outcome.
pub record IsTold (n : ℕ) (w : World) (a : Reply) : Type 0 where
  pub world : World
  pub lines : List TraceLine
  pub seen : IsSeen n world lines
  pub goes_on : LogsGoOn world w
  pub told : TraceLine
  pub among : Among lines told
  pub is : told.line ≡ a.line
  pub says : Says a.client a.number a.says a.line
