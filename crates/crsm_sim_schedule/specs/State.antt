-- The state of an input: nothing whole has been read, or a schedule.
use Rattle.std.specs.Prelude.{ℕ, List, [], ◌∷◌, ◌++◌, map, Option, Some, None}
use Rattle.crsm_schedule.specs.Grammar.{first_text, event_text}
use Rattle.crsm_sim_schedule.specs.Rules.{Rules}
use Rattle.crsm_sim_schedule.specs.Schedules.{Schedule, schedule_text, line_count}

-- its text
abbrev pub read_text : Option Schedule → List ℕ
read_text None = []
read_text (Some s) = schedule_text s

-- its lines
abbrev pub lines_read : Option Schedule → List (List ℕ)
lines_read None = []
lines_read (Some s) = first_text s.replicas ∷ map event_text s.events

-- how many lines it has
abbrev pub count_of : Option Schedule → ℕ
count_of None = 0
count_of (Some s) = line_count s

module _ (rules : Rules) where
  -- its transcript
  abbrev pub shown_text : Option Schedule → List ℕ
  shown_text None = []
  shown_text (Some s) = rules.transcript s

  -- its transcript with the final lines
  abbrev pub whole_text : Option Schedule → List ℕ
  whole_text None = []
  whole_text (Some s) = rules.transcript s ++ rules.finals s

  -- all of it is possible
  abbrev pub IsGood : Option Schedule → Type 0
  IsGood None = Unit {0}
  IsGood (Some s) = rules.can_run s

-- the simulation in memory is one that it leads to
abbrev pub StandsAt : {S : Type 0} → (S → Schedule → Type 0) → Option S → Option Schedule → Type 0
StandsAt stands None None = Unit {0}
StandsAt stands (Some held) (Some s) = stands held s
StandsAt stands None (Some s) = ⊥
StandsAt stands (Some held) None = ⊥
