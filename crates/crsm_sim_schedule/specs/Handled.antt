-- The handling of a line: what the simulation then stands for, and the text of its lines.
use Rattle.std.specs.Prelude.{◌≡◌, ◌+◌, ℕ, List, [], ◌∷◌, ◌++◌, Option, Some, None, Result, Ok, Err}
use Rattle.crsm_port_lines.specs.declared.Stop.{Stop}
use Rattle.crsm_schedule.specs.declared.Event.{Event}
use Rattle.crsm_schedule.specs.Grammar.{FitsEvent, Unreadable, event_text}
use Rattle.crsm_text.specs.declared.error.LineError.{LineError}
use Rattle.crsm_sim_schedule.specs.Refused.{Refused}
use Rattle.crsm_sim_schedule.specs.Rules.{Rules}
use Rattle.crsm_sim_schedule.specs.Schedules.{Schedule, line_count}
use Rattle.crsm_sim_schedule.specs.State.{lines_read, shown_text}
use Rattle.crsm_sim_schedule.specs.declared.cause.Cause.{Cause}

-- In these a text was `before` and is `after`.

-- what was read of the line: its event, or that it has none; or memory ran out
abbrev pub IsReadAs : List ℕ → Result Event LineError → Type 0
IsReadAs line (Ok event) = FitsEvent event × (line ≡ event_text event)
IsReadAs line (Err LineError.Unreadable) = Unreadable line
IsReadAs line (Err LineError.NoMemory) = Unit {0}

-- for each line of which this was read
abbrev pub WhereRead : Result Event LineError → (List ℕ → Type 0) → Type 0
WhereRead read P = (line : List ℕ) → IsReadAs line read → P line

-- the line with this number is the next after the schedule
abbrev pub IsAfter : ℕ → Schedule → Type 0
IsAfter at s = at ≡ line_count s + 1

-- With the line a schedule was read that can be run and leads to the state of the simulation, of which `now` tells, and
-- what it adds to the transcript was appended.
pub record Advances (rules : Rules) (now : Schedule → Type 0) (read : Option Schedule) (line before after : List ℕ) : Type 0 where
  pub next : Schedule
  pub can_run : rules.can_run next
  pub stands : now next
  pub lines_are : lines_read (Some next) ≡ lines_read read ++ line ∷ []
  pub more : List ℕ
  pub shown : rules.transcript next ≡ shown_text rules read ++ more
  pub added : after ≡ before ++ more

-- the same of a simulation that may not have begun
abbrev pub AdvancesTo : {S : Type 0} → Rules → (S → Schedule → Type 0) → Option S → Option Schedule → (line before after : List ℕ) → Type 0
AdvancesTo rules stands None read line before after = ⊥
AdvancesTo rules stands (Some held) read line before after = Advances rules (stands held) read line before after

-- the line is refused and the text unchanged; or memory ran out, and a prefix of the text remains
abbrev pub Stops : Rules → Option Schedule → (line before after : List ℕ) → Stop Cause → Type 0
Stops rules read line before after (Stop.Refused cause) = Refused rules read cause line × (after ≡ before)
Stops rules read line before after Stop.NoMemory = (lost : List ℕ) × (before ≡ after ++ lost)

-- the same of an event's line, but memory may have run out with any text
abbrev pub Halts : Rules → Schedule → (line before after : List ℕ) → Stop Cause → Type 0
Halts rules s line before after (Stop.Refused cause) = Refused rules (Some s) cause line × (after ≡ before)
Halts rules s line before after Stop.NoMemory = Unit {0}
