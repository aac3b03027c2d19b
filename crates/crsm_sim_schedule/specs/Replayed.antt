-- The effect of a replay on the lines of an input.
use Rattle.std.specs.Prelude.{◌≡◌, List, [], Option, Some}
use Rattle.crsm_port_lines.specs.Handling.{Handling, Text}
use Rattle.crsm_sim_schedule.specs.Refused.{Refused}
use Rattle.crsm_sim_schedule.specs.Rules.{Rules}
use Rattle.crsm_sim_schedule.specs.Schedules.{Schedule}
use Rattle.crsm_sim_schedule.specs.State.{IsGood, StandsAt, lines_read, shown_text}
use Rattle.crsm_sim_schedule.specs.declared.handling.Replaying.{Replaying}
use Rattle.crsm_sim_schedule.specs.declared.cause.Cause.{Cause}
use Rattle.crsm_sim_schedule.specs.declared.cause.Cause.TheVariants.{Unreadable}

module _ (rules : Rules) where
  -- the lines are those of a schedule that can be run, and the text is its transcript
  pub record IsRead (read : Option Schedule) (lines : List Text) (shown : Text) : Type 0 where
    pub good : IsGood rules read
    pub lines_are : lines ≡ lines_read read
    pub shown_is : shown ≡ shown_text rules read

  pub record RefusedBehind (lines : List Text) (shown : Text) (cause : Cause) (line : Text) : Type 0 where
    pub read : Option Schedule
    pub is : IsRead read lines shown
    pub refused : Refused rules read cause line

  -- the text of the end has its final lines
  pub record EndsBehind (lines : List Text) (shown last : Text) : Type 0 where
    pub schedule : Schedule
    pub is : IsRead (Some schedule) lines shown
    pub last_is : last ≡ rules.finals schedule

-- an input may not end before its first line
pub record NoFirstLine (lines : List Text) (shown : Text) (cause : Cause) : Type 0 where
  pub lines_are : lines ≡ []
  pub shown_is : shown ≡ []
  pub unreadable : cause ≡ Unreadable

module _ {S : Type 0} (rules : Rules) (stands : S → Schedule → Type 0) where
  -- the simulation is one that it leads to
  pub record ReplayedSo (held : Option S) (lines : List Text) (shown : Text) : Type 0 where
    pub read : Option Schedule
    pub is : IsRead rules read lines shown
    pub here : StandsAt stands held read

  abbrev pub replayed : Handling (Replaying S) Cause
  replayed = record {
    after = λ r lines shown. ReplayedSo r.simulation lines shown;
    refuses = RefusedBehind rules;
    ends = EndsBehind rules;
    refuses_end = NoFirstLine;
  }
