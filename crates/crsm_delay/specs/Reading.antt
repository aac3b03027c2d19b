-- The effect of a reader on the lines of an input.
use Rattle.std.specs.Prelude.{◌≡◌, true, false, List, [], ◌++◌, Option, Some, None}
use Rattle.crsm_port_lines.specs.Handling.{Handling, Text}
use Rattle.crsm_port_lines.specs.declared.Stop.{Stop}
use Rattle.crsm_spec_plan.specs.declared.Plan.{Plan}
use Rattle.crsm_spec_plan.specs.Plans.{FitsPlan}
use Rattle.crsm_delay.specs.Advancing.{Reads, RefusedAfter}
use Rattle.crsm_delay.specs.Following.{WritesTimeline}
use Rattle.crsm_delay.specs.Times.{times_text}
use Rattle.crsm_delay.specs.declared.draft.Draft.{Draft}
use Rattle.crsm_delay.specs.declared.handling.PlanCause.{PlanCause}
use Rattle.crsm_delay.specs.declared.reader.PlanReader.{PlanReader}
use Rattle.crsm_delay.specs.declared.handling.Wanted.{Wanted}

-- a line is not added: it is refused, or memory ran out
unfoldable pub StopsUnread : Stop PlanCause → Option Draft → Text → Type 0
StopsUnread (Stop.Refused cause) old text = (cause ≡ PlanCause.Unreadable) × RefusedAfter old text
StopsUnread Stop.NoMemory old text = Unit {0}

-- ---- the lines of an input

-- the line of the command is still to come
abbrev pub IsUnfinished : Option Draft → Type 0
IsUnfinished None = Unit {0}
IsUnfinished (Some d) = d.is_whole ≡ false

-- this has been read, and nothing was written
pub record ReadsSo (draft : Option Draft) (texts : List Text) (shown : Text) : Type 0 where
  pub reads : Reads texts draft
  pub none : shown ≡ []

pub record RefusedBehind (texts : List Text) (shown : Text) (cause : PlanCause) (text : Text) : Type 0 where
  pub draft : Option Draft
  pub so : ReadsSo draft texts shown
  pub refused : RefusedAfter draft text
  pub unreadable : cause ≡ PlanCause.Unreadable

-- the wanted text of a plan
abbrev pub IsWritten : Wanted → Plan → Text → Type 0
IsWritten Wanted.Times plan last = last ≡ times_text plan
IsWritten Wanted.Schedule plan last = WritesTimeline plan last

-- it is added to a text
pub record AddsWritten (wanted : Wanted) (plan : Plan) (old new : Text) : Type 0 where
  pub more : Text
  pub added : new ≡ old ++ more
  pub written : IsWritten wanted plan more

-- the lines are a whole plan, and the text of the end is the wanted one
pub record EndsBehind (wanted : Wanted) (texts : List Text) (shown last : Text) : Type 0 where
  pub draft : Draft
  pub so : ReadsSo (Some draft) texts shown
  pub whole : draft.is_whole ≡ true
  pub fits : FitsPlan draft.plan
  pub last_is : IsWritten wanted draft.plan last

-- an input may not end before the command
pub record NoEnd (texts : List Text) (shown : Text) (cause : PlanCause) : Type 0 where
  pub draft : Option Draft
  pub so : ReadsSo draft texts shown
  pub unfinished : IsUnfinished draft
  pub unreadable : cause ≡ PlanCause.Unreadable

-- the reader has read these lines, and this is wanted of the plan
pub record HasRead (wanted : Wanted) (r : PlanReader) (texts : List Text) (shown : Text) : Type 0 where
  pub so : ReadsSo r.draft texts shown
  pub same : r.wanted ≡ wanted

abbrev pub plans_of : Wanted → Handling PlanReader PlanCause
plans_of wanted = record {
  after = HasRead wanted;
  refuses = RefusedBehind;
  ends = EndsBehind wanted;
  refuses_end = NoEnd;
}

-- the moments of a plan
abbrev pub times_of : Handling PlanReader PlanCause
times_of = plans_of Wanted.Times

-- the schedule of a timeline of it
abbrev pub schedule_of : Handling PlanReader PlanCause
schedule_of = plans_of Wanted.Schedule
