-- The lines that are refused, and their causes, after what has been read.
use Rattle.std.specs.Prelude.{◌≡◌, ◌≢◌, ℕ, List, [], ◌∷◌, ◌++◌, Option, Some, None}
use Rattle.crsm_io.specs.Streams.{AtEnd}
use Rattle.crsm_port_lines.specs.Run.{LongLine}
use Rattle.crsm_schedule.specs.declared.Event.{Event}
use Rattle.crsm_text.specs.Words.{Lacks}
use Rattle.crsm_schedule.specs.Grammar.{IsSize, FitsEvent, first_text, event_text, Unreadable}
use Rattle.crsm_sim_schedule.specs.Rules.{Rules}
use Rattle.crsm_sim_schedule.specs.Schedules.{Schedule}
use Rattle.crsm_sim_schedule.specs.declared.cause.Cause.{Cause}

-- ---- the first line

-- the line is not the text of a number of replicas
abbrev pub UnreadableFirst : List ℕ → Type 0
UnreadableFirst line = (n : ℕ) → IsSize n → line ≢ first_text n

abbrev pub RefusedFirst : Cause → List ℕ → Type 0
RefusedFirst cause line = (cause ≡ Cause.Unreadable) × UnreadableFirst line

-- ---- a later line

-- the event is not possible after the schedule
pub record ImpossibleNext (rules : Rules) (s : Schedule) (cause : Cause) (line : List ℕ) : Type 0 where
  pub event : Event
  pub fits : FitsEvent event
  pub text : line ≡ event_text event
  pub refused : rules.refuses s event cause

pub data RefusedNext (rules : Rules) (s : Schedule) (cause : Cause) (line : List ℕ) : Type 0 where
  unreadable_next : cause ≡ Cause.Unreadable → Unreadable line → RefusedNext rules s cause line
  impossible_next : ImpossibleNext rules s cause line → RefusedNext rules s cause line

-- ---- any line

abbrev pub Refused : Rules → Option Schedule → Cause → List ℕ → Type 0
Refused rules None cause line = RefusedFirst cause line
Refused rules (Some s) cause line = RefusedNext rules s cause line

-- a whole line that is refused
pub record BadLine (rules : Rules) (read : Option Schedule) (cause : Cause) (text : List ℕ) : Type 0 where
  pub line : List ℕ
  pub rest : List ℕ
  pub text_is : text ≡ line ++ 10 ∷ rest
  pub lacks : Lacks 10 line
  pub refused : Refused rules read cause line

-- an input may end after a first line and behind a line feed
abbrev pub CutShort : Option Schedule → List ℕ → Type 0
CutShort None line = Unit {0}
CutShort (Some s) line = line ≢ []

-- a line whose line feed is missing at the end of the input
pub record CutLine (read : Option Schedule) (left : Option (List ℕ)) (text : List ℕ) : Type 0 where
  pub lacks : Lacks 10 text
  pub cut : CutShort read text
  pub ended : AtEnd left

-- The input continues, after what has been read, with a bad line, for this cause. `left` is the rest of the input.
pub data BeginsBad (rules : Rules) (read : Option Schedule) (left : Option (List ℕ)) (cause : Cause) (text : List ℕ) : Type 0 where
  bad_line : BadLine rules read cause text → BeginsBad rules read left cause text
  long_line : cause ≡ Cause.Unreadable → LongLine text → BeginsBad rules read left cause text
  cut_line : cause ≡ Cause.Unreadable → CutLine read left text → BeginsBad rules read left cause text
