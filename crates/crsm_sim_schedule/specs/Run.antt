-- The effects of a replay, by how it ended.
use Rattle.std.specs.Prelude.{◌≡◌, ℕ, ◌+◌, ◌≤◌, ◌⊎◌, List, [], ◌∷◌, ◌++◌, Option, length, ◌<◌, Some}
use Rattle.crsm_io.specs.Streams.{Takes, Puts, PutsPrefix, AtEnd}
use Rattle.crsm_text.specs.Words.{Lacks}
use Rattle.crsm_sim_schedule.specs.Rules.{Rules}
use Rattle.crsm_sim_schedule.specs.Schedules.{Schedule, schedule_text}
use Rattle.crsm_sim_schedule.specs.State.{read_text, shown_text, whole_text, IsGood, count_of}
use Rattle.crsm_sim_schedule.specs.Refused.{BeginsBad}
use Rattle.crsm_sim_schedule.specs.declared.cause.Cause.{Cause}
use Rattle.crsm_sim_schedule.specs.Causes.{cause_in}
use Rattle.crsm_port_lines.specs.declared.LineRefusal.{LineRefusal}
use Rattle.crsm_port_lines.specs.declared.InputEnd.{InputEnd}

-- In each of these the source had `before` and has `after` left, and the sink had `had` and has `has` written.

-- ---- by how it ended

-- A prefix of the transcript of what has been read was written, or, at the end of the input, a prefix of all that is to
-- be written.
pub data WrotePart (rules : Rules) (read : Option Schedule) (rest : List ℕ) (after had has : Option (List ℕ)) : Type 0 where
  of_transcript : PutsPrefix had has (shown_text rules read) → WrotePart rules read rest after had has
  of_all : rest ≡ [] → AtEnd after → PutsPrefix had has (whole_text rules read) → WrotePart rules read rest after had has

module _ (rules : Rules) where
  -- all of a schedule was read, and its transcript and final lines were written
  pub record RanToEnd (before after had has : Option (List ℕ)) : Type 0 where
    pub schedule : Schedule
    pub good : rules.can_run schedule
    pub takes : Takes before after (schedule_text schedule)
    pub ended : AtEnd after
    pub short : length (schedule_text schedule) ≤ 1073741824
    pub puts : Puts had has (rules.transcript schedule ++ rules.finals schedule)

  -- this line is the first that is bad, and the transcript of all lines before it was written
  pub record RanToBad (before after had has : Option (List ℕ)) (line : ℕ) (cause : Cause) : Type 0 where
    pub read : Option Schedule
    pub good : IsGood rules read
    pub line_is : line ≡ count_of read + 1
    pub rest : List ℕ
    pub within : length (read_text read ++ rest) ≤ 1073741824
    pub takes : Takes before after (read_text read ++ rest)
    pub bad : BeginsBad rules read after cause rest
    pub puts : Puts had has (shown_text rules read)

  -- the transcript of all whole lines that were taken was written
  pub record RanSoFar (before after had has : Option (List ℕ)) : Type 0 where
    pub read : Option Schedule
    pub good : IsGood rules read
    pub rest : List ℕ
    pub whole : Lacks 10 rest
    pub short : length rest ≤ 16777216
    pub takes : Takes before after (read_text read ++ rest)
    pub puts : Puts had has (shown_text rules read)

  -- the same, where 1,073,741,824 bytes were taken and then one more
  pub record RanTooLong (before after had has : Option (List ℕ)) : Type 0 where
    pub read : Option Schedule
    pub good : IsGood rules read
    pub rest : List ℕ
    pub whole : Lacks 10 rest
    pub short : length rest ≤ 16777216
    pub long : length (read_text read ++ rest) ≡ 1073741824
    pub more : ℕ
    pub takes : Takes before after (read_text read ++ (rest ++ more ∷ []))
    pub puts : Puts had has (shown_text rules read)

  -- a part of the output was written
  pub record RanPartly (before after had has : Option (List ℕ)) : Type 0 where
    pub read : Option Schedule
    pub good : IsGood rules read
    pub rest : List ℕ
    pub takes : Takes before after (read_text read ++ rest)
    pub wrote : WrotePart rules read rest after had has

  -- The effect of a run. It is shut, as the words below are: a proof opens it where it needs its content.
  unfoldable pub Ran : InputEnd Cause → Option (List ℕ) → Option (List ℕ) → Option (List ℕ) → Option (List ℕ) → Type 0
  Ran InputEnd.Done before after had has = RanToEnd before after had has
  Ran (InputEnd.BadLine line why) before after had has = RanToBad before after had has line (cause_in why)
  Ran InputEnd.ReadFault before after had has = RanSoFar before after had has
  Ran InputEnd.WriteFault before after had has = RanPartly before after had has
  Ran InputEnd.NoMemory before after had has = RanPartly before after had has
  Ran InputEnd.InputTooLong before after had has = RanTooLong before after had has

-- ---- answers that are exact

-- the line is named as bad for this cause
pub record Names (line : ℕ) (cause : Cause) (result : InputEnd Cause) : Type 0 where
  pub why : LineRefusal Cause
  pub told : cause_in why ≡ cause
  pub is : result ≡ InputEnd.BadLine line why

-- refused for this line and cause, unless memory ran out
abbrev pub IsRefused : ℕ → Cause → InputEnd Cause → Type 0
IsRefused line cause result = Names line cause result ⊎ (result ≡ InputEnd.NoMemory)

module _ (rules : Rules) where
  -- for a schedule within the limit whose text is the rest of the input
  abbrev pub WhereSchedule : Option (List ℕ) → (Schedule → Type 0) → Type 0
  WhereSchedule left P = (s : Schedule) → rules.can_run s → left ≡ Some (schedule_text s) → length (schedule_text s) ≤ 1073741824 → P s

  -- for good lines and a bad one behind them, within the limit
  abbrev pub WhereBad : Option (List ℕ) → (Option Schedule → Cause → Type 0) → Type 0
  WhereBad left P =
      (read : Option Schedule) (text more : List ℕ) (cause : Cause) → IsGood rules read → left ≡ Some (read_text read ++ (text ++ more)) →
      BeginsBad rules read (Some more) cause text → length (read_text read ++ text) ≤ 1073741824 → P read cause

  -- for good lines up to the limit, with a part of a line, and more bytes behind it
  abbrev pub WhereTooLong : Option (List ℕ) → Type 0 → Type 0
  WhereTooLong left P =
      (read : Option Schedule) (rest more : List ℕ) → IsGood rules read → Lacks 10 rest → length rest ≤ 16777216 →
      length (read_text read ++ rest) ≡ 1073741824 → 0 < length more → left ≡ Some (read_text read ++ (rest ++ more)) → P
