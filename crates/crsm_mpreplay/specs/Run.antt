-- The effects of a replay in a store with a leader: those of a replay, by the rules of that store, and what holds of the
-- schedule.
use Rattle.std.specs.Prelude.{ℕ, List, Option}
use Rattle.crsm_port_lines.specs.declared.InputEnd.{InputEnd}
use Rattle.crsm_sim_schedule.specs.Causes.{cause_in}
use Rattle.crsm_sim_schedule.specs.Run as replay
use Rattle.crsm_sim_schedule.specs.Schedules.{Schedule}
use Rattle.crsm_sim_schedule.specs.declared.Cause.{Cause}
use Rattle.crsm_mpreplay.specs.Laws.{IsLawful, AreLawful}
use Rattle.crsm_mpreplay.specs.Rules.{leader_rules, of_leader}

-- In each of these the source had `before` and has `after` left, and the sink had `had` and has `has` written.

-- all of a schedule was read, and its transcript and final lines were written
pub record RanToEnd (before after had has : Option (List ℕ)) : Type 0 where
  pub ran : replay.RanToEnd leader_rules before after had has
  pub lawful : IsLawful (of_leader ran.schedule)

-- this line is the first that is bad, and the transcript of all lines before it was written
pub record RanToBad (before after had has : Option (List ℕ)) (line : ℕ) (cause : Cause) : Type 0 where
  pub ran : replay.RanToBad leader_rules before after had has line cause
  pub lawful : AreLawful ran.read

-- the transcript of all whole lines that were taken was written
pub record RanSoFar (before after had has : Option (List ℕ)) : Type 0 where
  pub ran : replay.RanSoFar leader_rules before after had has
  pub lawful : AreLawful ran.read

-- the same, where 1,073,741,824 bytes were taken and then one more
pub record RanTooLong (before after had has : Option (List ℕ)) : Type 0 where
  pub ran : replay.RanTooLong leader_rules before after had has
  pub lawful : AreLawful ran.read

-- a part of the output was written
pub record RanPartly (before after had has : Option (List ℕ)) : Type 0 where
  pub ran : replay.RanPartly leader_rules before after had has
  pub lawful : AreLawful ran.read

-- The effect of a run. It is shut, as the words below are: a proof opens it where it needs its content.
unfoldable pub Ran : InputEnd Cause → Option (List ℕ) → Option (List ℕ) → Option (List ℕ) → Option (List ℕ) → Type 0
Ran InputEnd.Done before after had has = RanToEnd before after had has
Ran (InputEnd.BadLine line why) before after had has = RanToBad before after had has line (cause_in why)
Ran InputEnd.ReadFault before after had has = RanSoFar before after had has
Ran InputEnd.WriteFault before after had has = RanPartly before after had has
Ran InputEnd.NoMemory before after had has = RanPartly before after had has
Ran InputEnd.InputTooLong before after had has = RanTooLong before after had has

-- ---- answers that are exact

-- refused for this line and cause, unless memory ran out
abbrev pub IsRefused : ℕ → Cause → InputEnd Cause → Type 0
IsRefused line cause result = replay.IsRefused line cause result

-- for a schedule within the limit whose text is the rest of the input
abbrev pub WhereSchedule : Option (List ℕ) → (Schedule → Type 0) → Type 0
WhereSchedule left P = replay.WhereSchedule leader_rules left P

-- for good lines and a bad one behind them, within the limit
abbrev pub WhereBad : Option (List ℕ) → (Option Schedule → Cause → Type 0) → Type 0
WhereBad left P = replay.WhereBad leader_rules left P

-- for good lines up to the limit, with a part of a line, and more bytes behind it
abbrev pub WhereTooLong : Option (List ℕ) → Type 0 → Type 0
WhereTooLong left P = replay.WhereTooLong leader_rules left P
