-- The effects of a replay in a cluster: those of a replay, by the rules of the cluster.
use Rattle.std.specs.Prelude.{ℕ, List, Option}
use Rattle.crsm_port_lines.specs.declared.InputEnd.{InputEnd}
use Rattle.crsm_sim_schedule.specs.Run as replay
use Rattle.crsm_sim_schedule.specs.Schedules.{Schedule}
use Rattle.crsm_sim_schedule.specs.declared.Cause.{Cause}
use Rattle.crsm_cmd_replay.specs.Rules.{cluster_rules}

-- In each of these the source had `before` and has `after` left, and the sink had `had` and has `has` written.

-- all of a schedule was read, and its transcript and final lines were written
abbrev pub RanToEnd : (before after had has : Option (List ℕ)) → Type 0
RanToEnd before after had has = replay.RanToEnd cluster_rules before after had has

-- this line is the first that is bad, and the transcript of all lines before it was written
abbrev pub RanToBad : (before after had has : Option (List ℕ)) → ℕ → Cause → Type 0
RanToBad before after had has line cause = replay.RanToBad cluster_rules before after had has line cause

-- the transcript of all whole lines that were taken was written
abbrev pub RanSoFar : (before after had has : Option (List ℕ)) → Type 0
RanSoFar before after had has = replay.RanSoFar cluster_rules before after had has

-- the same, where 1,073,741,824 bytes were taken and then one more
abbrev pub RanTooLong : (before after had has : Option (List ℕ)) → Type 0
RanTooLong before after had has = replay.RanTooLong cluster_rules before after had has

-- a part of the output was written
abbrev pub RanPartly : (before after had has : Option (List ℕ)) → Type 0
RanPartly before after had has = replay.RanPartly cluster_rules before after had has

-- the effect of a run
abbrev pub Ran : InputEnd Cause → (before after had has : Option (List ℕ)) → Type 0
Ran result before after had has = replay.Ran cluster_rules result before after had has

-- ---- answers that are exact

-- refused for this line and cause, unless memory ran out
abbrev pub IsRefused : ℕ → Cause → InputEnd Cause → Type 0
IsRefused line cause result = replay.IsRefused line cause result

-- for a schedule within the limit whose text is the rest of the input
abbrev pub WhereSchedule : Option (List ℕ) → (Schedule → Type 0) → Type 0
WhereSchedule left P = replay.WhereSchedule cluster_rules left P

-- for good lines and a bad one behind them, within the limit
abbrev pub WhereBad : Option (List ℕ) → (Option Schedule → Cause → Type 0) → Type 0
WhereBad left P = replay.WhereBad cluster_rules left P

-- for good lines up to the limit, with a part of a line, and more bytes behind it
abbrev pub WhereTooLong : Option (List ℕ) → Type 0 → Type 0
WhereTooLong left P = replay.WhereTooLong cluster_rules left P
