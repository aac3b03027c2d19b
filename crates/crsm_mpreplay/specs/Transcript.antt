-- The text of the lines of a transcript, each with its line feed, and the text that a run of a schedule writes.
use Rattle.std.specs.Prelude.{◌≡◌, ℕ, zero, suc, ◌+◌, Bool, true, false, List, [], ◌∷◌, ◌++◌, map, codes, Option, None, Some, slice_get}
use Rattle.std.specs.List.{AllByRecursion, flat_map}
use Rattle.crsm_schedule.specs.declared.Event.{Event}
use Rattle.crsm_schedule.specs.Transcript.{numbered}
use Rattle.crsm_text.specs.Words.{named, numbers}
use Rattle.crsm_text.specs.Values.{answer_text}
use Rattle.crsm_spec.specs.Acts.{Act}
use Rattle.crsm_mpspec.specs.declared.MpKind.{MpKind}
use Rattle.crsm_mpspec.specs.declared.MpLine.{MpLine}
use Rattle.crsm_mpspec.specs.World.{World, begin, first_lines, finals}
use Rattle.crsm_mpspec.specs.Moments.{act}
use Rattle.crsm_mpspec.specs.Run.{TraceLine, traced, seen}
use Rattle.crsm_mpworld.specs.Doing.{act_of}
use Rattle.crsm_mpworld.specs.Schedule.{Schedule, acts_of, last_world}

abbrev pub kind_text : MpKind → List ℕ
kind_text MpKind.Prep = codes "prep"
kind_text MpKind.Prom = codes "prom"
kind_text MpKind.No = codes "no"
kind_text MpKind.Acc = codes "acc"
kind_text MpKind.Accd = codes "accd"
kind_text MpKind.Learn = codes "learn"
kind_text MpKind.Ask = codes "ask"

abbrev pub state_text : Bool → List ℕ
state_text true = codes "up"
state_text false = codes "down"

-- a line without its number
abbrev pub line_words : MpLine → List ℕ
line_words (MpLine.Boot replica count) = named (codes "boot") (replica ∷ count ∷ [])
line_words (MpLine.Submit replica slot round by client number) =
    named (codes "submit") (replica ∷ slot ∷ round ∷ by ∷ client ∷ number ∷ [])
line_words (MpLine.Accept replica slot round by) = named (codes "accept") (replica ∷ slot ∷ round ∷ by ∷ [])
line_words (MpLine.Promise replica round by) = named (codes "promise") (replica ∷ round ∷ by ∷ [])
line_words (MpLine.Choose replica slot) = named (codes "choose") (replica ∷ slot ∷ [])
line_words (MpLine.Exec replica slot client number answer) =
    named (codes "exec") (replica ∷ slot ∷ client ∷ number ∷ []) ++ 32 ∷ answer_text answer
line_words (MpLine.ExecNoop replica slot) = named (codes "exec") (replica ∷ slot ∷ []) ++ 32 ∷ codes "noop"
line_words (MpLine.Send index sender receiver kind) =
    named (codes "send") (index ∷ sender ∷ receiver ∷ []) ++ 32 ∷ kind_text kind
line_words (MpLine.ReplyOk replica client number place answer) =
    named (codes "reply") (replica ∷ client ∷ number ∷ []) ++ 32 ∷ (named (codes "ok") (place ∷ []) ++ 32 ∷ answer_text answer)
line_words (MpLine.ReplyNo replica client number code) =
    named (codes "reply") (replica ∷ client ∷ number ∷ []) ++ 32 ∷ named (codes "no") (code ∷ [])
line_words (MpLine.ReplyDropped replica client number slot) =
    named (codes "reply") (replica ∷ client ∷ number ∷ []) ++ 32 ∷ named (codes "no") (6 ∷ slot ∷ [])
line_words (MpLine.Down replica) = named (codes "down") (replica ∷ [])
line_words (MpLine.Final replica up executed) = named (codes "final") (replica ∷ []) ++ 32 ∷ (state_text up ++ numbers (executed ∷ []))

-- a line of a transcript, after the number of the line of input that caused it; a final line has no number
abbrev pub line_text : ℕ → MpLine → List ℕ
line_text at (MpLine.Final replica up executed) = line_words (MpLine.Final replica up executed) ++ 10 ∷ []
line_text at line = numbered at (line_words line)

abbrev pub lines_text : ℕ → List MpLine → List ℕ
lines_text at lines = flat_map (line_text at) lines

-- ---- what a run writes

-- A line that is seen, and the number of the schedule's line that led to it.
pub record Shown : Type 0 where
  pub at : ℕ
  pub told : TraceLine

-- the line, by this act on this line of the schedule
unfoldable pub shown_by : ℕ → Option Act → MpLine → Shown
shown_by at by line = record { at = at; told = traced by line }

-- the lines of events, of which the first is on this line of the schedule
unfoldable pub shown_from : World → ℕ → List Event → List Shown
shown_from w at [] = []
shown_from w at (e ∷ es) =
    let m = act w (act_of e) in map (shown_by at (Some (act_of e))) m.lines ++ shown_from m.after (at + 1) es

-- All lines of a schedule but the final ones. The first boots belong to its first line.
unfoldable pub shown : Schedule → List Shown
shown s = map (shown_by 1 None) (first_lines s.replicas) ++ shown_from (begin s.replicas) 2 s.events

-- the text of a line that is seen
unfoldable pub text_of : Shown → List ℕ
text_of x = line_text x.at x.told.line

-- the transcript of a schedule
unfoldable pub transcript : Schedule → List ℕ
transcript s = flat_map text_of (shown s)

-- The text of its final lines. They have no number.
unfoldable pub finals_text : Schedule → List ℕ
finals_text s = lines_text 0 (finals (last_world s))

-- ---- what the transcript has

-- the act on this line of the schedule; the first line has none
unfoldable pub act_on : Schedule → ℕ → Option Act
act_on s zero = None
act_on s (suc zero) = None
act_on s (suc (suc i)) = slice_get (acts_of s) i

-- The transcript has all lines that are seen, in order, each with the number of the line of the schedule that led to
-- it.
pub record ShowsAll (s : Schedule) : Type 0 where
  pub all : map (λ x. x.told) (shown s) ≡ seen s.replicas (acts_of s)
  pub numbered : AllByRecursion (λ x. x.told.by ≡ act_on s x.at) (shown s)
