-- Texts are unambiguous: of one event for a schedule line, and of one list of lines for a transcript.
use Rattle.std.specs.Prelude.{◌≡◌, ℕ, ◌<◌, ◌≤◌, ◌^◌, List, [], ◌∷◌, map, length, Option, Some, None}
use Rattle.std.specs.List.{AllByRecursion, flat_map}
use Rattle.hex.specs.Hex.{IsBytes}
use Rattle.crsm_base.specs.declared.Answer.{Answer}
use Rattle.crsm_base.specs.declared.Answer.TheVariants.{Found, Differs, Stale}
use Rattle.crsm_base.specs.declared.Line.{Line}
use Rattle.crsm_base.specs.declared.Line.TheVariants.{Boot, Submit, Log, Exec, Suspend, Promise, Accept, Decide, Enter, TooMany, Send, ReplyOk, ReplyNo, ReplyDropped, Down, Final, Out, Back}
use Rattle.crsm_text.specs.Words.{Lacks}
use Rattle.crsm_schedule.specs.declared.event.Event.{Event}
use Rattle.crsm_schedule.specs.Grammar.{IsSize, FitsEvent, first_text, event_text}
use Rattle.crsm_schedule.specs.Transcript.{line_text}

-- ---- lines of a schedule

-- two events with one text are one event
abbrev pub EventsHaveOneText : Type 0
EventsHaveOneText = (e f : Event) → FitsEvent e → FitsEvent f → event_text e ≡ event_text f → e ≡ f

-- two first lines with one text give one number of replicas
abbrev pub FirstLinesHaveOneText : Type 0
FirstLinesHaveOneText = (m n : ℕ) → IsSize m → IsSize n → first_text m ≡ first_text n → m ≡ n

-- the text has no line feed, and at most the maximum number of bytes of a line
abbrev pub IsLine : List ℕ → Type 0
IsLine text = Lacks 10 text × (length text ≤ 16777216)

abbrev pub EventsAreLines : Type 0
EventsAreLines = (e : Event) → FitsEvent e → IsLine (event_text e)

abbrev pub FirstLinesAreLines : Type 0
FirstLinesAreLines = (n : ℕ) → IsSize n → IsLine (first_text n)

-- ---- lines of a transcript

abbrev pub numbers_in_answer : Answer → List ℕ
numbers_in_answer (Stale number) = number ∷ []
numbers_in_answer answer = []

abbrev pub bytes_in_answer : Answer → List ℕ
bytes_in_answer (Found val) = val
bytes_in_answer (Differs (Some val)) = val
bytes_in_answer answer = []

-- the numbers in a line
abbrev pub numbers_in : Line → List ℕ
numbers_in (Boot replica count) = replica ∷ count ∷ []
numbers_in (Submit replica epoch time client number) = replica ∷ epoch ∷ time ∷ client ∷ number ∷ []
numbers_in (Log replica epoch stamp) = replica ∷ epoch ∷ stamp.time ∷ stamp.origin ∷ []
numbers_in (Exec replica place epoch stamp client number answer) =
    replica ∷ place ∷ epoch ∷ stamp.time ∷ stamp.origin ∷ client ∷ number ∷ numbers_in_answer answer
numbers_in (Suspend replica epoch) = replica ∷ epoch ∷ []
numbers_in (Promise replica instance round by) = replica ∷ instance ∷ round ∷ by ∷ []
numbers_in (Accept replica instance round by) = replica ∷ instance ∷ round ∷ by ∷ []
numbers_in (Decide replica epoch members base_len count) = replica ∷ epoch ∷ base_len ∷ count ∷ members
numbers_in (Enter replica epoch) = replica ∷ epoch ∷ []
numbers_in (TooMany replica epoch count bytes) = replica ∷ epoch ∷ count ∷ bytes ∷ []
numbers_in (Send index sender receiver kind bytes) = index ∷ sender ∷ receiver ∷ []
numbers_in (ReplyOk replica client number place answer) = replica ∷ client ∷ number ∷ place ∷ numbers_in_answer answer
numbers_in (ReplyNo replica client number code) = replica ∷ client ∷ number ∷ code ∷ []
numbers_in (ReplyDropped replica client number epoch stamp) = replica ∷ client ∷ number ∷ epoch ∷ stamp.time ∷ stamp.origin ∷ []
numbers_in (Down replica) = replica ∷ []
numbers_in (Final replica state known executed) = replica ∷ known ∷ executed ∷ []
numbers_in (Out receiver bytes) = receiver ∷ []
numbers_in (Back address bytes) = address ∷ []

-- the bytes in a line
abbrev pub bytes_in : Line → List ℕ
bytes_in (Exec replica place epoch stamp client number answer) = bytes_in_answer answer
bytes_in (Send index sender receiver kind bytes) = bytes
bytes_in (ReplyOk replica client number place answer) = bytes_in_answer answer
bytes_in (Out receiver bytes) = bytes
bytes_in (Back address bytes) = bytes
bytes_in line = []

-- numbers below 2^64, and bytes: as in every line in memory
pub record FitsLine (line : Line) : Type 0 where
  pub numbers_fit : AllByRecursion (λ n. n < 2 ^ 64) (numbers_in line)
  pub are_bytes : IsBytes (bytes_in line)

-- a line, and the number of the input line that caused it
pub record Printed : Type 0 where
  pub at : ℕ
  pub line : Line

pub record FitsPrinted (p : Printed) : Type 0 where
  pub at_fits : p.at < 2 ^ 64
  pub line_fits : FitsLine p.line

abbrev pub printed_text : List Printed → List ℕ
printed_text ps = flat_map (λ p. line_text p.at p.line) ps

-- the number before a line; a final line has none
abbrev pub number_before : ℕ → Line → Option ℕ
number_before at (Final replica state known executed) = None
number_before at line = Some at

-- the lines, each with the number before it
abbrev pub lines_of : List Printed → List (Option ℕ × Line)
lines_of ps = map (λ p. (number_before p.at p.line, p.line)) ps

-- two transcripts with one text have the same lines, with the same numbers before them
abbrev pub TranscriptsAreOne : Type 0
TranscriptsAreOne =
    (ps qs : List Printed) → AllByRecursion FitsPrinted ps → AllByRecursion FitsPrinted qs → printed_text ps ≡ printed_text qs → lines_of ps ≡ lines_of qs
