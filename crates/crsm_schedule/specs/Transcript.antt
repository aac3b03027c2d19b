-- The lines of a transcript, each with its line feed.
use Rattle.std.specs.Prelude.{ℕ, List, [], ◌∷◌, ◌++◌, codes, decimal}
use Rattle.std.specs.List.{flat_map}
use Rattle.hex.specs.Hex.{encode_lower}
use Rattle.crsm_base.specs.declared.SendKind.{SendKind}
use Rattle.crsm_base.specs.declared.SendKind.TheVariants.{Frame, Ack, Part}
use Rattle.crsm_base.specs.declared.State.{State}
use Rattle.crsm_base.specs.declared.State.TheVariants.{Live, Held, Out as IsOut, Down as IsDown}
use Rattle.crsm_base.specs.declared.Line.{Line}
use Rattle.crsm_base.specs.declared.Line.TheVariants.{Boot, Submit, Log, Exec, Suspend, Promise, Accept, Decide, Enter, TooMany, Send, ReplyOk, ReplyNo, ReplyDropped, Down, Final, Out, Back}
use Rattle.crsm_text.specs.Words.{named, numbers, commas}
use Rattle.crsm_text.specs.Values.{answer_text}

abbrev pub kind_text : SendKind → List ℕ
kind_text Frame = codes "frame"
kind_text Ack = codes "ack"
kind_text Part = codes "part"

abbrev pub state_text : State → List ℕ
state_text Live = codes "live"
state_text Held = codes "held"
state_text IsOut = codes "out"
state_text IsDown = codes "down"

-- a line without its number and line feed
abbrev pub line_words : Line → List ℕ
line_words (Boot replica count) = named (codes "boot") (replica ∷ count ∷ [])
line_words (Submit replica epoch time client number) = named (codes "submit") (replica ∷ epoch ∷ time ∷ client ∷ number ∷ [])
line_words (Log replica epoch stamp) = named (codes "log") (replica ∷ epoch ∷ stamp.time ∷ stamp.origin ∷ [])
line_words (Exec replica place epoch stamp client number answer) =
    named (codes "exec") (replica ∷ place ∷ epoch ∷ stamp.time ∷ stamp.origin ∷ client ∷ number ∷ []) ++ 32 ∷ answer_text answer
line_words (Suspend replica epoch) = named (codes "suspend") (replica ∷ epoch ∷ [])
line_words (Promise replica instance round by) = named (codes "promise") (replica ∷ instance ∷ round ∷ by ∷ [])
line_words (Accept replica instance round by) = named (codes "accept") (replica ∷ instance ∷ round ∷ by ∷ [])
line_words (Decide replica epoch members base_len count) =
    named (codes "decide") (replica ∷ epoch ∷ []) ++ 32 ∷ (commas members ++ numbers (base_len ∷ count ∷ []))
line_words (Enter replica epoch) = named (codes "enter") (replica ∷ epoch ∷ [])
line_words (TooMany replica epoch count bytes) = named (codes "toomany") (replica ∷ epoch ∷ count ∷ bytes ∷ [])
line_words (Send index sender receiver kind bytes) =
    named (codes "send") (index ∷ sender ∷ receiver ∷ []) ++ 32 ∷ (kind_text kind ++ 32 ∷ encode_lower bytes)
line_words (ReplyOk replica client number place answer) =
    named (codes "reply") (replica ∷ client ∷ number ∷ []) ++ 32 ∷ (named (codes "ok") (place ∷ []) ++ 32 ∷ answer_text answer)
line_words (ReplyNo replica client number code) =
    named (codes "reply") (replica ∷ client ∷ number ∷ []) ++ 32 ∷ named (codes "no") (code ∷ [])
line_words (ReplyDropped replica client number epoch stamp) =
    named (codes "reply") (replica ∷ client ∷ number ∷ []) ++ 32 ∷ named (codes "no") (6 ∷ epoch ∷ stamp.time ∷ stamp.origin ∷ [])
line_words (Down replica) = named (codes "down") (replica ∷ [])
line_words (Final replica state known executed) = named (codes "final") (replica ∷ []) ++ 32 ∷ (state_text state ++ numbers (known ∷ executed ∷ []))
line_words (Out receiver bytes) = named (codes "out") (receiver ∷ []) ++ 32 ∷ encode_lower bytes
line_words (Back address bytes) = named (codes "back") (address ∷ []) ++ 32 ∷ encode_lower bytes

-- a line with the number of the input line that caused it, and a line feed
abbrev pub numbered : ℕ → List ℕ → List ℕ
numbered at words = decimal at ++ 32 ∷ (words ++ 10 ∷ [])

-- a line of a transcript; a final line has no number
abbrev pub line_text : ℕ → Line → List ℕ
line_text at (Final replica state known executed) = line_words (Final replica state known executed) ++ 10 ∷ []
line_text at line = numbered at (line_words line)

abbrev pub lines_text : ℕ → List Line → List ℕ
lines_text at lines = flat_map (line_text at) lines
