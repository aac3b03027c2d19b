-- The state of the loop between pieces.
use Rattle.std.specs.Prelude.{ℕ, ◌≤◌, List, [], ◌∷◌, ◌++◌, length}
use Rattle.std.specs.List.{AllByRecursion, flat_map}
use Rattle.crsm_text.specs.Words.{Lacks}
use Rattle.crsm_port_lines.specs.Handling.{Handling, Text}
use Rattle.crsm_port_lines.specs.declared.lines.LineReader.{LineReader}

-- the handler, the number of lines handled, the part of the next line that was read, and the text to be written
pub record State (H : Type 0) : Type 0 where
  pub handler : H
  pub number : ℕ
  pub part : Text
  pub pending : Text

abbrev pub state_of : {H : Type 0} → LineReader H → State H
state_of l = record { handler = l.handler; number = l.number; part = l.part.items; pending = l.pending }

-- ---- lines

-- a line has no line feed and at most 16,777,216 bytes
pub record IsLine (line : Text) : Type 0 where
  pub lacks : Lacks 10 line
  pub short : length line ≤ 16777216

-- a line with its line feed
abbrev pub ended : Text → Text
ended line = line ++ 10 ∷ []

-- the bytes of whole lines
abbrev pub read_text : List Text → Text
read_text lines = flat_map ended lines

-- these lines were handled, in order, and this is their text
pub record Reached {H R : Type 0} (h : Handling H R) (lines : List Text) (shown : Text) : Type 0 where
  pub handler : H
  pub after : h.after handler lines shown
  pub are_lines : AllByRecursion IsLine lines
