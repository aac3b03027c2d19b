-- The state of the loop between pieces, and what it did for each ending.
use Rattle.std.specs.Prelude.{◌≡◌, ◌≢◌, ℕ, ◌+◌, ◌≤◌, List, [], ◌∷◌, ◌++◌, Option, length}
use Rattle.std.specs.List.{AllByRecursion}
use Rattle.crsm_io.specs.Streams.{Takes, Puts, PutsPrefix, AtEnd}
use Rattle.crsm_text.specs.Words.{Lacks}
use Rattle.crsm_port_lines.specs.Handling.{Handling, Text}
use Rattle.crsm_port_lines.specs.State.{IsLine, Reached, State, read_text}
use Rattle.crsm_port_lines.specs.declared.lines.LineRefusal.{LineRefusal}
use Rattle.crsm_port_lines.specs.declared.lines.LineRefusal.TheVariants.{Refused, TooLong, Cut}
use Rattle.crsm_port_lines.specs.declared.lines.Halt.{Halt}
use Rattle.crsm_port_lines.specs.declared.run.InputEnd.{InputEnd}

-- In each definition the source had `before` left and then `after`, and the sink had `had` written and then `has`.

-- ---- bad lines

-- a whole line that the handler refuses
pub record BadLine {H R : Type 0} (h : Handling H R) (lines : List Text) (shown : Text) (why : R) (text : Text) : Type 0 where
  pub line : Text
  pub rest : Text
  pub text_is : text ≡ line ++ 10 ∷ rest
  pub lacks : Lacks 10 line
  pub refused : h.refuses lines shown why line

-- more bytes than a line may have, without a line feed
pub record LongLine (text : Text) : Type 0 where
  pub line : Text
  pub rest : Text
  pub text_is : text ≡ line ++ rest
  pub lacks : Lacks 10 line
  pub long : length line ≡ 16777217

-- a line without its line feed at the end of the input
pub record CutLine (left : Option Text) (text : Text) : Type 0 where
  pub lacks : Lacks 10 text
  pub some : text ≢ []
  pub ended : AtEnd left

-- the input ends where the handler refuses the end
pub record BadEnd {H R : Type 0} (h : Handling H R) (lines : List Text) (shown : Text) (left : Option Text) (why : R) (text : Text) : Type 0 where
  pub none : text ≡ []
  pub ended : AtEnd left
  pub refused : h.refuses_end lines shown why

-- The text after these lines is bad for this reason. `left` is what the source has left after the text.
pub data BeginsBad {H R : Type 0} (h : Handling H R) (lines : List Text) (shown : Text) (left : Option Text) (why : LineRefusal R) (text : Text) : Type 0 where
  bad_line : (r : R) → why ≡ Refused r → BadLine h lines shown r text → BeginsBad h lines shown left why text
  long_line : why ≡ TooLong → LongLine text → BeginsBad h lines shown left why text
  cut_line : why ≡ Cut → CutLine left text → BeginsBad h lines shown left why text
  bad_end : (r : R) → why ≡ Refused r → BadEnd h lines shown left r text → BeginsBad h lines shown left why text

module _ {H R : Type 0} (h : Handling H R) where
  -- ---- within the input

  -- The lines were handled, and their text is the written text and then the pending text; `total` bytes were read, and
  -- `ahead` is the part of them that is not handled yet.
  pub record SoFar (before after had has : Option Text) (state : State H) (ahead : Text) (total : ℕ) : Type 0 where
    pub lines : List Text
    pub shown : Text
    pub reached : h.after state.handler lines shown
    pub are_lines : AllByRecursion IsLine lines
    pub number : state.number ≡ length lines
    pub part : IsLine state.part
    pub takes : Takes before after (read_text lines ++ (state.part ++ ahead))
    pub taken_len : length (read_text lines ++ (state.part ++ ahead)) ≡ total
    pub written : Text
    pub puts : Puts had has written
    pub shown_is : shown ≡ written ++ state.pending

  -- ---- between two pieces

  -- Of the bytes read each whole line was handled, all text of these lines is written, nothing is pending, and the rest
  -- is a part of a line.
  pub record IsUpToDate (had has : Option Text) (state : State H) (taken : Text) : Type 0 where
    pub lines : List Text
    pub shown : Text
    pub reached : h.after state.handler lines shown
    pub are_lines : AllByRecursion IsLine lines
    pub number : state.number ≡ length lines
    pub part : IsLine state.part
    pub taken_is : taken ≡ read_text lines ++ state.part
    pub puts : Puts had has shown
    pub none_pending : state.pending ≡ []

  -- ---- for each ending

  -- all of the input was read, and the text of its lines and of its end was written
  pub record RanToEnd (before after had has : Option Text) : Type 0 where
    pub lines : List Text
    pub shown : Text
    pub last : Text
    pub reached : Reached h lines shown
    pub ends : h.ends lines shown last
    pub takes : Takes before after (read_text lines)
    pub ended : AtEnd after
    pub short : length (read_text lines) ≤ 1073741824
    pub puts : Puts had has (shown ++ last)

  -- this line is the first that is bad, and the text of all lines before it was written
  pub record RanToBad (before after had has : Option Text) (line : ℕ) (why : LineRefusal R) : Type 0 where
    pub lines : List Text
    pub shown : Text
    pub reached : Reached h lines shown
    pub line_is : line ≡ length lines + 1
    pub rest : Text
    pub within : length (read_text lines ++ rest) ≤ 1073741824
    pub takes : Takes before after (read_text lines ++ rest)
    pub bad : BeginsBad h lines shown after why rest
    pub puts : Puts had has shown

  -- the text of all whole lines that were read was written
  pub record RanSoFar (before after had has : Option Text) : Type 0 where
    pub lines : List Text
    pub shown : Text
    pub reached : Reached h lines shown
    pub rest : Text
    pub part : IsLine rest
    pub takes : Takes before after (read_text lines ++ rest)
    pub puts : Puts had has shown

  -- the same, where 1,073,741,824 bytes were read and then one more
  pub record RanTooLong (before after had has : Option Text) : Type 0 where
    pub lines : List Text
    pub shown : Text
    pub reached : Reached h lines shown
    pub rest : Text
    pub part : IsLine rest
    pub long : length (read_text lines ++ rest) ≡ 1073741824
    pub more : ℕ
    pub takes : Takes before after (read_text lines ++ (rest ++ more ∷ []))
    pub puts : Puts had has shown

  -- A prefix of the text of the lines was written; or, at the end of the input, a prefix of all text.
  pub data WrotePart (lines : List Text) (shown rest : Text) (after had has : Option Text) : Type 0 where
    of_lines : PutsPrefix had has shown → WrotePart lines shown rest after had has
    of_all : (last : Text) → h.ends lines shown last → rest ≡ [] → AtEnd after → PutsPrefix had has (shown ++ last) → WrotePart lines shown rest after had has

  -- a prefix of the text to be written was written
  pub record RanPartly (before after had has : Option Text) : Type 0 where
    pub lines : List Text
    pub shown : Text
    pub reached : Reached h lines shown
    pub rest : Text
    pub takes : Takes before after (read_text lines ++ rest)
    pub wrote : WrotePart lines shown rest after had has

  -- What the loop did, for each ending. It stays folded in proofs until it is opened.
  unfoldable pub Ran : InputEnd R → Option Text → Option Text → Option Text → Option Text → Type 0
  Ran InputEnd.Done before after had has = RanToEnd before after had has
  Ran (InputEnd.BadLine line why) before after had has = RanToBad before after had has line why
  Ran InputEnd.ReadFault before after had has = RanSoFar before after had has
  Ran InputEnd.WriteFault before after had has = RanPartly before after had has
  Ran InputEnd.NoMemory before after had has = RanPartly before after had has
  Ran InputEnd.InputTooLong before after had has = RanTooLong before after had has

  -- ---- pieces

  -- the bytes were handled except for `rest`, and the state before leads to the state after
  unfoldable pub CarriesOn : Option Text → Option Text → State H → State H → Text → Text → Type 0
  CarriesOn has now old new bytes rest = (before after had : Option Text) (ahead : Text) (total : ℕ)
      → SoFar before after had has old (bytes ++ ahead) total → SoFar before after had now new (rest ++ ahead) total

  -- the run ends once the pending text is written, or with a prefix of it written
  pub record Halted (result : InputEnd R) (before after had has : Option Text) (pending : Text) : Type 0 where
    pub ran : (now : Option Text) → Puts has now pending → Ran result before after had now
    pub partly : (now : Option Text) → PutsPrefix has now pending → RanPartly before after had now

  -- the run ends within these bytes, except that text is pending
  unfoldable pub Halts : InputEnd R → Option Text → Option Text → State H → State H → Text → Type 0
  Halts result has now old new bytes = (before after had : Option Text) (ahead : Text) (total : ℕ) → total ≤ 1073741824
      → SoFar before after had has old (bytes ++ ahead) total → Halted result before after had now new.pending

  -- the run ends within these bytes
  unfoldable pub Ends : InputEnd R → Option Text → Option Text → State H → Text → Type 0
  Ends result has now old bytes = (before after had : Option Text) (ahead : Text) (total : ℕ) → total ≤ 1073741824
      → SoFar before after had has old (bytes ++ ahead) total → Ran result before after had now

  -- the run ends at the end of the input
  unfoldable pub Finishes : InputEnd R → Option Text → Option Text → State H → Type 0
  Finishes result has now state = (before after had : Option Text) (total : ℕ) → total ≤ 1073741824 → AtEnd after
      → SoFar before after had has state [] total → Ran result before after had now

-- the ending of a run whose loop stopped
abbrev pub ending_of : {R : Type 0} → Halt R → InputEnd R
ending_of (Halt.BadLine line why) = InputEnd.BadLine line why
ending_of Halt.WriteFault = InputEnd.WriteFault
ending_of Halt.NoMemory = InputEnd.NoMemory
