-- Which inputs are accepted, which are refused and for which line, and which are too long.
use Rattle.std.specs.Prelude.{◌≡◌, ◌⊎◌, ℕ, ◌+◌, ◌<◌, ◌≤◌, List, ◌∷◌, ◌++◌, Option, Some, length}
use Rattle.std.specs.List.{AllByRecursion}
use Rattle.crsm_port_faults.specs.Counts.{Rose}
use Rattle.crsm_port_lines.specs.Handling.{Handling, Text}
use Rattle.crsm_port_lines.specs.State.{IsLine, read_text}
use Rattle.crsm_port_lines.specs.Run.{BeginsBad}
use Rattle.crsm_port_lines.specs.declared.lines.LineRefusal.{LineRefusal}
use Rattle.crsm_port_lines.specs.declared.lines.LineRefusal.TheVariants.{Refused, TooLong, Cut}
use Rattle.crsm_port_lines.specs.declared.run.InputEnd.{InputEnd}

module _ {H R : Type 0} (h : Handling H R) where
  -- none of the lines is refused
  abbrev pub Fits : List Text → Type 0
  Fits lines = (before more : List Text) (line shown : Text) (why : R) → lines ≡ before ++ line ∷ more → h.refuses before shown why line → ⊥

  -- the input may end after these lines
  abbrev pub MayEnd : List Text → Type 0
  MayEnd lines = (shown : Text) (why : R) → h.refuses_end lines shown why → ⊥

  -- A handling is exact if it refuses nothing that it can handle, and has one reason for each line or end that it
  -- refuses. A line that is too long is refused as unreadable.
  pub record Exact : Type 0 where
    pub unreadable : R
    pub handled : (handler : H) (lines : List Text) (shown : Text) → h.after handler lines shown → Fits lines
    pub ended : (lines : List Text) (shown last : Text) → h.ends lines shown last → MayEnd lines
    pub one_reason : (lines : List Text) (shown other line : Text) (why w : R) → h.refuses lines shown why line → h.refuses lines other w line → why ≡ w
    pub long_reason : (lines : List Text) (shown line : Text) (why : R) → h.refuses lines shown why line → 16777216 < length line → why ≡ unreadable
    pub one_end : (lines : List Text) (shown other : Text) (why w : R) → h.refuses_end lines shown why → h.refuses_end lines other w → why ≡ w

module _ {H R : Type 0} (h : Handling H R) (x : Exact h) where
  -- the reason that is reported for a bad line
  abbrev pub reason_of : LineRefusal R → R
  reason_of (Refused why) = why
  reason_of TooLong = x.unreadable
  reason_of Cut = x.unreadable

  -- the ending names this line and this reason
  pub record Names (line : ℕ) (why : R) (result : InputEnd R) : Type 0 where
    pub bad : LineRefusal R
    pub told : reason_of bad ≡ why
    pub is : result ≡ InputEnd.BadLine line bad

  -- Each of these holds unless memory ran out.
  abbrev pub IsRefused : ℕ → R → InputEnd R → Type 0
  IsRefused line why result = Names line why result ⊎ (result ≡ InputEnd.NoMemory)

  -- for accepted lines within the limit, after which the input ends and may end
  abbrev pub WhereWhole : Option Text → Type 0 → Type 0
  WhereWhole left P =
      (lines : List Text) → Fits h lines → MayEnd h lines → AllByRecursion IsLine lines → left ≡ Some (read_text lines) → length (read_text lines) ≤ 1073741824 → P

  -- for accepted lines and a bad one after them, within the limit
  abbrev pub WhereBad : Option Text → (ℕ → R → Type 0) → Type 0
  WhereBad left P =
      (lines : List Text) (shown text more : Text) (why : LineRefusal R) → Fits h lines → AllByRecursion IsLine lines → left ≡ Some (read_text lines ++ (text ++ more)) →
      BeginsBad h lines shown (Some more) why text → length (read_text lines ++ text) ≤ 1073741824 → P (length lines + 1) (reason_of why)

  -- for accepted lines and a part of a line up to the limit, with more bytes after it
  abbrev pub WhereTooLong : Option Text → Type 0 → Type 0
  WhereTooLong left P =
      (lines : List Text) (rest more : Text) → Fits h lines → AllByRecursion IsLine lines → IsLine rest →
      length (read_text lines ++ rest) ≡ 1073741824 → 0 < length more → left ≡ Some (read_text lines ++ (rest ++ more)) → P

-- done, or too long, unless memory ran out
abbrev pub IsDone : {R : Type 0} → InputEnd R → Type 0
IsDone result = (result ≡ InputEnd.Done) ⊎ (result ≡ InputEnd.NoMemory)

abbrev pub IsTooLong : {R : Type 0} → InputEnd R → Type 0
IsTooLong result = (result ≡ InputEnd.InputTooLong) ⊎ (result ≡ InputEnd.NoMemory)

-- if no fault of the input or of the output was counted
abbrev pub WhereFaultless : (in_old in_new out_old out_new : ℕ) → Type 0 → Type 0
WhereFaultless in_old in_new out_old out_new P = ¬ (Rose in_old in_new) → ¬ (Rose out_old out_new) → P
