-- The effects of a dump, by how it ended.
use Rattle.std.specs.Prelude.{◌≡◌, ◌⊎◌, ℕ, ◌<◌, ◌≤◌, length, Option, Some}
use Rattle.crsm_base.specs.Limits.{most_log_bytes}
use Rattle.crsm_io.specs.Streams.{AtEnd, Puts, PutsPrefix, Takes}
use Rattle.crsm_port_faults.specs.Counts.{Rose}
use Rattle.crsm_cmd_dump.specs.Dumps.{IsDump, IsRefused}
use Rattle.crsm_cmd_dump.specs.Texts.{Text}
use Rattle.crsm_cmd_dump.specs.declared.ending.DumpEnd.{DumpEnd}
use Rattle.crsm_cmd_dump.specs.declared.part.Part.{Part}

-- In each of these the source had `before` and has `after` left, and the sink had `had` and has `has` written.

-- all of the input was read, and it is not longer than a log file may be
pub record ReadAll (before after : Option Text) (file : Text) : Type 0 where
  pub takes : Takes before after file
  pub ended : AtEnd after
  pub within : length file ≤ most_log_bytes

-- more than the longest log file was read
pub record ReadTooMuch (before after : Option Text) : Type 0 where
  pub taken : Text
  pub takes : Takes before after taken
  pub more : most_log_bytes < length taken

-- the dump of a file was written
pub record RanToEnd (me n : ℕ) (part : Part) (before after had has : Option Text) : Type 0 where
  pub file : Text
  pub text : Text
  pub read : ReadAll before after file
  pub is : IsDump me n part file text
  pub puts : Puts had has text

-- a file was refused, and nothing was written
pub record RanToBad (me n : ℕ) (before after had has : Option Text) (entry why : ℕ) : Type 0 where
  pub file : Text
  pub read : ReadAll before after file
  pub bad : IsRefused me n file entry why
  pub nothing : has ≡ had

-- a prefix of the dump of a file was written
pub record RanPartly (me n : ℕ) (part : Part) (before after had has : Option Text) : Type 0 where
  pub file : Text
  pub text : Text
  pub read : ReadAll before after file
  pub is : IsDump me n part file text
  pub puts : PutsPrefix had has text

-- a part of the input was read, and nothing was written
abbrev pub RanSoFar : (before after had has : Option Text) → Type 0
RanSoFar before after had has = (has ≡ had) × (taken : Text) × Takes before after taken

-- more than the longest log file was read, and nothing was written
abbrev pub RanTooLong : (before after had has : Option Text) → Type 0
RanTooLong before after had has = (has ≡ had) × ReadTooMuch before after

unfoldable pub Ran : (me n : ℕ) → Part → DumpEnd → (before after had has : Option Text) → Type 0
Ran me n part DumpEnd.Done before after had has = RanToEnd me n part before after had has
Ran me n part (DumpEnd.BadLog entry why) before after had has = RanToBad me n before after had has entry why
Ran me n part DumpEnd.ReadFault before after had has = RanSoFar before after had has
Ran me n part DumpEnd.WriteFault before after had has = RanPartly me n part before after had has
Ran me n part DumpEnd.NoMemory before after had has = RanSoFar before after had has
Ran me n part DumpEnd.LogTooLong before after had has = RanTooLong before after had has

-- ---- answers that are exact

-- for a file that is no longer than a log file may be, and its dump
abbrev pub WhereLog : (me n : ℕ) → Part → Option Text → (Text → Type 0) → Type 0
WhereLog me n part left P = (file text : Text) → left ≡ Some file → length file ≤ most_log_bytes → IsDump me n part file text → P text

-- for such a file on which a boot is refused
abbrev pub WhereRefused : (me n : ℕ) → Option Text → (ℕ → ℕ → Type 0) → Type 0
WhereRefused me n left P =
    (file : Text) (entry why : ℕ) → left ≡ Some file → length file ≤ most_log_bytes → IsRefused me n file entry why → P entry why

-- for a longer input
abbrev pub WhereTooLong : Option Text → Type 0 → Type 0
WhereTooLong left P = (file : Text) → left ≡ Some file → most_log_bytes < length file → P

-- if no fault of the input or of the output was counted
abbrev pub WhereFaultless : (in_old in_new out_old out_new : ℕ) → Type 0 → Type 0
WhereFaultless in_old in_new out_old out_new P = ¬ (Rose in_old in_new) → ¬ (Rose out_old out_new) → P

-- it ended so, unless memory ran out
abbrev pub Ends : DumpEnd → DumpEnd → Type 0
Ends ending result = (result ≡ ending) ⊎ (result ≡ DumpEnd.NoMemory)

-- the text was written, unless memory ran out
abbrev pub Dumps : (had has : Option Text) → DumpEnd → Text → Type 0
Dumps had has result text = ((result ≡ DumpEnd.Done) × Puts had has text) ⊎ (result ≡ DumpEnd.NoMemory)
