-- The key of an operation, and which answers have a value.
use Rattle.std.specs.Prelude.{ℕ, List, Bool, true, false}
use Rattle.crsm_base.specs.declared.command.Op.{Op}
use Rattle.crsm_base.specs.declared.command.Op.TheVariants.{Get, Put, Delete, Cas}
use Rattle.crsm_base.specs.declared.answer.Answer.{Answer}
use Rattle.crsm_base.specs.declared.answer.Answer.TheVariants as answer

-- the key that the operation reads or sets
abbrev pub key_of : Op → List ℕ
key_of (Get key) = key
key_of (Put key value) = key
key_of (Delete key) = key
key_of (Cas key expected new) = key

-- the answer has a value that was read, or may have one, so that a copy of it may take memory
abbrev pub has_value : Answer → Bool
has_value (answer.Found value) = true
has_value answer.Missing = false
has_value answer.Done = false
has_value (answer.Differs value) = true
has_value (answer.Stale number) = false
has_value answer.NoRoom = false
