-- The result of a parser.
use Rattle.std.specs.Prelude.{◌≡◌, Result, Ok, Err}
use Rattle.crsm_text.specs.declared.error.LineError.{LineError}
use Rattle.crsm_text.specs.declared.error.LineError.TheVariants.{NoMemory}

-- the parser returns this value, unless memory runs out
abbrev pub ReadsAs : {X : Type 0} → Result X LineError → X → Type 0
ReadsAs (Ok x) y = x ≡ y
ReadsAs (Err e) y = e ≡ NoMemory
