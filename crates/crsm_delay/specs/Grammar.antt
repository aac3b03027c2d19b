-- The text of the lines of a plan, each without its line feed.
use Rattle.std.specs.Prelude.{ℕ, ◌<◌, ◌^◌, List, [], ◌∷◌, codes}
use Rattle.crsm_text.specs.Words.{named}
use Rattle.crsm_delay.specs.declared.line.PlanLine.{PlanLine}
use Rattle.crsm_delay.specs.declared.line.PlanLine.TheVariants.{Offset, Delay, Command}

abbrev pub line_text : PlanLine → List ℕ
line_text (Offset replica by) = named (codes "offset") (replica ∷ by ∷ [])
line_text (Delay from to by) = named (codes "delay") (from ∷ to ∷ by ∷ [])
line_text (Command replica at) = named (codes "command") (replica ∷ at ∷ [])

-- its numbers can be written
abbrev pub FitsLine : PlanLine → Type 0
FitsLine (Offset replica by) = (replica < 2 ^ 64) × (by < 2 ^ 64)
FitsLine (Delay from to by) = (from < 2 ^ 64) × (to < 2 ^ 64) × (by < 2 ^ 64)
FitsLine (Command replica at) = (replica < 2 ^ 64) × (at < 2 ^ 64)
