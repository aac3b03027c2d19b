-- The lines of a plan: what has been read with each of them.
use Rattle.std.specs.Prelude.{◌≡◌, ◌≢◌, ℕ, true, List, [], ◌∷◌, ◌++◌, Option, Some, None}
use Rattle.crsm_port_lines.specs.Handling.{Text}
use Rattle.crsm_schedule.specs.Grammar.{IsSize, first_text}
use Rattle.crsm_delay.specs.Grammar.{FitsLine, line_text}
use Rattle.crsm_delay.specs.Drafts.{can_follow, empty, with_line}
use Rattle.crsm_delay.specs.declared.line.PlanLine.{PlanLine}
use Rattle.crsm_delay.specs.declared.draft.Draft.{Draft}

-- ---- one line

-- the text is that of a line that can stand there, and this is what has been read with it
pub data Advanced : Option Draft → Text → Option Draft → Type 0 where
  IsFirst : (n : ℕ) → IsSize n → Advanced None (first_text n) (Some (empty n))
  IsNext : (d : Draft) (line : PlanLine) → FitsLine line → can_follow d line ≡ true → Advanced (Some d) (line_text line) (Some (with_line d line))

-- the same, shut: a proof opens it where it needs what is in it
unfoldable pub Advances : Option Draft → Text → Option Draft → Type 0
Advances old text new = Advanced old text new

-- the text is not that of a line that can follow
abbrev pub RefusedAfter : Option Draft → Text → Type 0
RefusedAfter None text = (n : ℕ) → IsSize n → text ≢ first_text n
RefusedAfter (Some d) text = (line : PlanLine) → FitsLine line → can_follow d line ≡ true → text ≢ line_text line

-- ---- lines one behind another

-- the lines of a plan that were read
pub data Reads : List Text → Option Draft → Type 0 where
  nothing : Reads [] None
  more : {texts : List Text} {old new : Option Draft} (text : Text) → Reads texts old → Advanced old text new → Reads (texts ++ text ∷ []) new

-- some lines of a plan were read so
pub record IsRead (draft : Option Draft) : Type 0 where
  pub texts : List Text
  pub reads : Reads texts draft
