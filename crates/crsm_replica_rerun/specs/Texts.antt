-- The text of a replayed sheet.
use Rattle.std.specs.Prelude.{◌≡◌, ℕ, ◌+◌, ◌-◌, List, [], ◌∷◌, ◌++◌, map, length}
use Rattle.crsm_base.specs.declared.Line.{Line}
use Rattle.crsm_base.specs.Messages.{datagram_bytes}
use Rattle.crsm_spec.specs.Types.{Datagram}
use Rattle.crsm_spec.specs.Draft.{Draft, Reply}
use Rattle.crsm_spec.specs.World.{Site, final_line}
use Rattle.crsm_schedule.specs.Transcript.{line_text, lines_text}
use Rattle.crsm_text_sheet.specs.declared.line.SheetLine.{SheetLine}
use Rattle.crsm_replica_rerun.specs.Sheets.{IsSheet, replica_of, steps_of}

-- the line of a datagram to a replica
abbrev pub out_line : ℕ × Datagram → Line
out_line s = Line.Out s.0 (datagram_bytes s.1)

-- the line of a reply to a client
abbrev pub back_line : Reply → Line
back_line a = Line.Back a.address (datagram_bytes (Datagram.Reply a.client a.number a.says))

-- The lines of a step: those of its records and of refused collections, then its datagrams to replicas, then its
-- replies.
unfoldable pub step_lines : Draft → List Line
step_lines x = x.lines ++ x.excess ++ (map out_line x.sends ++ map back_line x.replies)

-- Steps one behind another, each behind the number of its line. The first one's is `at`.
unfoldable pub steps_text : ℕ → List Draft → List ℕ
steps_text at [] = []
steps_text at (x ∷ xs) = lines_text at (step_lines x) ++ steps_text (at + 1) xs

-- The text of the steps that lines lead to, where the first line has the number `first`. The last step is that of the
-- last line.
unfoldable pub shown_text : ℕ → List SheetLine → List Draft → List ℕ
shown_text first lines steps = steps_text (first + (length lines - length steps)) steps

-- how the replica of a sheet stands at its end
abbrev pub ending_of : {me n : ℕ} {lines : List SheetLine} → IsSheet me n lines → Line
ending_of {me} sheet = final_line (me, Site.Up (replica_of sheet))

-- The text that a sheet is replayed to, where its first line has the number `first`: that of its steps, and the final
-- line.
pub record IsNodeText (me n first : ℕ) (lines : List SheetLine) (text : List ℕ) : Type 0 where
  pub sheet : IsSheet me n lines
  pub is : text ≡ shown_text first lines (steps_of sheet) ++ line_text 0 (ending_of sheet)
