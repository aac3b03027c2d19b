-- The transcript lines of records and replies.
use Rattle.std.specs.Prelude.{ℕ, ◌+◌, ◌==◌, if◌then◌else◌, List, [], ◌∷◌, ◌++◌, length, option_to_list}
use Rattle.crsm_spec.specs.Types.{Entry, Rec, Line}
use Rattle.crsm_base.specs.Store.{answer_after}
use Rattle.crsm_spec.specs.Log.{Log, entry_of, executed, boots}

-- the line of an entry that replica me executes after these
unfoldable pub exec_line : ℕ → List Entry → Entry → Line
exec_line me done e =
    Line.Exec me (length done) e.epoch e.stamp e.command.client e.command.number (answer_after done e)

-- the lines of entries that are executed after these
unfoldable pub exec_lines : ℕ → List Entry → List Entry → List Line
exec_lines me done [] = []
exec_lines me done (e ∷ es) = exec_line me done e ∷ exec_lines me (done ++ e ∷ []) es

-- The lines of a record that is appended to this log.
unfoldable pub lines_of : ℕ → Log → Rec → List Line
lines_of me log (Rec.Boot m n) = Line.Boot me (boots log + 1) ∷ []
lines_of me log (Rec.Prepare e) =
    (if e.stamp.origin == me then Line.Submit me e.epoch e.stamp.time e.command.client e.command.number
    else Line.Log me e.epoch e.stamp) ∷ []
lines_of me log (Rec.Commit s) =
    exec_lines me (executed log) (option_to_list (entry_of log s))
lines_of me log (Rec.Adopt place es) = exec_lines me (executed log) es
lines_of me log (Rec.Suspend x) = Line.Suspend me x ∷ []
lines_of me log (Rec.Promise i b) = Line.Promise me i b.round b.by ∷ []
lines_of me log (Rec.Accept i b d) = Line.Accept me i b.round b.by ∷ []
lines_of me log (Rec.Decide d) = Line.Decide me d.epoch d.members d.base_len (length d.tail) ∷ []
lines_of me log (Rec.Enter x) = Line.Enter me x ∷ []
