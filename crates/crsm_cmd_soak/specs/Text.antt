-- The text written of a run.
use Rattle.std.specs.Prelude.{ℕ, List, [], ◌∷◌, ◌++◌, codes}
use Rattle.crsm_text.specs.Words.{named}
use Rattle.crsm_world.specs.Schedule.{Schedule, finals_text}
use Rattle.crsm_cmd_soak.specs.Soak.{summary_of}
use Rattle.crsm_cmd_soak.specs.declared.summary.Summary.{Summary}

-- a line of a word and a number
unfoldable pub row : List ℕ → ℕ → List ℕ
row name value = named name (value ∷ []) ++ 10 ∷ []

unfoldable pub summary_text : Summary → List ℕ
summary_text s =
    row (codes "steps") s.steps ++ row (codes "submitted") s.submitted ++ row (codes "executed") s.executed ++ row (codes "answered") s.answered
    ++ row (codes "refused") s.refused ++ row (codes "dropped") s.dropped ++ row (codes "epoch") s.epoch ++ row (codes "datagrams") s.datagrams

-- the summary of a schedule's run, and its final lines
unfoldable pub soak_text : Schedule → List ℕ
soak_text s = summary_text (summary_of s) ++ finals_text s
