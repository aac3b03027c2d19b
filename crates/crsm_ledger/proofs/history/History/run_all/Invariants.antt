use Rattle.std.proofs.Common.{ℕ, List, ◌++◌, take}
use Rattle.crsm_spec.specs.Types.{Entry}
use Rattle.crsm_ledger.specs.Executed.{Grows, HistoryStands}
use Rattle.crsm_ledger.proofs.history.History.run_all.Given as goal

abbrev pub invariant-loop-entry : goal.invariant-loop-entry
invariant-loop-entry l =
    ((x : ℕ) (es : List Entry) → HistoryStands l.initial.self x es → HistoryStands l.self x (es ++ take l.entry-index l.entries))
    × Grows l.initial.self l.self
