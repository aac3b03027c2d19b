use Rattle.std.proofs.Common.{◌≡◌, ℕ, List, ◌++◌, drop}
use Rattle.crsm_spec.specs.Types.{Rec}
use Rattle.crsm_spec.specs.Log.{executed}
use Rattle.crsm_ledger.specs.Ledger.{LedgerStands}
use Rattle.crsm_transfer.proofs.PageLemmas.{IsBegun}
use Rattle.crsm_transfer.proofs.paging.entries_from.Given as goal

abbrev pub invariant-loop-place : goal.invariant-loop-place
invariant-loop-place l = record {
  begun : IsBegun l.entries l.room;
  done : (me n : ℕ) (log : List Rec) → LedgerStands me n l.ledger log → l.entries ++ drop l.place (executed log) ≡ drop l.fn.from (executed log);
}
