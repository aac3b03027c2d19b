use Rattle.std.proofs.Common.{ℕ, take}
use Rattle.crsm_base.specs.Store.{after}
use Rattle.crsm_ledger.specs.Ledger.{LedgerStands}
use Rattle.crsm_spec.specs.Log.{Log, executed}
use Rattle.crsm_cmd_dump.specs.Catalogs.{Lists}
use Rattle.crsm_cmd_dump.proofs.catalog.Catalog.of.Given as goal

-- the entries before this place are followed
abbrev pub invariant-loop-place : goal.invariant-loop-place
invariant-loop-place l = (me n : ℕ) (log : Log) → LedgerStands me n l.ledger log → Lists l.catalog (after (take l.place (executed log)))
