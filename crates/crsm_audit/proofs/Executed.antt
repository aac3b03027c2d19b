-- What a ledger that stands for some log gives out as executed.
use Rattle.std.proofs.Common.{◌≡◌, ℕ, ◌<◌, List, length, refl, sym, ◌∙◌, ap, arith}
use Rattle.std.specs.Prelude.{Option, Some, None, slice_get}
use Rattle.std.specs.Option.{option_map}
use Rattle.std.proofs.lemmas.List.{length-map}
use Rattle.std.proofs.lemmas.Option.{none-some, same_Some}
use Rattle.crsm_base.specs.Spelling.{FitsEntry, entry_bytes}
use Rattle.crsm_ledger.specs.declared.ledger.Ledger.{Ledger}
use Rattle.crsm_ledger.specs.Ledger.{LedgerStands, executed_count}
use Rattle.crsm_ledger.specs.Pieces.{IsSpelling}
use Rattle.crsm_replica_rerun.specs.Replaying.{IsOfSome}
use Rattle.crsm_spec.specs.Log.{Log, executed}
use Rattle.crsm_spec.specs.Types.{Entry}
use Rattle.crsm_audit.proofs.Searching.{all_got, some_at}

-- bytes that it gives out are the encoding of an entry
pub executed_entry : (ledger : Ledger) (place : ℕ) (bytes : List ℕ) → IsOfSome ledger
    → ((me n : ℕ) (log : Log) → LedgerStands me n ledger log → Some bytes ≡ option_map entry_bytes (slice_get (executed log) place)) → IsSpelling bytes
executed_entry ledger place bytes o says = go (slice_get (executed o.log) place) refl (says o.me o.n o.log o.says)
  where
    go : (found : Option Entry) → slice_get (executed o.log) place ≡ found → Some bytes ≡ option_map entry_bytes found → IsSpelling bytes
    go None is e = absurd (none-some bytes (sym e))
    go (Some x) is e = record { entry = x; fits = all_got FitsEntry (executed o.log) place x o.says.says.executed.fit is; is = same_Some bytes (entry_bytes x) e }

-- and it has such bytes at each place of an executed entry
pub executed_there : (ledger : Ledger) (place : ℕ) → IsOfSome ledger → place < executed_count ledger
    → ((me n : ℕ) (log : Log) → LedgerStands me n ledger log → None ≡ option_map entry_bytes (slice_get (executed log) place)) → ⊥
unfolding executed_count
executed_there ledger place o less says =
    let count : length ledger.held.history.spelt ≡ length (executed o.log) = ap length o.says.says.executed.spelt ∙ length-map (executed o.log) entry_bytes in
    let x = some_at (executed o.log) place (omega (arith, count, less)) in
    none-some (entry_bytes x.0) (says o.me o.n o.log o.says ∙ ap (option_map entry_bytes) x.1)
