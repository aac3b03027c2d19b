use Rattle.std.proofs.Common.{◌≡◌, ℕ, ◌≤◌, List, length, take}
use Rattle.crsm_ledger.specs.Ledger.{LedgerStands}
use Rattle.crsm_spec.specs.Types.{Entry}
use Rattle.crsm_spec.specs.Lists.{IsPrefixOf}
use Rattle.crsm_spec.specs.Log.{Log, executed}
use Rattle.crsm_audit.specs.Accounts.{spelt}
use Rattle.crsm_audit.proofs.account.Account.follow.Given as goal

-- the list has the entries up to this place, and the rest is as before
abbrev pub invariant-loop-place : goal.invariant-loop-place
invariant-loop-place l =
    ((me n : ℕ) (log : Log) (es : List Entry) → LedgerStands me n l.ledger log → IsPrefixOf es (executed log) → l.initial.self.entries.list ≡ spelt es
    → (l.self.entries.list ≡ spelt (take l.place (executed log))) × (l.place ≤ length (executed log)))
    × (l.self.me ≡ l.initial.self.me)
    × (l.self.entries.held ≡ l.initial.self.entries.held)
    × (l.self.dropped.items ≡ l.initial.self.dropped.items)
