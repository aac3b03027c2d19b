use Rattle.std.proofs.Common.{◌≡◌, ◌++◌, take}
use Rattle.crsm_audit.specs.Accounts.{own_in, spelt}
use Rattle.crsm_audit.proofs.account.Account.hold_all.Given as goal

-- the own entries before are added, and the rest is as before
abbrev pub invariant-loop-rec : goal.invariant-loop-rec
invariant-loop-rec l =
    (l.self.entries.held ≡ l.initial.self.entries.held ++ spelt (own_in l.initial.self.me (take l.rec-index l.recs)))
    × (l.self.me ≡ l.initial.self.me)
    × (l.self.entries.list ≡ l.initial.self.entries.list)
    × (l.self.dropped.items ≡ l.initial.self.dropped.items)
