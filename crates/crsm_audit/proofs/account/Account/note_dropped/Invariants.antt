use Rattle.std.proofs.Common.{◌≡◌, ◌++◌, take}
use Rattle.crsm_audit.specs.Accounts.{dropped_in}
use Rattle.crsm_audit.proofs.account.Account.note_dropped.Given as goal

-- the commands that the lines before report as dropped are added, and the rest is as before
abbrev pub invariant-loop-line : goal.invariant-loop-line
invariant-loop-line l =
    (l.self.dropped.items ≡ l.initial.self.dropped.items ++ dropped_in l.at (take l.line-index l.lines))
    × (l.self.me ≡ l.initial.self.me)
    × (l.self.entries.list ≡ l.initial.self.entries.list)
    × (l.self.entries.held ≡ l.initial.self.entries.held)
