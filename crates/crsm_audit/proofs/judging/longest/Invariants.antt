use Rattle.std.proofs.Common.{◌≡◌, take}
use Rattle.crsm_audit.specs.Lists.{longest_of}
use Rattle.crsm_audit.proofs.judging.longest.Given as goal

-- it is the longest of those before
abbrev pub invariant-loop-account : goal.invariant-loop-account
invariant-loop-account l = l.best.list ≡ longest_of (take l.account-index l.accounts)
