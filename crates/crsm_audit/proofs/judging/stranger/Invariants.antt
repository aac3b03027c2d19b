use Rattle.std.proofs.Common.{ℕ, ◌<◌}
use Rattle.crsm_audit.specs.Judging.{OriginsStand, StrangeAt}
use Rattle.crsm_audit.specs.Lists.{WhereNamed}
use Rattle.crsm_audit.proofs.judging.stranger.Given as goal

-- each entry before was logged by its origin
abbrev pub invariant-loop-index : goal.invariant-loop-index
invariant-loop-index l =
    OriginsStand l.accounts l.origins × WhereNamed l.one.list (λ places. (q : ℕ) → q < l.index → StrangeAt l.accounts l.one.list places q → ⊥)
