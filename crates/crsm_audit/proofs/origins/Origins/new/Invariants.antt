use Rattle.std.proofs.Common.{◌≡◌, ℕ, ◌<◌, get_or, length}
use Rattle.std.specs.Prelude.{MatchOption, None}
use Rattle.crsm_audit.specs.Judging.{IsLast, IsOfNone}
use Rattle.crsm_audit.proofs.origins.Origins.new.Given as goal

-- the last account of each node among those before is known
abbrev pub invariant-loop-node : goal.invariant-loop-node
invariant-loop-node l = (length l.last ≡ 15) × ((k : ℕ) → k < l.node → MatchOption (get_or l.last k None) (IsOfNone l.accounts k) (IsLast l.accounts k))
