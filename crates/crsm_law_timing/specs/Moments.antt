-- The moments of a plan in its own terms.
use Rattle.std.specs.Prelude.{◌≡◌, ℕ, ◌+◌, ◌<◌, ◌≤◌, map}
use Rattle.crsm_spec.specs.Lists.{greatest}
use Rattle.crsm_spec_plan.specs.declared.Plan.{Plan}
use Rattle.crsm_spec_plan.specs.Plans.{arrival, commit_at, delay_of, ok_at, others, reading, stamped}

-- A single replica executes the command at its arrival, and each of several when it has received the last
-- acknowledgement. A replica acknowledges the command at its arrival if its clock is past the timestamp, and otherwise
-- when its clock reads one more than that.
pub record MomentsAreSo : Type 0 where
  pub alone : (plan : Plan) (i : ℕ) → plan.n ≡ 1 → plan.origin < plan.n → commit_at plan i ≡ plan.at
  pub last : (plan : Plan) (i : ℕ) → 2 ≤ plan.n → commit_at plan i ≡ greatest (map (λ k. ok_at plan k + delay_of plan k i) (others plan))
  pub at_once : (plan : Plan) (k : ℕ) → stamped plan < reading plan k (arrival plan k) → ok_at plan k ≡ arrival plan k
  pub waits : (plan : Plan) (k : ℕ) → reading plan k (arrival plan k) ≤ stamped plan → reading plan k (ok_at plan k) ≡ stamped plan + 1
