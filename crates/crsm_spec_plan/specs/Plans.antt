-- The moments at which the command of a plan arrives, is acknowledged and commits.
use Rattle.std.specs.Prelude.{ℕ, ◌+◌, ◌-◌, ◌<◌, ◌≤◌, ◌==◌, ◌&&◌, not, max, if◌then◌else◌, List, ◌∷◌, map, filter, find}
use Rattle.std.specs.Option.{option_map_or}
use Rattle.crsm_spec.specs.Lists.{greatest, numbers_below}
use Rattle.crsm_spec_plan.specs.declared.plan.Plan.{Plan}

-- ---- delays and clocks

-- the delay of a datagram from a to b: 0 from a replica to itself, and where the plan names none
unfoldable pub delay_of : Plan → ℕ → ℕ → ℕ
delay_of plan a b =
    if a == b then 0 else option_map_or (λ d. d.by) (find (λ d. d.from == a && d.to == b) plan.delays) 0

-- how far the clock of k is ahead: 0 where the plan names no offset
unfoldable pub offset_of : Plan → ℕ → ℕ
offset_of plan k = option_map_or (λ o. o.by) (find (λ o. o.replica == k) plan.offsets) 0

-- the reading of k's clock at a moment of real time
unfoldable pub reading : Plan → ℕ → ℕ → ℕ
reading plan k moment = moment + offset_of plan k

-- the time of the command's timestamp: the reading of the origin's clock when the command reaches it
unfoldable pub stamped : Plan → ℕ
stamped plan = reading plan plan.origin plan.at

-- ---- the moment of the commit

-- the replicas other than the origin
unfoldable pub others : Plan → List ℕ
others plan = filter (λ k. not (k == plan.origin)) (numbers_below plan.n)

-- the moment at which the command's entry reaches k
unfoldable pub arrival : Plan → ℕ → ℕ
arrival plan k = plan.at + delay_of plan plan.origin k

-- the moment at which k acknowledges the entry: it was received, and k's clock is past its timestamp
unfoldable pub ok_at : Plan → ℕ → ℕ
ok_at plan k = max (arrival plan k) (stamped plan + 1 - offset_of plan k)

-- the moment at which i executes it: when the last acknowledgement is received; at once in a cluster of one replica
unfoldable pub commit_at : Plan → ℕ → ℕ
commit_at plan i = greatest (plan.at ∷ map (λ k. ok_at plan k + delay_of plan k i) (others plan))

-- ---- which plans there are

abbrev pub most_moment : ℕ
most_moment = 1000000000000

abbrev pub most_delay : ℕ
most_delay = 1000000000

-- bounds of a plan's numbers: 1 to 15 replicas, the origin is one of them, and its clock does not read 0
pub record FitsPlan (plan : Plan) : Type 0 where
  pub some : 1 ≤ plan.n
  pub most : plan.n ≤ 15
  pub origin : plan.origin < plan.n
  pub at : plan.at ≤ most_moment
  pub offsets : (k : ℕ) → offset_of plan k ≤ most_moment
  pub delays : (a b : ℕ) → delay_of plan a b ≤ most_delay
  pub reads : 1 ≤ stamped plan
