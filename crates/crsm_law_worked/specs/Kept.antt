-- Runs over a file with a group whose sync failed, and the run of a replica that the cluster did not begin with.
use Rattle.std.proofs.Common.{Global, Vec, arith}
use Rattle.std.specs.Prelude.{List, [], length, suc, zero, ℕ, ◌<◌, ◌∷◌, ◌≡◌}
use Rattle.crsm_spec.specs.Node.{Turn}
use Rattle.crsm_spec_process.specs.Lives.{Life}
use Rattle.crsm_law_cluster.specs.Clusters.{Event}
use Rattle.crsm_law_cluster.specs.OneList.{one_list}
use Rattle.crsm_law_lives.specs.Events.{lives_of}
use Rattle.crsm_law_restarts.specs.Laws.{IsRightHistory}
use Rattle.crsm_law_restarts.specs.Processes.{Were}
use Rattle.crsm_law_restarts.specs.Runs.{AreRunsOf, Run}
use Rattle.crsm_law_worked.specs.Values.{asked, asked_too, entry_b, kept_life, lost_entry, new_life, third_life}
use Rattle.crsm_law_worked.specs.Orders.{order_for, order_of}
use Rattle.crsm_law_worked.specs.Devices.{Moment, at}
use Rattle.crsm_law_worked.specs.Worked.{first_of}
use Rattle.crsm_node.specs.declared.errors.NodeEnd.TheVariants as ends

-- the run that boots on the file that has the first run's last group, and takes no turn
abbrev pub third_of : (peers : Vec ℕ Global) → length peers.items ≡ 2 → Run Moment
third_of peers two = record { order = order_of 0 peers two; before = Moment.ThirdBegins; after = Moment.ThirdEnds; end = ends.Done }

-- the first run of replica 1
abbrev pub new_of : (peers : Vec ℕ Global) → length peers.items ≡ 2 → Run Moment
new_of peers two = record { order = order_for 1 0 (omega arith) peers two; before = Moment.NewBegins; after = Moment.NewEnds; end = ends.Done }

-- The runs of each node: replica 0's node runs twice over one file, and replica 1's once.
abbrev pub runs_kept : (peers : Vec ℕ Global) → length peers.items ≡ 2 → ℕ → List (Run Moment)
runs_kept peers two zero = first_of peers two ∷ third_of peers two ∷ []
runs_kept peers two (suc zero) = new_of peers two ∷ []
runs_kept peers two (suc (suc k)) = []

-- the processes that they were
abbrev pub kept_lives : List Life
kept_lives = kept_life ∷ third_life ∷ new_life ∷ []

-- all that happened
abbrev pub kept_events : List Event
kept_events =
    Event.Boots 0 ∷ Event.Takes 0 (Turn.In 77 asked) 5 ∷ Event.Takes 0 Turn.Tick 6 ∷ Event.Keeps 0 ∷ Event.Sends 0 ∷ Event.Takes 0 (Turn.In 78 asked_too) 7 ∷ Event.Keeps 0
    ∷ Event.Stops 0 ∷ Event.Boots 1 ∷ Event.Boots 0 ∷ Event.Stops 0 ∷ Event.Stops 1 ∷ []

-- The runs are runs of each node of a cluster that began with one replica, as the law of runs asks. What the first one
-- could not sync is in the file that the next one finds; so it was a process that kept it, what happened is a lawful
-- history, and the entry of which nothing was sent keeps its place.
pub record LostGroupsMayStay (peers : Vec ℕ Global) (two : length peers.items ≡ 2) : Type 0 where
  pub are : (k : ℕ) → k < 15 → AreRunsOf at 1 k (runs_kept peers two k)
  pub were : (k : ℕ) → k < 15 → Were at (runs_kept peers two k) (lives_of k kept_lives)
  pub right : IsRightHistory 1 kept_lives kept_events
  pub list : one_list 1 kept_events ≡ entry_b ∷ lost_entry ∷ []
