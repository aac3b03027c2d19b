-- Nodes that are started wrongly: a premise of the law of runs fails, and what it says of them.
use Rattle.std.proofs.Common.{Global, Vec, arith}
use Rattle.std.specs.Prelude.{List, [], length, ℕ, ◌∷◌, ◌≡◌}
use Rattle.crsm_spec.specs.Node.{Turn}
use Rattle.crsm_spec.specs.Step.{boot}
use Rattle.crsm_law_cluster.specs.Clusters.{Event}
use Rattle.crsm_law_cluster.specs.OneList.{one_list}
use Rattle.crsm_law_lives.specs.Laws.{IsRightStep}
use Rattle.crsm_node.specs.Sent.{packets_gone}
use Rattle.crsm_law_restarts.specs.Laws.{IsRightHistory}
use Rattle.crsm_law_restarts.specs.Processes.{Were}
use Rattle.crsm_law_restarts.specs.Runs.{AreRunsOf, FollowEachOther, HasNoBody, IsRunOf, Run}
use Rattle.crsm_law_worked.specs.Values.{answered_too, asked_too, first_life, lost_entry, other_life, used_life}
use Rattle.crsm_law_worked.specs.Files.{used_file}
use Rattle.crsm_law_worked.specs.Orders.{order_for}
use Rattle.crsm_law_worked.specs.Devices.{Moment, at, packet}
use Rattle.crsm_law_worked.specs.Worked.{first_of}
use Rattle.crsm_law_worked.specs.Breaking.{Disagree, Executes, other_of}
use Rattle.crsm_node.specs.declared.errors.NodeEnd.TheVariants as ends

-- ---- another replica's number

-- The node of replica 1 is started with the number 0. Its run, and that of replica 0, is one that the law of runs asks
-- of that number; the processes that they were disagree.
pub record SharedNumbersBreak (peers : Vec ℕ Global) (two : length peers.items ≡ 2) : Type 0 where
  pub zeroth : AreRunsOf at 1 0 (first_of peers two ∷ [])
  pub same : AreRunsOf at 1 0 (other_of peers two ∷ [])
  pub not_own : IsRunOf at 1 1 (other_of peers two) → ⊥
  pub was : Were at (first_of peers two ∷ []) (first_life ∷ [])
  pub was_same : Were at (other_of peers two ∷ []) (other_life ∷ [])
  pub disagree : Disagree 1 first_life other_life

-- ---- a file that was used

-- the run of replica 1 that finds a file of another cluster, boots on it, and takes no turn
abbrev pub used_of : (peers : Vec ℕ Global) → length peers.items ≡ 2 → Run Moment
used_of peers two = record { order = order_for 1 0 (omega arith) peers two; before = Moment.UsedBegins; after = Moment.UsedEnds; end = ends.Done }

-- The first run of replica 1 finds a file in which an entry is executed. All else is as the law of runs asks, and the
-- process that it was disagrees with that of replica 0.
pub record UsedFilesBreak (peers : Vec ℕ Global) (two : length peers.items ≡ 2) : Type 0 where
  pub zeroth : AreRunsOf at 1 0 (first_of peers two ∷ [])
  pub first : FollowEachOther at 1 1 (λ file. file ≡ used_file) (used_of peers two ∷ [])
  pub has_bodies : HasNoBody used_file → ⊥
  pub was : Were at (first_of peers two ∷ []) (first_life ∷ [])
  pub was_used : Were at (used_of peers two ∷ []) (used_life ∷ [])
  pub disagree : Disagree 1 first_life used_life

-- ---- a wrong size

-- the events of the process that answers client 8
abbrev pub events_alone : List Event
events_alone = Event.Boots 0 ∷ Event.Takes 0 (Turn.In 78 asked_too) 7 ∷ Event.Keeps 0 ∷ Event.Sends 0 ∷ Event.Stops 0 ∷ []

-- The node of replica 0 is told that the cluster began with one replica, where it began with three, and all else is as
-- the law of runs asks. It executes an entry and answers its client; but the history that its process makes in the
-- cluster of three is lawful, and nothing is executed in it: that step is wrong.
pub record WrongSizesBreak (peers : Vec ℕ Global) (two : length peers.items ≡ 2) : Type 0 where
  pub told_one : AreRunsOf at 1 0 (other_of peers two ∷ [])
  pub not_three : IsRunOf at 3 0 (other_of peers two) → ⊥
  pub was : Were at (other_of peers two ∷ []) (other_life ∷ [])
  pub executes : Executes 1 other_life lost_entry
  pub answers : packets_gone peers.items (boot 0 1 []).replica other_life.groups ≡ packet 78 answered_too ∷ []
  pub right : IsRightHistory 3 (other_life ∷ []) events_alone
  pub none : one_list 3 events_alone ≡ []
  pub wrong : IsRightStep 3 events_alone 0 executes.step → ⊥
