-- Runs that meet the premises of the law of runs, and their history.
use Rattle.std.proofs.Common.{Global, Vec}
use Rattle.std.specs.Prelude.{List, [], length, suc, zero, ℕ, ◌<◌, ◌∷◌, ◌≡◌}
use Rattle.crsm_spec.specs.Types.{Answer, Line, Outcome}
use Rattle.crsm_spec.specs.Draft.{Reply}
use Rattle.crsm_spec.specs.Node.{Turn}
use Rattle.crsm_spec_process.specs.Lives.{Life}
use Rattle.crsm_law_cluster.specs.Clusters.{Event}
use Rattle.crsm_law_cluster.specs.Going.{IsReplied}
use Rattle.crsm_law_cluster.specs.OneList.{one_list}
use Rattle.crsm_law_lives.specs.Events.{lives_of}
use Rattle.crsm_law_restarts.specs.Laws.{IsRightHistory}
use Rattle.crsm_law_restarts.specs.Processes.{Were}
use Rattle.crsm_law_restarts.specs.Runs.{AreRunsOf, Run}
use Rattle.crsm_law_worked.specs.Values.{asked, asked_too, entry_b, entry_c, first_life, second_life}
use Rattle.crsm_law_worked.specs.Orders.{order_of}
use Rattle.crsm_law_worked.specs.Devices.{Moment, at}
use Rattle.crsm_node.specs.declared.errors.NodeEnd.TheVariants as ends

-- The run that answers client 7: at its end the disk does nothing any more, as that of a node that is killed.
abbrev pub first_of : (peers : Vec ℕ Global) → length peers.items ≡ 2 → Run Moment
first_of peers two = record { order = order_of 3 peers two; before = Moment.FirstBegins; after = Moment.FirstEnds; end = ends.DiskFault }

-- the run over the file that this one left
abbrev pub second_of : (peers : Vec ℕ Global) → length peers.items ≡ 2 → Run Moment
second_of peers two = record { order = order_of 4 peers two; before = Moment.SecondBegins; after = Moment.SecondEnds; end = ends.Done }

-- The runs of each node: replica 0's node runs twice over one file, and no other node runs.
abbrev pub runs_over : (peers : Vec ℕ Global) → length peers.items ≡ 2 → ℕ → List (Run Moment)
runs_over peers two zero = first_of peers two ∷ second_of peers two ∷ []
runs_over peers two (suc k) = []

-- the processes that they were
abbrev pub lives : List Life
lives = first_life ∷ second_life ∷ []

-- all that happened
abbrev pub happened : List Event
happened =
    Event.Boots 0 ∷ Event.Takes 0 (Turn.In 77 asked) 5 ∷ Event.Takes 0 Turn.Tick 6 ∷ Event.Keeps 0 ∷ Event.Sends 0 ∷ Event.Takes 0 (Turn.In 78 asked_too) 7 ∷ Event.Stops 0
    ∷ Event.Boots 0 ∷ Event.Takes 0 Turn.Tick 1000 ∷ Event.Keeps 0 ∷ Event.Takes 0 Turn.Tick 6000000 ∷ Event.Keeps 0
    ∷ Event.Takes 0 (Turn.Suspect (0 ∷ [])) 6000001 ∷ Event.Keeps 0 ∷ Event.Takes 0 (Turn.In 78 asked_too) 6000002 ∷ Event.Keeps 0 ∷ Event.Sends 0 ∷ Event.Stops 0 ∷ []

-- what client 7 is answered
abbrev pub the_answer : Reply
the_answer = record { address = 77; client = 7; number = 1; says = Outcome.Answered Answer.Done; line = Line.ReplyOk 0 7 1 0 Answer.Done }

-- The runs are runs of each node of a cluster that began with one replica, as the law of runs asks; they were these
-- processes, nobody forges in what happened, so that it is a lawful history, and in it client 7 is answered. The entry
-- keeps its place, and that of client 8 stands behind it, in the next epoch.
pub record WorkedRuns (peers : Vec ℕ Global) (two : length peers.items ≡ 2) : Type 0 where
  pub are : (k : ℕ) → k < 15 → AreRunsOf at 1 k (runs_over peers two k)
  pub were : (k : ℕ) → k < 15 → Were at (runs_over peers two k) (lives_of k lives)
  pub right : IsRightHistory 1 lives happened
  pub replied : IsReplied 1 happened 4 0 the_answer
  pub list : one_list 1 happened ≡ entry_b ∷ entry_c ∷ []
