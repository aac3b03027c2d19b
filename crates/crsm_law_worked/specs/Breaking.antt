-- Runs over disks that lose what was synced: a premise of the law of runs fails, and agreement with it.
use Rattle.std.proofs.Common.{Global, Vec, refl}
use Rattle.std.specs.Prelude.{List, None, [], false, length, ℕ, ◌∷◌, ◌≡◌, ◌≤◌}
use Rattle.crsm_spec.specs.Types.{Entry}
use Rattle.crsm_spec.specs.Lists.{Among}
use Rattle.crsm_spec.specs.Log.{executed}
use Rattle.crsm_spec.specs.Draft.{Draft}
use Rattle.crsm_spec_process.specs.Lives.{Life, kept_steps}
use Rattle.crsm_disk.specs.Meaning.{Meaning as DiskMeaning}
use Rattle.crsm_node.specs.Running.{Devices, RunsOverCluster}
use Rattle.crsm_law_restarts.specs.Processes.{Were}
use Rattle.crsm_law_restarts.specs.Runs.{HasNoBody, IsRunOf, Run}
use Rattle.crsm_law_worked.specs.Values.{first_life, other_life}
use Rattle.crsm_law_worked.specs.Orders.{order_of}
use Rattle.crsm_law_worked.specs.Devices.{Moment, at, none_told}
use Rattle.crsm_law_worked.specs.Worked.{first_of}
use Rattle.crsm_node.specs.declared.errors.NodeEnd.TheVariants as ends

-- the run that answers client 8 in place of client 7
abbrev pub other_of : (peers : Vec ℕ Global) → length peers.items ≡ 2 → Run Moment
other_of peers two = record { order = order_of 1 peers two; before = Moment.OtherBegins; after = Moment.OtherEnds; end = ends.Done }

-- A step that the process kept has executed this entry, and no other.
pub record Executes (n : ℕ) (l : Life) (e : Entry) : Type 0 where
  pub step : Draft
  pub kept : Among (kept_steps n l) step
  pub list : executed step.replica.log ≡ e ∷ []

-- Of two processes, steps that they kept have executed different entries at the first place.
pub record Disagree (n : ℕ) (l m : Life) : Type 0 where
  pub first : Entry
  pub did : Executes n l first
  pub second : Entry
  pub does : Executes n m second
  pub differ : first ≡ second → ⊥

-- Two runs of a node over honest disks, of which the second finds an empty file, which the first cannot leave: the
-- processes that they were disagree.
pub record LostFilesBreak (peers : Vec ℕ Global) (two : length peers.items ≡ 2) : Type 0 where
  pub first : IsRunOf at 1 0 (first_of peers two)
  pub second : IsRunOf at 1 0 (other_of peers two)
  pub finds : (at Moment.OtherBegins).disk.may_leave []
  pub not_left : (at Moment.FirstEnds).disk.may_leave [] → ⊥
  pub were : Were at (first_of peers two ∷ other_of peers two ∷ []) (first_life ∷ other_life ∷ [])
  pub disagree : Disagree 1 first_life other_life

-- ---- a disk that forgets

-- A disk that is not honest: nothing that was synced to it is there.
abbrev pub forgetful : ℕ → DiskMeaning
forgetful faults = record {
  seen = [];
  honest = false;
  may_leave = λ c. c ≡ [];
  moment = 0;
  left_since = λ t c. c ≡ [];
  history = None;
  plan = None;
  fill = None;
  faults = faults;
  renewed = None;
  borrowed_as = None;
  as_read = λ _. refl;
  as_told = none_told [];
  counts_now = λ t c le left. left;
  only_now = λ c left. left;
}

-- the devices of the runs, but with such a disk
abbrev pub forgetting : Moment → Devices
forgetting m = record (at m) { disk = forgetful (at m).disk.faults }

-- Two runs of a node over a disk that is not honest. All else is as the law of runs asks, and the processes that they
-- were disagree.
pub record ForgetfulDisksBreak (peers : Vec ℕ Global) (two : length peers.items ≡ 2) : Type 0 where
  pub first : RunsOverCluster (order_of 3 peers two) (forgetting Moment.FirstBegins) (forgetting Moment.FirstEnds) ends.DiskFault
  pub second : RunsOverCluster (order_of 1 peers two) (forgetting Moment.OtherBegins) (forgetting Moment.OtherEnds) ends.Done
  pub no_body : (file : List ℕ) → (forgetting Moment.FirstBegins).disk.may_leave file → HasNoBody file
  pub left : (file : List ℕ) → (forgetting Moment.OtherBegins).disk.may_leave file → (forgetting Moment.FirstEnds).disk.may_leave file
  pub dishonest : (m : Moment) → (forgetting m).disk.honest ≡ false
  pub were : Were forgetting (first_of peers two ∷ other_of peers two ∷ []) (first_life ∷ other_life ∷ [])
  pub disagree : Disagree 1 first_life other_life

-- A cluster in which a node runs began with at most 15 replicas: this premise excludes no run.
abbrev pub ClustersAreSmall : Type 0
ClustersAreSmall = (n k : ℕ) (x : Run Moment) → IsRunOf at n k x → n ≤ 15
