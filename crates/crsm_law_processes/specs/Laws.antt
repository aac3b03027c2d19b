-- The laws of processes over log files.
use Rattle.std.specs.Prelude.{ℕ, ◌≤◌, List}
use Rattle.crsm_spec.specs.Lists.{Among}
use Rattle.crsm_spec.specs.Draft.{Draft}
use Rattle.crsm_spec_process.specs.Lives.{Life, kept_steps}
use Rattle.crsm_law_cluster.specs.Clusters.{Event}
use Rattle.crsm_law_cluster.specs.ClusterLaws.{IsHistory}
use Rattle.crsm_law_lives.specs.Premises.{IsProcess, Ran}
use Rattle.crsm_law_lives.specs.Laws.{IsRightStep}
use Rattle.crsm_law_processes.specs.Files.{RanOnFiles, with_lost_kept}

-- The history is one of the laws of histories, and its processes are those of the laws of lives. A process whose last
-- group was kept after all is a process, too.
pub record ProcessesAreHistories : Type 0 where
  pub ran : (n : ℕ) (ls : List Life) (h : List Event) → RanOnFiles n ls h → Ran n ls h
  pub history : (n : ℕ) (ls : List Life) (h : List Event) → n ≤ 15 → RanOnFiles n ls h → IsHistory n h
  pub kept_after_all : (l : Life) → IsProcess l → IsProcess (with_lost_kept l)

-- Each kept step of each process is right.
abbrev pub StepsOfProcessesAreRight : Type 0
StepsOfProcessesAreRight =
    (n : ℕ) (ls : List Life) (h : List Event) → n ≤ 15 → RanOnFiles n ls h → (l : Life) → Among ls l →
    (x : Draft) → Among (kept_steps n l) x → IsRightStep n h l.me x
