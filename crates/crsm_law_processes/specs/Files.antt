-- The log files of nodes' processes: the bodies that are in them.
use Rattle.std.specs.Prelude.{◌≡◌, ◌⊎◌, ℕ, ◌≤◌, ◌^◌, true, List, [], ◌∷◌, ◌++◌, length, sum_by}
use Rattle.std.specs.List.{AllByRecursion}
use Rattle.crsm_spec_process.specs.Lives.{Life}
use Rattle.crsm_ledger.specs.Recovered.{AreKept}
use Rattle.crsm_law_cluster.specs.Clusters.{Event}
use Rattle.crsm_law_lives.specs.Events.{AreEventsOf, left_by, lives_of}
use Rattle.crsm_law_lives.specs.Premises.{IsProcess, NobodyForges}

-- the bytes of these bodies
unfoldable pub size_of : List (List ℕ) → ℕ
size_of bodies = sum_by length bodies

-- The process found the log of the first bodies, and the second ones have the log of its kept turns, in at most 2^50
-- bytes.
pub record LeavesBodies (n : ℕ) (l : Life) (found left : List (List ℕ)) : Type 0 where
  pub found_log : AreKept l.me n [] found l.found
  pub left_log : AreKept l.me n [] left (left_by n l)
  pub small : size_of left ≤ 2 ^ 50

-- The processes of one node: the first finds these bodies, each other one those that the one before it left, and begins
-- after that one has ended.
abbrev pub FindBodies : ℕ → List (List ℕ) → List Life → Type 0
FindBodies n bodies [] = Unit {0}
FindBodies n bodies (l ∷ ls) =
    (left : List (List ℕ)) × LeavesBodies n l bodies left × ((ls ≡ []) ⊎ (l.ended ≡ true)) × FindBodies n left ls

-- The first process of each node finds no body.
abbrev pub FilesKeep : ℕ → List Life → Type 0
FilesKeep n ls = (k : ℕ) → FindBodies n [] (lives_of k ls)

-- These processes of nodes made this history, over log files, of a cluster that began with n replicas.
pub record RanOnFiles (n : ℕ) (ls : List Life) (h : List Event) : Type 0 where
  pub are : AreEventsOf ls h
  pub processes : AllByRecursion IsProcess ls
  pub files : FilesKeep n ls
  pub network : NobodyForges n h

-- The process whose last group is on the disk though the sync of it failed: it kept the group, and sent nothing of it.
unfoldable pub with_lost_kept : Life → Life
with_lost_kept l = record l { groups = l.groups ++ record { turns = l.lost; fates = [] } ∷ []; lost = [] }
