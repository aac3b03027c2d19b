-- The runs of one node, one after another over one log file.
use Rattle.std.specs.Prelude.{◌≡◌, ℕ, List, [], ◌∷◌, IsTrue}
use Rattle.crsm_log.specs.Format.{found, reading}
use Rattle.crsm_node.specs.Running.{Devices, RunsOverCluster}
use Rattle.crsm_node.specs.declared.errors.NodeEnd.{NodeEnd}
use Rattle.crsm_node.specs.declared.order.NodeOrder.{NodeOrder}

-- A run: what was asked for, all devices before it and after it, and its end. A node that is killed is a run over
-- devices that do nothing from that moment on.
pub record Run (S : Type 0) : Type 0 where
  pub order : NodeOrder
  pub before : S
  pub after : S
  pub end : NodeEnd

-- A run of replica k's node, of a cluster that began with n replicas, of which the contract of `run_node` holds where
-- devices mean this. Its disk gives back what was synced to it.
pub record IsRunOf {S : Type 0} (at : S → Devices) (n k : ℕ) (x : Run S) : Type 0 where
  pub me : x.order.me ≡ k
  pub count : x.order.n ≡ n
  pub honest : IsTrue (at x.before).disk.honest
  pub ran : RunsOverCluster x.order (at x.before) (at x.after) x.end

-- The first run finds a file such as this, and each other one a file that a crash at the end of the one before it, or
-- its end without a crash, may leave.
abbrev pub FollowEachOther : {S : Type 0} → (S → Devices) → (n k : ℕ) → (List ℕ → Type 0) → List (Run S) → Type 0
FollowEachOther at n k left [] = Unit {0}
FollowEachOther at n k left (x ∷ xs) =
    IsRunOf at n k x × ((file : List ℕ) → (at x.before).disk.may_leave file → left file) × FollowEachOther at n k (at x.after).disk.may_leave xs

abbrev pub HasNoBody : List ℕ → Type 0
HasNoBody file = reading file ≡ found []

-- All runs of replica k's node: the first finds a file without a body.
abbrev pub AreRunsOf : {S : Type 0} → (S → Devices) → (n k : ℕ) → List (Run S) → Type 0
AreRunsOf at n k xs = FollowEachOther at n k HasNoBody xs
