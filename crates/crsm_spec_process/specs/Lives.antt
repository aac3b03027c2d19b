-- One process of a node, from its boot to its exit.
use Rattle.std.specs.Prelude.{◌≡◌, ℕ, Bool, List, [], ◌∷◌, length}
use Rattle.std.specs.List.{flat_map}
use Rattle.crsm_spec.specs.Draft.{Draft}
use Rattle.crsm_spec.specs.Log.{Log}
use Rattle.crsm_spec.specs.Node.{Turn, outputs}
use Rattle.crsm_spec.specs.Replica.{Replica}
use Rattle.crsm_spec_process.specs.Turns.{replica_after}

-- The turns of a group, each with its clock reading, and for each datagram that they send, in order, whether it was
-- sent: the datagrams to replicas and then the replies of each step.
pub record Group : Type 0 where
  pub turns : List (Turn × ℕ)
  pub fates : List Bool

-- One process of a node: the log that it found, the groups that it synced, the turns that were lost because they were
-- not synced, and whether it has exited.
pub record Life : Type 0 where
  pub me : ℕ
  pub found : Log
  pub groups : List Group
  pub lost : List (Turn × ℕ)
  pub ended : Bool

-- the turns of the synced groups, in order
unfoldable pub kept_turns : List Group → List (Turn × ℕ)
kept_turns groups = flat_map (λ g. g.turns) groups

-- the steps of a process that were synced, boot first, in a cluster that began with n replicas
unfoldable pub kept_steps : ℕ → Life → List Draft
kept_steps n l = outputs l.me n l.found (kept_turns l.groups)

-- each group has a fate for all that it hands out
unfoldable pub HaveFates : {A : Type 0} → (Replica → List (Turn × ℕ) → List A) → Replica → List Group → Type 0
HaveFates handed r [] = Unit {0}
HaveFates handed r (g ∷ groups) = (length g.fates ≡ length (handed r g.turns)) × HaveFates handed (replica_after r g.turns) groups

-- all groups but the last
unfoldable pub before_last : List Group → List Group
before_last [] = []
before_last (g ∷ []) = []
before_last (g ∷ x ∷ groups) = g ∷ before_last (x ∷ groups)
