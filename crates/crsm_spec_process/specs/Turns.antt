-- The turns of one process of a node: which can be taken, the replica after them, and what is sent of their output.
use Rattle.std.specs.Prelude.{ℕ, ◌<◌, ◌^◌, Bool, List, [], ◌∷◌, if◌then◌else◌}
use Rattle.std.specs.List.{AllByRecursion}
use Rattle.crsm_base.specs.Members.{IsMembers}
use Rattle.crsm_spec.specs.Node.{Turn, turn}
use Rattle.crsm_spec.specs.Replica.{Replica}

-- bytes are below 256, a suspicion has members, and a reading is a u64
abbrev pub IsTurn : Turn → Type 0
IsTurn (Turn.In address bytes) = AllByRecursion (λ b. b < 256) bytes
IsTurn Turn.Tick = Unit {0}
IsTurn (Turn.Suspect ms) = IsMembers ms

abbrev pub CanBeTaken : Turn × ℕ → Type 0
CanBeTaken t = (t.1 < 2 ^ 64) × IsTurn t.0

-- the replica after turns
unfoldable pub replica_after : Replica → List (Turn × ℕ) → Replica
replica_after r [] = r
replica_after r (t ∷ ts) = replica_after (turn r t).replica ts

-- of what turns hand out, each with its fate, the part that was sent, and the part that was not
unfoldable pub gone : {A : Type 0} → List A → List Bool → List A
gone [] fates = []
gone (o ∷ os) [] = []
gone (o ∷ os) (fate ∷ fates) = if fate then o ∷ gone os fates else gone os fates

unfoldable pub not_gone : {A : Type 0} → List A → List Bool → List A
not_gone [] fates = []
not_gone (o ∷ os) [] = []
not_gone (o ∷ os) (fate ∷ fates) = if fate then not_gone os fates else o ∷ not_gone os fates
