-- Groups: the turns of a node whose records are synced together.
use Rattle.std.specs.Prelude.{◌≡◌, ◌≢◌, ◌⊎◌, ℕ, ◌<◌, List, [], ◌∷◌, ◌++◌, length}
use Rattle.std.specs.List.{AllByRecursion}
use Rattle.crsm_spec.specs.Node.{Turn}

-- the turn's input is a datagram
abbrev pub IsDatagram : Turn × ℕ → Type 0
IsDatagram (Turn.In address bytes, reading) = Unit {0}
IsDatagram (Turn.Tick, reading) = ⊥
IsDatagram (Turn.Suspect members, reading) = ⊥

-- One to 256 turns; each but the last has a datagram as its input.
pub record IsGroup (turns : List (Turn × ℕ)) : Type 0 where
  pub before : List (Turn × ℕ)
  pub last : Turn × ℕ
  pub are : turns ≡ before ++ last ∷ []
  pub datagrams : AllByRecursion IsDatagram before
  pub few : length before < 256

-- no further turn joins the group: it has 256, or its last input is no datagram
abbrev pub IsClosed : {turns : List (Turn × ℕ)} → IsGroup turns → Type 0
IsClosed {turns} g = (length turns ≡ 256) ⊎ (IsDatagram g.last → ⊥)

-- the turns are cut into these groups in order; each but the last is closed
abbrev pub AreGroups : List (List (Turn × ℕ)) → Type 0
AreGroups [] = Unit {0}
AreGroups (turns ∷ groups) = (g : IsGroup turns) × (groups ≢ [] → IsClosed g) × AreGroups groups
