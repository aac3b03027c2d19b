-- The effect of groups of turns on a disk.
use Rattle.std.specs.Prelude.{◌≡◌, ◌⊎◌, ℕ, ◌<◌, List, [], ◌∷◌, ◌++◌, length}
use Rattle.std.specs.List.{flat_map}
use Rattle.crsm_spec.specs.Draft.{Draft}
use Rattle.crsm_spec.specs.Node.{Turn}
use Rattle.crsm_spec.specs.Replica.{Replica}
use Rattle.crsm_spec.specs.Lists.{IsPrefixOf}
use Rattle.crsm_log.specs.Format.{bodies_of, found, reading}
use Rattle.crsm_shell.specs.Flushing.{IsFull}
use Rattle.crsm_shell.specs.Shell.{HasLog, group_body}
use Rattle.crsm_node.specs.Sent.{steps_by_group}

-- the body of a group, none where it has no record
abbrev pub body_if_some : List ℕ → List (List ℕ)
body_if_some [] = []
body_if_some (b ∷ body) = (b ∷ body) ∷ []

abbrev pub body_in_log : List Draft → List (List ℕ)
body_in_log steps = body_if_some (group_body steps)

-- the bodies of groups, of which this replica takes the first
unfoldable pub bodies_in_log : Replica → List (List (Turn × ℕ)) → List (List ℕ)
bodies_in_log r groups = flat_map body_in_log (steps_by_group r groups)

-- the file has these bodies behind those of the one before
abbrev pub HasBehind : List ℕ → List (List ℕ) → List ℕ → Type 0
HasBehind before bodies file = reading file ≡ found (bodies_of before ++ bodies)

-- the file has these bodies behind those of the one before, or one more behind them
abbrev pub HasBehindOrMore : List ℕ → List (List ℕ) → List ℕ → List ℕ → Type 0
HasBehindOrMore before bodies body file = HasBehind before bodies file ⊎ ((0 < length body) × HasBehind before (bodies ++ body ∷ []) file)

-- the file has the log of this replica
abbrev pub HasLogOf : Replica → List ℕ → Type 0
HasLogOf r file = HasLog r.me r.n file r.log

-- These bodies were put, from one file to another, one behind another, each where the log was not full for it.
unfoldable pub PutInTurn : List (List ℕ) → List ℕ → List ℕ → Type 0
PutInTurn [] old new = new ≡ old
PutInTurn (body ∷ bodies) old new = (file : List ℕ) × (reading file ≡ found (bodies_of old ++ body ∷ [])) × (IsFull old body → ⊥) × PutInTurn bodies file new

-- a crash leaves the bodies of before, with a prefix of these behind them
pub record IsLeftOf (before : List ℕ) (bodies : List (List ℕ)) (file : List ℕ) : Type 0 where
  pub prefix : List (List ℕ)
  pub of : IsPrefixOf prefix bodies
  pub has : HasBehind before prefix file
