-- The counts of a list of classes, whole and by blocks.
use Rattle.std.specs.Prelude.{◌≡◌, ◌<◌, ◌≤◌, ◌*◌, ℕ, Bool, false, List, Some, drop, length, nat_eq, slice_get, slice_index, take}
use Rattle.std.specs.List.{AllByRecursion, count_by}
use Rattle.std.specs.Option.{option_map_or}
use Rattle.crsm_sim_network.specs.declared.counts.Counts.{Counts}
use Rattle.crsm_sim_network.specs.declared.tally.Tally.{Tally}

abbrev pub IsClass : ℕ → Type 0
IsClass class = class < 32

-- the class is wanted, where the list says it of each
unfoldable pub is_wanted : List Bool → ℕ → Bool
is_wanted wanted class = option_map_or (λ w. w) (slice_get wanted class) false

-- there is a number for each class: how often it stands in the list
pub record IsCount (each classes : List ℕ) : Type 0 where
  pub whole : length each ≡ 32
  pub right : (class : ℕ) → class < 32 → slice_index each class ≡ count_by (nat_eq class) classes

-- block b of a list, of blocks of this size
abbrev pub block : (size b : ℕ) → List ℕ → List ℕ
block size b classes = take size (drop (b * size) classes)

-- there is a count of each block
pub record AreBlocks (size : ℕ) (blocks : List Counts) (classes : List ℕ) : Type 0 where
  pub whole : length classes ≤ length blocks * size
  pub counted : (b : ℕ) (counts : Counts) → slice_get blocks b ≡ Some counts → IsCount counts.each (block size b classes)

-- the tally has this list, whose counts are right
pub record TallyStands (tally : Tally) (classes : List ℕ) : Type 0 where
  pub held : tally.classes.items ≡ classes
  pub small : AllByRecursion IsClass classes
  pub all : IsCount tally.all.each classes
  pub blocks : AreBlocks 64 tally.blocks.items classes
  pub groups : AreBlocks 1024 tally.groups.items classes
  pub spans : AreBlocks 16384 tally.spans.items classes

-- for the list that the tally has
abbrev pub WhereTally : Tally → (List ℕ → Type 0) → Type 0
WhereTally tally P = (classes : List ℕ) → TallyStands tally classes → P classes
