-- The parts taken that the state of a `Gather` stands for.
use Rattle.std.specs.Prelude.{◌≡◌, ℕ, ◌<◌, Bool, true, false, ◌==◌, ◌||◌, ◌&&◌, nat_lt, if◌then◌else◌, List, [], ◌∷◌, length, map, filter, Contains, Option, Some, None, slice_index_or}
use Rattle.std.specs.List.{list_all}
use Rattle.crsm_spec.specs.Lists.{numbers_below}
use Rattle.crsm_spec.specs.Parts.{Piece, has_index, kept_of}
use Rattle.crsm_segment.specs.Gathering.{Gathering}

-- the part is of a peer's message
abbrev pub is_of : ℕ → ℕ → ℕ → Piece → Bool
is_of from boot number q = from == q.from && (boot == q.boot && number == q.number)

-- it is of a newer one
abbrev pub is_newer : ℕ → ℕ → ℕ → Piece → Bool
is_newer from boot number q = from == q.from && (nat_lt boot q.boot || (boot == q.boot && nat_lt number q.number))

-- the bytes of the part with an index
abbrev pub bytes_at : List Piece → ℕ → Option (List ℕ)
bytes_at [] i = None
bytes_at (q ∷ qs) i = if q.index == i then Some q.bytes else bytes_at qs i

-- no two parts have one index
abbrev pub AreOnce : List Piece → Type 0
AreOnce [] = Unit {0}
AreOnce (q ∷ qs) = (has_index qs q.index ≡ false) × AreOnce qs

-- of each message no two parts have one index
abbrev pub EachOnce : List Piece → Type 0
EachOnce parts = (p : Piece) → AreOnce (kept_of p parts)

-- the message is the newest with a part taken; its slots have its parts, and it is returned once all are received
pub record IsNewest (from : ℕ) (g : Gathering) (parts : List Piece) : Type 0 where
  pub none_newer : (q : Piece) → Contains parts q → is_newer from g.boot g.number q ≡ false
  pub some : (q : Piece) × Contains parts q × (is_of from g.boot g.number q ≡ true)
  pub counts : (q : Piece) → Contains parts q → is_of from g.boot g.number q ≡ true → q.count ≡ g.count
  pub given : list_all (has_index (filter (is_of from g.boot g.number) parts)) (numbers_below g.count) ≡ g.given
  pub slots : g.given ≡ false → g.slots ≡ map (bytes_at (filter (is_of from g.boot g.number) parts)) (numbers_below g.count)

-- the state of a peer stands for its parts taken
abbrev pub PeerStands : ℕ → Option Gathering → List Piece → Type 0
PeerStands from None parts = (q : Piece) → Contains parts q → (from == q.from) ≡ false
PeerStands from (Some g) parts = IsNewest from g parts

-- the state of all peers stands for all parts taken
pub record GatherStands (peers : List (Option Gathering)) (parts : List Piece) : Type 0 where
  pub once : EachOnce parts
  pub peer : (from : ℕ) → from < length peers → PeerStands from (slice_index_or peers from None) parts
