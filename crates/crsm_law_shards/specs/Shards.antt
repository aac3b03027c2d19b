-- Shards, and the one store that they are: by a function that gives each key its shard.
use Rattle.std.specs.Prelude.{◌≡◌, ℕ, ◌<◌, ◌==◌, if◌then◌else◌, List, length, take, filter, fold, Some, slice_get}
use Rattle.std.specs.List.{AllByRecursion}
use Rattle.crsm_base.specs.Store.{Rows, no_rows, apply}
use Rattle.crsm_spec.specs.Types.{Answer, Entry}
use Rattle.crsm_law_shards.specs.Served.{Answered, AreRight, KeepsRealTime, Served, entries_of, shard_in}

-- ---- shards

-- The list of a shard: commands on its own keys alone, right answers, and real time.
pub record IsShard (shard : List ℕ → ℕ) (s : ℕ) (list : List Served) : Type 0 where
  pub own : AllByRecursion (λ x. shard_in shard x.entry ≡ s) list
  pub right : AreRight list
  pub real_time : KeepsRealTime list

-- the s-th list is that of shard s
abbrev pub AreShards : (List ℕ → ℕ) → List (List Served) → Type 0
AreShards shard lists = (s : ℕ) (list : List Served) → slice_get lists s ≡ Some list → IsShard shard s list

-- ---- the one store

-- The rows of one store over all keys: those of the keys of each shard, and of the clients that have asked for them.
-- So a client counts its numbers in each shard by itself, and the maximum numbers of keys and of clients hold for
-- each.
abbrev pub Tables : Type 0
Tables = ℕ → Rows

abbrev pub no_tables : Tables
no_tables s = no_rows

-- the rows after an entry: those of its key's shard change
abbrev pub apply_to : (List ℕ → ℕ) → Tables → Entry → Tables
apply_to shard tables e s = if shard_in shard e == s then (apply (tables s) e.command).0 else tables s

-- the rows after these entries, executed in order on an empty store
abbrev pub tables_after : (List ℕ → ℕ) → List Entry → Tables
tables_after shard es = fold (apply_to shard) no_tables es

-- the one store's answer to entry e, executed after these entries
abbrev pub answer_in : (List ℕ → ℕ) → List Entry → Entry → Answer
answer_in shard es e = (apply (tables_after shard es (shard_in shard e)) e.command).1

-- ---- the one list

-- the commands on keys of shard s, in their order
abbrev pub part_of : (List ℕ → ℕ) → ℕ → List Served → List Served
part_of shard s list = filter (λ x. shard_in shard x.entry == s) list

-- One list of all commands: each shard's list is the part of its keys, and there are no others.
pub record IsWhole (shard : List ℕ → ℕ) (lists : List (List Served)) (whole : List Served) : Type 0 where
  pub parts : (s : ℕ) (list : List Served) → slice_get lists s ≡ Some list → part_of shard s whole ≡ list
  pub none_else : AllByRecursion (λ x. shard_in shard x.entry < length lists) whole

-- Each answer is that of the one store at its place, and what was asked for after another's answer was had, in
-- whichever shards, has a later place.
pub record IsLinear (shard : List ℕ → ℕ) (whole : List Served) : Type 0 where
  pub right : (p : ℕ) (x : Served) (a : Answered) → slice_get whole p ≡ Some x → x.answered ≡ Some a →
      a.answer ≡ answer_in shard (entries_of (take p whole)) x.entry
  pub real_time : KeepsRealTime whole
