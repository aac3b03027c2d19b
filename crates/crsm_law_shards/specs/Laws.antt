-- The law of shards: of any number of shards, and any function that gives each key its shard.
use Rattle.std.specs.Prelude.{ℕ, List}
use Rattle.crsm_law_shards.specs.Served.{Served}
use Rattle.crsm_law_shards.specs.Shards.{AreShards, IsLinear, IsWhole}

-- shards are one store: there is one list of all their commands with the answers of one store, in real time
abbrev pub ShardsAreOneStore : Type 0
ShardsAreOneStore =
    (shard : List ℕ → ℕ) (lists : List (List Served)) → AreShards shard lists →
    (whole : List Served) × IsWhole shard lists whole × IsLinear shard whole
