-- What a collection's decision is made of, whatever pages were received.
use Rattle.std.specs.Prelude.{◌≡◌, ℕ, ◌≤◌, List, flat_map, Option, Some, None, ◌⊎◌}
use Rattle.crsm_spec.specs.Types.{Stamp, Entry, Decision}
use Rattle.crsm_spec.specs.Lists.{Among, first_of}
use Rattle.crsm_spec.specs.Log.{Log, start}
use Rattle.crsm_spec.specs.Replica.{LogPage}
use Rattle.crsm_spec.specs.Collect.{pages_of, whole_ones, collected}
use Rattle.crsm_fact_log.specs.Rising.{Rises, IsAbove}

-- Whatever pages were received: the tail rises and has entries of complete reports above the floor, one of each of
-- their stamps. The base is at least the start and at least every complete report's executed length, and is one of
-- these.
pub record IsMadeOf (counted : List ℕ) (log : Log) (pages : List LogPage) (d : Decision) : Type 0 where
  pub floor : Option Stamp
  pub rises : Rises d.tail
  pub from : (z : Entry) → Among d.tail z →
      ((k : ℕ) × Among (whole_ones counted pages) k × Among (flat_map (λ p. p.entries) (pages_of pages k)) z) × IsAbove floor z
  pub all : (k : ℕ) (z : Entry) → Among (whole_ones counted pages) k → Among (flat_map (λ p. p.entries) (pages_of pages k)) z →
      IsAbove floor z → (w : Entry) × Among d.tail w × (w.stamp ≡ z.stamp)
  pub low : start log ≤ d.base_len
  pub high : (k : ℕ) (p : LogPage) → Among (whole_ones counted pages) k → first_of (pages_of pages k) ≡ Some p → p.executed ≤ d.base_len
  pub base : ((d.base_len ≡ start log) × (floor ≡ None))
      ⊎ ((k : ℕ) × (p : LogPage) × Among (whole_ones counted pages) k × (first_of (pages_of pages k) ≡ Some p) × (p.executed ≡ d.base_len) × (floor ≡ p.last))

abbrev pub CollectedIsMade : Type 0
CollectedIsMade =
    (counted members : List ℕ) (named : Option (List ℕ)) (log : Log) (pages : List LogPage) → IsMadeOf counted log pages (collected counted named log members pages)
