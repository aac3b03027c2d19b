-- Entries in a map by their stamps.
use Rattle.std.specs.Prelude.{◌≡◌, List, map}
use Rattle.std.specs.List.{AllByRecursion}
use Rattle.crsm_spec.specs.Types.{Stamp, Entry}
use Rattle.crsm_fact_log.specs.Rising.{Rises}

-- each entry is at its stamp, and they rise
pub record IsByStamp (es : List (Stamp × Entry)) : Type 0 where
  pub at : AllByRecursion (λ p. p.0 ≡ p.1.stamp) es
  pub rises : Rises (map (λ p. p.1) es)
