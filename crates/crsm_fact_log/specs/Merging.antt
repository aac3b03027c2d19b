-- The union of the entries of reports, and ways to compute it.
use Rattle.std.specs.Prelude.{◌≡◌, ◌⊎◌, ◌<◌, ◌≤◌, ℕ, ◌==◌, ◌++◌, if◌then◌else◌, nat_lt, List, [], ◌∷◌, length, map, filter, flat_map, fold, Option}
use Rattle.std.specs.List.{AllByRecursion}
use Rattle.crsm_spec.specs.Types.{Stamp, Entry}
use Rattle.crsm_base.specs.Order.{stamp_lt, stamp_eq}
use Rattle.crsm_spec.specs.Lists.{Among}
use Rattle.crsm_spec.specs.Log.{above}
use Rattle.crsm_spec.specs.Paxos.{majority}
use Rattle.crsm_spec.specs.Replica.{LogPage}
use Rattle.crsm_fact_log.specs.Counting.{IsMajorityOf}
use Rattle.crsm_spec.specs.Collect.{with_new, union, whole_ones}
use Rattle.crsm_fact_log.specs.Rising.{Rises}

-- z is the first entry of its stamp
abbrev pub IsFirst : List Entry → Entry → Type 0
IsFirst [] z = ⊥
IsFirst (e ∷ es) z = (e ≡ z) ⊎ ((e.stamp ≡ z.stamp → ⊥) × IsFirst es z)

-- A rising list with the first of these entries of each stamp.
pub record IsUnion (es xs : List Entry) : Type 0 where
  pub rises : Rises xs
  pub first : (z : Entry) → Among xs z → IsFirst es z
  pub each : (z : Entry) → Among es z → (w : Entry) × Among xs w × (w.stamp ≡ z.stamp)

-- The union is the only such list.
abbrev pub UnionIsOne : Type 0
UnionIsOne = ((es : List Entry) → IsUnion es (union es)) × ((es xs : List Entry) → IsUnion es xs → xs ≡ union es)

-- Further entries can be merged later, and entries up to a floor left out before or after.
abbrev pub UnionGoesOn : Type 0
UnionGoesOn =
    ((es fs : List Entry) → union (es ++ fs) ≡ fold with_new (union es) fs)
    × ((o : Option Stamp) (es : List Entry) → above o (union es) ≡ union (above o es))

-- If all entries with one stamp are equal, their order does not matter.
abbrev pub UnionOfSame : Type 0
UnionOfSame =
    (es fs : List Entry) → ((y z : Entry) → Among es y → Among es z → y.stamp ≡ z.stamp → y ≡ z) →
    ((z : Entry) → Among es z → Among fs z) → ((z : Entry) → Among fs z → Among es z) → union es ≡ union fs

-- ---- entries with the replicas that sent them, in the order in which they were received

-- the entries with this one inserted by stamp; of one stamp the one from the least replica is kept
unfoldable pub with_least : List (ℕ × Entry) → ℕ × Entry → List (ℕ × Entry)
with_least [] p = p ∷ []
with_least (q ∷ ps) p =
    if stamp_lt p.1.stamp q.1.stamp then p ∷ q ∷ ps
    else if stamp_eq p.1.stamp q.1.stamp then (if nat_lt p.0 q.0 then p ∷ ps else q ∷ ps)
    else q ∷ with_least ps p

unfoldable pub merged : List (ℕ × Entry) → List (ℕ × Entry)
merged ps = fold with_least [] ps

-- the entries received from replica k, in order
unfoldable pub came_of : List (ℕ × Entry) → ℕ → List Entry
came_of ps k = map (λ p. p.1) (filter (λ p. p.0 == k) ps)

-- strictly ascending
abbrev pub Ascends : List ℕ → Type 0
Ascends [] = Unit {0}
Ascends (k ∷ ks) = AllByRecursion (λ j. k < j) ks × Ascends ks

-- Merging entries in the order in which they are received gives the union of the reports by ascending replica.
abbrev pub MergedAsTheyCome : Type 0
MergedAsTheyCome =
    (ks : List ℕ) (ps : List (ℕ × Entry)) → Ascends ks → ((p : ℕ × Entry) → Among ps p → Among ks p.0) →
    map (λ p. p.1) (merged ps) ≡ union (flat_map (came_of ps) ks)

-- ---- majorities

-- if the number of complete reports is that of a majority, their senders are a majority of the Spec
abbrev pub WholeOnesAreMany : Type 0
WholeOnesAreMany =
    (spec : List ℕ) (pages : List LogPage) → majority (length spec) ≤ length (whole_ones spec pages) →
    IsMajorityOf spec (whole_ones spec pages)
