-- How long the flushes of a while took, in microseconds. A flush is two syncs, one after the other.
use Rattle.std.specs.Prelude.{◌≡◌, ℕ, ◌*◌, ◌<◌, ◌≤◌, nat_le, nat_lt, List, length, IfNone, IfSome, count_by, filter}
use Rattle.crsm_replica_journal.specs.declared.flushes.Flushes.{Flushes}
use Rattle.crsm_replica_journal.specs.declared.flushes.FlushTimes.{FlushTimes}

-- a longer flush is slow: its syncs take more than 1 ms each, at the mean
abbrev pub slow_from : ℕ
slow_from = 2000

-- how many took at most this time, and how many took less
abbrev pub at_most : ℕ → List ℕ → ℕ
at_most t times = count_by (λ x. nat_le x t) times

abbrev pub below : ℕ → List ℕ → ℕ
below t times = count_by (λ x. nat_lt x t) times

-- the median, of two the lower one: half took at most this, and fewer than half took less
pub record IsMedian (times : List ℕ) (t : ℕ) : Type 0 where
  pub half : length times ≤ 2 * at_most t times
  pub fewer : 2 * below t times < length times

-- the greatest: all took at most this, and not all took less
pub record IsGreatest (times : List ℕ) (t : ℕ) : Type 0 where
  pub all : at_most t times ≡ length times
  pub one : below t times < length times

-- what is said of times of which one is slow: the greatest, and the median if that is slow too
pub record Tells (times : List ℕ) (said : FlushTimes) : Type 0 where
  pub slowest : IsGreatest times said.slowest
  pub median : IfSome said.median (IsMedian times)
  pub fast : IfNone said.median (length times ≤ 2 * at_most slow_from times)

-- none of the times is slow
abbrev pub AreFast : List ℕ → Type 0
AreFast times = at_most slow_from times ≡ length times

-- the flushes noted took these times, of which the slow ones are kept
pub record Took (flushes : Flushes) (times : List ℕ) : Type 0 where
  pub count : flushes.count ≡ length times
  pub slow : flushes.slow.items ≡ filter (λ t. nat_lt slow_from t) times
