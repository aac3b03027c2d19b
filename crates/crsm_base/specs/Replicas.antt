-- Sets of replicas as lists of their numbers, and majorities of them.
use Rattle.std.specs.Prelude.{ℕ, ◌+◌, ◌/◌, Bool, ◌==◌, ◌&&◌, nat_le, List, length}
use Rattle.std.specs.List.{list_all, list_any, range_with_len}

-- the numbers from 0 to n - 1, in order
unfoldable pub numbers_below : ℕ → List ℕ
numbers_below n = range_with_len 0 n

-- whether k is one of the numbers
unfoldable pub has : List ℕ → ℕ → Bool
has ks k = list_any (λ j. j == k) ks

-- the size of a majority of n replicas: the least number above n / 2
abbrev pub majority : ℕ → ℕ
majority n = n / 2 + 1

-- whether ms can be the members of an epoch with this replica set: all are in it, and they are a majority of it
unfoldable pub can_be_members : List ℕ → List ℕ → Bool
can_be_members spec ms = list_all (has spec) ms && nat_le (majority (length spec)) (length ms)
