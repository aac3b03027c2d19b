-- The view of a world from which its events are generated.
use Rattle.std.specs.Prelude.{ℕ, Bool, true, false, ◌&&◌, not, List, map, filter, slice_get}
use Rattle.std.specs.List.{enumerate_from}
use Rattle.std.specs.Option.{option_map_or}

-- A datagram that was sent. It is used once it was delivered or lost.
pub record Mark : Type 0 where
  pub to : ℕ
  pub used : Bool

pub record View : Type 0 where
  pub ups : List Bool  -- of each replica, by number, whether it is up
  pub marks : List Mark  -- of each datagram, by number

-- the places of the elements that pass the test, ascending
unfoldable pub places : {A : Type 0} → (A → Bool) → List A → List ℕ
places test xs = map (λ p. p.0) (filter (λ p. test p.1) (enumerate_from 0 xs))

-- ---- replicas

-- replica k is there and up
unfoldable pub is_up_in : View → ℕ → Bool
is_up_in v k = option_map_or (λ up. up) (slice_get v.ups k) false

unfoldable pub up_replicas : View → List ℕ
up_replicas v = places (λ up. up) v.ups

unfoldable pub down_replicas : View → List ℕ
down_replicas v = places not v.ups

-- ---- datagrams, the oldest first

unfoldable pub fresh_to_any : View → List ℕ
fresh_to_any v = places (λ m. not m.used) v.marks

-- those whose receiver is up
unfoldable pub fresh_to_up : View → List ℕ
fresh_to_up v = places (λ m. not m.used && is_up_in v m.to) v.marks

unfoldable pub used_to_up : View → List ℕ
used_to_up v = places (λ m. m.used && is_up_in v m.to) v.marks

-- the fresh ones, or of them only those whose receiver is up
abbrev pub fresh_seen : Bool → View → List ℕ
fresh_seen true v = fresh_to_up v
fresh_seen false v = fresh_to_any v
