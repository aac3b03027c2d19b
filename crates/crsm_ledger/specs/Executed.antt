-- The relation of the history's fields to the executed entries.
use Rattle.std.specs.Prelude.{◌≡◌, ℕ, Bool, true, false, ◌==◌, ◌||◌, ◌&&◌, nat_lt, List, [], ◌∷◌, ◌++◌, map, filter, Option}
use Rattle.std.specs.List.{AllByRecursion}
use Rattle.std.specs.Option.{option_map, option_map_or}
use Rattle.crsm_base.specs.Spelling.{entry_bytes, FitsEntry}
use Rattle.crsm_base.specs.Order.{stamp_lt}
use Rattle.crsm_base.specs.Store.{after}
use Rattle.crsm_spec.specs.Types.{Stamp, Entry}
use Rattle.crsm_spec.specs.Lists.{last_of}
use Rattle.crsm_ledger.specs.declared.history.History.{History}
use Rattle.crsm_ledger.specs.declared.history.Position.{Position}

-- where the last of these entries stands in the global order
unfoldable pub position_of : List Entry → Option Position
position_of es = option_map (λ e. record { epoch = e.epoch; stamp = e.stamp }) (last_of es)

-- the stamp of the last of these entries that is of epoch x
unfoldable pub last_stamp_in : ℕ → List Entry → Option Stamp
last_stamp_in x es = option_map (λ e. e.stamp) (last_of (filter (λ e. e.epoch == x) es))

-- these are the encodings of the entries, which have encodings
pub record Spells (encodings : List (List ℕ)) (es : List Entry) : Type 0 where
  pub spelt : encodings ≡ map entry_bytes es
  pub fit : AllByRecursion FitsEntry es

-- further entries, which have encodings, were encoded among the executed ones, in the same epoch
pub record Grows (old new : History) : Type 0 where
  pub more : List Entry
  pub fit : AllByRecursion FitsEntry more
  pub spelt : new.spelt ≡ old.spelt ++ map entry_bytes more
  pub epoch : new.epoch ≡ old.epoch

-- these entries are executed, where x is the known epoch
pub record HistoryStands (h : History) (x : ℕ) (es : List Entry) : Type 0 where
  pub spelt : h.spelt ≡ map entry_bytes es
  pub rows : h.store ≡ after es
  pub last : h.last ≡ position_of es
  pub epoch : h.epoch ≡ x
  pub last_stamp : h.last_stamp ≡ last_stamp_in x es
  pub fit : AllByRecursion FitsEntry es

-- whether entries follow a position, in order
unfoldable pub goes_on_behind : Option Position → List Entry → Bool
goes_on_behind last [] = false
goes_on_behind last (e ∷ es) =
    option_map_or (λ p. nat_lt p.epoch e.epoch || (p.epoch == e.epoch && stamp_lt p.stamp e.stamp)) last true
