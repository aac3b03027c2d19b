-- Executed entries in their order.
use Rattle.std.specs.Prelude.{◌≡◌, ℕ, Bool, ◌==◌, ◌&&◌, IsTrue, List, [], ◌∷◌, slice_get, Some}
use Rattle.std.specs.List.{AllByRecursion}
use Rattle.crsm_base.specs.Order.{entry_lt, stamp_eq}
use Rattle.crsm_ledger.specs.declared.ledger.Ledger.{Ledger}
use Rattle.crsm_ledger.specs.Ledger.{LedgerStands}
use Rattle.crsm_spec.specs.Log.{Log, executed}
use Rattle.crsm_spec.specs.Types.{Entry}

-- executed entries strictly rise
abbrev pub RisesStrictly : List Entry → Type 0
RisesStrictly [] = Unit {0}
RisesStrictly (e ∷ es) = AllByRecursion (λ f. IsTrue (entry_lt e f)) es × RisesStrictly es

-- for each log that the ledger stands for, where its executed entries strictly rise
abbrev pub WhereRising : Ledger → (Log → Type 0) → Type 0
WhereRising ledger P = (me n : ℕ) (log : Log) → LedgerStands me n ledger log → RisesStrictly (executed log) → P log

-- the answer says whether the entry at this place comes before another
pub record IsBeforeAt (done : List Entry) (place : ℕ) (e : Entry) (before : Bool) : Type 0 where
  pub entry : Entry
  pub there : slice_get done place ≡ Some entry
  pub is : before ≡ entry_lt entry e

-- they are at one point of the order
unfoldable pub is_same : Entry → Entry → Bool
is_same e f = f.epoch == e.epoch && stamp_eq f.stamp e.stamp
