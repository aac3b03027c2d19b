-- The last world considered, its one list, and the worlds on the way to it: of a run, of a history, of any happenings.
use Rattle.std.specs.Prelude.{◌≡◌, ℕ, ◌+◌, ◌<◌, ◌≤◌, List, ◌++◌, take, length, Contains, Some, slice_get}
use Rattle.std.specs.List.{AllByRecursion}
use Rattle.crsm_spec.specs.Types.{Entry, Decision}
use Rattle.crsm_spec.specs.Lists.{IsPrefixOf}
use Rattle.crsm_spec.specs.Log.{Log, executed}
use Rattle.crsm_spec.specs.World.{World, log_at}
use Rattle.crsm_spec.specs.Decided.{decisions_in, spec_at, ArePrefixes}
use Rattle.crsm_spec.specs.Durable.{IsKeptBy}
use Rattle.crsm_fact_log.specs.Logs.{Extends}
use Rattle.crsm_law_steps.specs.Laws.{LogsGoOn}
use Rattle.crsm_law_steps.specs.Happenings.{IsReached}
use Rattle.crsm_law_bounds.specs.Bounds.{IsSpelt, HasShortLogs}

pub record IsLast (n : ℕ) (end : World) (list : List Entry) : Type 0 where
  pub most : n ≤ 15
  pub reached : IsReached n end
  pub short : HasShortLogs end
  -- each executed list, at any moment, is a prefix of it
  pub prefix : (k : ℕ) (log : Log) → Extends log (log_at end k) → IsPrefixOf (executed log) list
  -- and it is an executed list itself
  pub held : (p : ℕ) (e : Entry) → slice_get list p ≡ Some e → (k : ℕ) × (log : Log) × Extends log (log_at end k) × (slice_get (executed log) p ≡ Some e)

-- a world on the way to the last
pub record IsBefore (n : ℕ) (end w : World) : Type 0 where
  pub reached : IsReached n w
  pub spelt : IsSpelt n w
  pub goes_on : LogsGoOn w end

unfoldable pub start_in : List Entry → Decision → List Entry
start_in list d = take d.base_len list ++ d.tail

pub record GoesOnWith (end : World) (list : List Entry) (w : World) (e : Entry) (place : ℕ) (d : Decision) : Type 0 where
  pub start : slice_get (start_in list d) place ≡ Some e
  pub kept : (x : ℕ) → x + 1 ≡ d.epoch → IsKeptBy w (spec_at end x) e

pub record IsDurableIn (end : World) (list : List Entry) (w : World) (e : Entry) (place : ℕ) : Type 0 where
  pub kept : IsKeptBy w (spec_at end e.epoch) e
  pub later : AllByRecursion (λ d. e.epoch < d.epoch → GoesOnWith end list w e place d) (decisions_in w)

pub record DecisionsAgreeIn (end : World) (list : List Entry) : Type 0 where
  pub one : (d e : Decision) → Contains (decisions_in end) d → Contains (decisions_in end) e → d.epoch ≡ e.epoch → d ≡ e
  pub base : AllByRecursion (λ d. d.base_len ≤ length list) (decisions_in end)
  pub start : AllByRecursion (λ d. ArePrefixes (start_in list d) list) (decisions_in end)
