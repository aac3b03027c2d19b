-- The faults of sheets, in the order in which they are looked for.
use Rattle.std.specs.Prelude.{◌≡◌, ◌≢◌, ℕ, ◌+◌, ◌<◌, List, ◌++◌, Some, map, slice_get, take}
use Rattle.std.specs.List.{AllByRecursion}
use Rattle.crsm_spec.specs.Types.{Stamp, Entry, Line}
use Rattle.crsm_spec.specs.Lists.{Among, IsPrefixOf}
use Rattle.crsm_spec.specs.Draft.{Draft}
use Rattle.crsm_fact_log.specs.Logs.{Logged}
use Rattle.crsm_law_sheets.specs.Sheets.{Sheet, list_of, last_log, one_list, steps_of}

-- ---- lists

-- the list has an entry at this index that the other does not have there, and before it they are equal
abbrev pub DiffersAt : List Entry → List Entry → ℕ → Type 0
DiffersAt es one p = (e : Entry) × (slice_get es p ≡ Some e) × (slice_get one p ≢ Some e) × (take p es ≡ take p one)

-- the list has an entry with this epoch and stamp
abbrev pub HasNamed : List Entry → ℕ → Stamp → Type 0
HasNamed es epoch stamp = (p : ℕ) × (e : Entry) × (slice_get es p ≡ Some e) × (e.epoch ≡ epoch) × (e.stamp ≡ stamp)

-- all lines of a step: of its records, of collections beyond their limits, and of its replies
abbrev pub lines_told : Draft → List Line
lines_told x = (x.lines ++ x.excess) ++ map (λ a. a.line) x.replies

module _ (n : ℕ) (sheets : List Sheet) where
  -- each list is a prefix of the one list
  abbrev pub AreInOne : List Sheet → Type 0
  AreInOne some = AllByRecursion (λ s. IsPrefixOf (list_of n s) (one_list n sheets)) some

  -- The list of this sheet is the first that is no prefix of the one list, and this is the first index at which it
  -- differs.
  abbrev pub IsOddList : ℕ → ℕ → Type 0
  IsOddList i p = (s : Sheet) × (slice_get sheets i ≡ Some s) × DiffersAt (list_of n s) (one_list n sheets) p × AreInOne (take i sheets)

  -- ---- strangers

  -- the last sheet of node k
  pub record IsLastOf (k : ℕ) (s : Sheet) : Type 0 where
    pub i : ℕ
    pub there : slice_get sheets i ≡ Some s
    pub me : s.me ≡ k
    pub last : (j : ℕ) (t : Sheet) → i < j → slice_get sheets j ≡ Some t → t.me ≢ k

  -- an entry of the one list whose origin has a sheet but never logged the entry
  abbrev pub IsStrange : ℕ → Type 0
  IsStrange p = (e : Entry) × (slice_get (one_list n sheets) p ≡ Some e) × (s : Sheet) × IsLastOf e.stamp.origin s × (Logged (last_log n s) e → ⊥)

  -- this index is the first with such an entry
  abbrev pub IsStranger : ℕ → Type 0
  IsStranger p = IsStrange p × ((q : ℕ) → q < p → IsStrange q → ⊥)

  -- ---- dropped commands

  -- At this line of the sheet the step reports that the entry with this epoch and stamp was dropped.
  pub record Drops (s : Sheet) (line epoch : ℕ) (stamp : Stamp) : Type 0 where
    pub i : ℕ
    pub step : Draft
    pub there : slice_get (steps_of n s) i ≡ Some step
    pub line_is : line ≡ s.opened + i
    pub replica : ℕ
    pub client : ℕ
    pub number : ℕ
    pub told : Among (lines_told step) (Line.ReplyDropped replica client number epoch stamp)

  -- the sheet reports an entry as dropped that the one list has
  abbrev pub DropsExecuted : Sheet → ℕ → Type 0
  DropsExecuted s line = (epoch : ℕ) × (stamp : Stamp) × Drops s line epoch stamp × HasNamed (one_list n sheets) epoch stamp

  abbrev pub DropsNone : Sheet → Type 0
  DropsNone s = (line : ℕ) → DropsExecuted s line → ⊥

  -- this line of this sheet is the first that does
  abbrev pub IsDropped : ℕ → ℕ → Type 0
  IsDropped i line =
      (s : Sheet) × (slice_get sheets i ≡ Some s) × DropsExecuted s line × AllByRecursion DropsNone (take i sheets)
      × ((other : ℕ) → other < line → DropsExecuted s other → ⊥)

  -- ---- the verdict

  abbrev pub NoStranger : Type 0
  NoStranger = (p : ℕ) → IsStrange p → ⊥

  abbrev pub NoneDropped : Type 0
  NoneDropped = AllByRecursion DropsNone sheets

  -- the sheets have none of these faults
  pub record Agree : Type 0 where
    pub lists : AreInOne sheets
    pub stranger : NoStranger
    pub dropped : NoneDropped
