-- The law of sheets that agree.
use Rattle.std.specs.Prelude.{◌≡◌, ℕ, ◌<◌, List, Some, slice_get}
use Rattle.std.specs.List.{AllByRecursion}
use Rattle.crsm_base.specs.Spelling.{IsBefore, Rises}
use Rattle.crsm_spec.specs.Types.{Stamp, Entry, Rec, Answer, Refusal, Outcome, Line}
use Rattle.crsm_spec.specs.Lists.{Among, IsPrefixOf}
use Rattle.crsm_spec.specs.Log.{Log, executed}
use Rattle.crsm_spec.specs.Draft.{Draft, Reply}
use Rattle.crsm_spec.specs.Safe.{AnswersAt}
use Rattle.crsm_fact_log.specs.Logs.{AllFit, AreSpelt, Extends, with_records}
use Rattle.crsm_law_sheets.specs.Sheets.{Sheet, last_log, one_list, steps_of}
use Rattle.crsm_law_sheets.specs.Verdicts.{Agree, HasNamed}

-- each record of the final log may follow those before it, and can be encoded
pub record IsSound (n : ℕ) (s : Sheet) : Type 0 where
  pub fit : AllFit s.me n (last_log n s)
  pub spelt : AreSpelt (last_log n s)

-- A reply of node me is right by this list: an answer is the store's at its place, and a command reported as dropped is
-- not in it.
abbrev pub IsRightBy : List Entry → ℕ → Reply → Outcome → Type 0
IsRightBy one me a (Outcome.Answered v) =
    (place : ℕ) × (e : Entry) × (a.line ≡ Line.ReplyOk me a.client a.number place v) × AnswersAt one place e v
IsRightBy one me a (Outcome.Refused Refusal.Dropped) =
    (epoch : ℕ) × (stamp : Stamp) × (a.line ≡ Line.ReplyDropped me a.client a.number epoch stamp) × (HasNamed one epoch stamp → ⊥)
IsRightBy one me a (Outcome.Refused _) = Unit {0}

-- A command that node me submits in a later step than one that answered a client has a later place in the list than the
-- answered one.
abbrev pub KeepsRealTime : List Entry → List Draft → Type 0
KeepsRealTime one steps =
    (i j k client number place k' epoch time client' number' q : ℕ) (x y : Draft) (a : Reply) (v : Answer) (e : Entry) → i < j →
    slice_get steps i ≡ Some x → Among x.replies a → a.line ≡ Line.ReplyOk k client number place v →
    slice_get steps j ≡ Some y → Among y.lines (Line.Submit k' epoch time client' number') →
    slice_get one q ≡ Some e → e.epoch ≡ epoch → e.stamp ≡ record { time = time; origin = k' } → place < q

-- The executed lists of all sheets, at all moments, are prefixes of one list, which rises by epoch and stamp. Each
-- reply is right by it, and each sheet keeps real time. Nothing is said of the order in time between sheets.
pub record AreSafe (n : ℕ) (sheets : List Sheet) : Type 0 where
  pub prefixes : (s : Sheet) → Among sheets s → (log : Log) → Extends log (last_log n s) → IsPrefixOf (executed log) (one_list n sheets)
  pub ascending : Rises (one_list n sheets)
  pub replies : (s : Sheet) → Among sheets s → (x : Draft) → Among (steps_of n s) x → (a : Reply) → Among x.replies a →
      IsRightBy (one_list n sheets) s.me a a.says
  pub real_time : (s : Sheet) → Among sheets s → KeepsRealTime (one_list n sheets) (steps_of n s)

-- Sheets that agree are safe, whatever bytes the nodes took.
abbrev pub AgreeingSheetsAreSafe : Type 0
AgreeingSheetsAreSafe = (n : ℕ) (sheets : List Sheet) → AllByRecursion (IsSound n) sheets → Agree n sheets → AreSafe n sheets

-- the one list of sound sheets rises by epoch and stamp
abbrev pub OneListRises : Type 0
OneListRises = (n : ℕ) (sheets : List Sheet) → AllByRecursion (IsSound n) sheets → Rises (one_list n sheets)

-- in a rising list an entry is before each entry at a greater index
abbrev pub EntriesStandInOrder : Type 0
EntriesStandInOrder =
    (es : List Entry) (p q : ℕ) (a b : Entry) → Rises es → slice_get es p ≡ Some a → slice_get es q ≡ Some b → q < p → IsBefore b a

-- executed entries stay executed, at their places, whatever records are appended
abbrev pub ExecutedListsGrow : Type 0
ExecutedListsGrow = (log : Log) (recs : List Rec) → IsPrefixOf (executed log) (executed (with_records log recs))
