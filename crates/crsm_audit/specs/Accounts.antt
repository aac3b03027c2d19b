-- The relation of an account to its sheet.
use Rattle.std.specs.Prelude.{◌≡◌, ℕ, ◌+◌, ◌==◌, if◌then◌else◌, List, [], ◌∷◌, ◌++◌, map}
use Rattle.std.specs.List.{flat_map}
use Rattle.crsm_base.specs.Spelling.{entry_bytes}
use Rattle.crsm_spec.specs.Types.{Entry, Rec, Line}
use Rattle.crsm_spec.specs.Log.{Log}
use Rattle.crsm_spec.specs.Draft.{Draft}
use Rattle.crsm_law_sheets.specs.Laws.{IsSound}
use Rattle.crsm_law_sheets.specs.Sheets.{Sheet, last_log, list_of, steps_of}
use Rattle.crsm_law_sheets.specs.Verdicts.{lines_told}
use Rattle.crsm_audit.specs.declared.account.Account.{Account}
use Rattle.crsm_audit.specs.declared.place.Dropped.{Dropped}

-- ---- own entries

-- the entry of a record, if it is of node me
abbrev pub own_of : ℕ → Rec → List Entry
own_of me (Rec.Prepare e) = if e.stamp.origin == me then e ∷ [] else []
own_of me _ = []

-- the own entries of records, in order
abbrev pub own_in : ℕ → List Rec → List Entry
own_in me recs = flat_map (own_of me) recs

-- the own entries that a log has, in the order in which they were logged
unfoldable pub own_logged : ℕ → Log → List Entry
own_logged me [] = []
own_logged me (rec ∷ log) = own_logged me log ++ own_of me rec

-- ---- dropped commands

-- the commands that a line reports as dropped
abbrev pub dropped_of : ℕ → Line → List Dropped
dropped_of at (Line.ReplyDropped k client number epoch stamp) = record { line = at; epoch = epoch; stamp = stamp } ∷ []
dropped_of at _ = []

abbrev pub dropped_in : ℕ → List Line → List Dropped
dropped_in at lines = flat_map (dropped_of at) lines

-- the commands that steps report as dropped, of which the first is on this line
unfoldable pub dropped_from : ℕ → List Draft → List Dropped
dropped_from at [] = []
dropped_from at (x ∷ xs) = dropped_in at (lines_told x) ++ dropped_from (at + 1) xs

-- ---- accounts

-- a list of entries, each as its bytes
abbrev pub spelt : List Entry → List (List ℕ)
spelt es = map entry_bytes es

-- The account is that of the sheet, which is one of a cluster that began with n replicas.
pub record AccountStands (n : ℕ) (a : Account) (s : Sheet) : Type 0 where
  pub me : a.me ≡ s.me
  pub list : a.entries.list ≡ spelt (list_of n s)
  pub held : a.entries.held ≡ spelt (own_logged s.me (last_log n s))
  pub dropped : a.dropped.items ≡ dropped_from s.opened (steps_of n s)
  pub sound : IsSound n s

-- each account is that of the sheet at its place
abbrev pub AccountsStand : ℕ → List Account → List Sheet → Type 0
AccountsStand n [] [] = Unit {0}
AccountsStand n (a ∷ more) (s ∷ sheets) = AccountStands n a s × AccountsStand n more sheets
AccountsStand n [] (s ∷ sheets) = ⊥
AccountsStand n (a ∷ more) [] = ⊥
