-- Sheets of several nodes: the log that each found and the turns that it took, and the one list of them all.
use Rattle.std.specs.Prelude.{ℕ, List, [], ◌∷◌, map}
use Rattle.crsm_spec.specs.Types.{Entry}
use Rattle.crsm_spec.specs.Log.{Log, executed}
use Rattle.crsm_spec.specs.Draft.{Draft}
use Rattle.crsm_spec.specs.Node.{Turn, outputs}
use Rattle.crsm_spec.specs.Run.{longest}

-- The sheet of node me: the log that it found, the number of the line at which it had read it, and its turns, one line
-- each.
pub record Sheet : Type 0 where
  pub me : ℕ
  pub opened : ℕ
  pub found : Log
  pub turns : List (Turn × ℕ)

-- the log after these steps
unfoldable pub log_after : Log → List Draft → Log
log_after log [] = log
log_after log (x ∷ xs) = log_after x.replica.log xs

module _ (n : ℕ) where
  -- the steps of a sheet, in a cluster that began with n replicas: the boot, and one for each turn
  abbrev pub steps_of : Sheet → List Draft
  steps_of s = outputs s.me n s.found s.turns

  -- the log after all steps
  abbrev pub last_log : Sheet → Log
  last_log s = log_after s.found (steps_of s)

  -- the executed list after all steps
  abbrev pub list_of : Sheet → List Entry
  list_of s = executed (last_log s)

  -- The longest of their executed lists, the first of several.
  abbrev pub one_list : List Sheet → List Entry
  one_list sheets = longest (map list_of sheets)
