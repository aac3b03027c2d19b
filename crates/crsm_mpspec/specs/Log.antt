-- The state that a replica's log leads to. A log is the list of its records, the newest first.
use Rattle.std.specs.Prelude.{ℕ, zero, suc, Bool, true, false, ◌==◌, nat_le, List, [], ◌∷◌, map, filter, count_by, Option, None, Some, is_some}
use Rattle.std.specs.Ordering.{nat_cmp}
use Rattle.std.specs.Map.{lookup}
use Rattle.std.specs.BTreeMap.{insert_entry}
use Rattle.crsm_spec.specs.Lists.{greatest}
use Rattle.crsm_mpspec.specs.declared.rec.MpRec.{MpRec}
use Rattle.crsm_mpspec.specs.declared.accepts.MpAccepted.{MpAccepted}
use Rattle.crsm_mpspec.specs.declared.choices.MpChosen.{MpChosen}
use Rattle.crsm_mpspec.specs.Types.{Ballot, Value}

-- the records kept, the newest first
abbrev pub Log : Type 0
Log = List MpRec

-- ---- lists by slot

-- the first item at a slot
unfoldable pub at_slot : {A : Type 0} → ℕ → List (ℕ × A) → Option A
at_slot slot xs = lookup (λ s. s == slot) xs

-- the same by ascending slot, of each slot the first
unfoldable pub by_slot : {A : Type 0} → List (ℕ × A) → List (ℕ × A)
by_slot [] = []
by_slot (x ∷ xs) = insert_entry nat_cmp (by_slot xs) x.0 x.1

-- those of the slots from this one on
unfoldable pub from_slot : {A : Type 0} → ℕ → List (ℕ × A) → List (ℕ × A)
from_slot start xs = filter (λ x. nat_le start x.0) xs

-- ---- ballots

-- the promise at the beginning
unfoldable pub no_ballot : Ballot
no_ballot = record { round = 0; by = 0 }

-- the ballot that was promised last; an accept promises its ballot
unfoldable pub promised : Log → Ballot
promised [] = no_ballot
promised (MpRec.Promise b ∷ log) = b
promised (MpRec.Accept slot b v ∷ log) = b
promised (_ ∷ log) = promised log

-- ---- accepted values

-- each value that was accepted, with its slot and ballot, the newest first
unfoldable pub accepts : Log → List (ℕ × (Ballot × Value))
accepts [] = []
accepts (MpRec.Accept slot b v ∷ log) = (slot, (b, v)) ∷ accepts log
accepts (_ ∷ log) = accepts log

-- the value accepted last at a slot
unfoldable pub accepted_at : ℕ → Log → Option (Ballot × Value)
accepted_at slot log = at_slot slot (accepts log)

-- the value accepted last at each slot from this one on, by ascending slot
unfoldable pub accepted_from : ℕ → Log → List MpAccepted
accepted_from start log =
    map (λ x. record { slot = x.0; ballot = x.1.0; value = x.1.1 }) (from_slot start (by_slot (accepts log)))

-- ---- chosen values

-- each value that is known to be chosen, with its slot, the newest first
unfoldable pub choices : Log → List (ℕ × Value)
choices [] = []
choices (MpRec.Choose slot v ∷ log) = (slot, v) ∷ choices log
choices (_ ∷ log) = choices log

-- the value of a slot that is known to be chosen
unfoldable pub chosen_at : ℕ → Log → Option Value
chosen_at slot log = at_slot slot (choices log)

-- the value of the slot is known
unfoldable pub is_chosen : ℕ → Log → Bool
is_chosen slot log = is_some (chosen_at slot log)

-- the known values of the slots from this one on, by ascending slot
unfoldable pub chosen_from : ℕ → Log → List MpChosen
chosen_from start log = map (λ x. record { slot = x.0; value = x.1 }) (from_slot start (by_slot (choices log)))

-- no slot from this one on is known
unfoldable pub end : Log → ℕ
end log = greatest (map (λ x. suc x.0) (choices log))

-- the value of a slot, if it is known, and those behind it
unfoldable pub and_then : Option Value → List Value → List Value
and_then None vs = []
and_then (Some v) vs = v ∷ vs

-- the known values of at most this number of slots from this one on, up to the first slot that is not known
unfoldable pub run_from : ℕ → ℕ → Log → List Value
run_from zero slot log = []
run_from (suc most) slot log = and_then (chosen_at slot log) (run_from most (suc slot) log)

-- the executed list: the values of the slots from 0 on, up to the first slot that is not known
unfoldable pub executed : Log → List Value
executed log = run_from (end log) 0 log

-- ---- boots

-- the record of a boot
unfoldable pub is_boot : MpRec → Bool
is_boot MpRec.Boot = true
is_boot _ = false

-- how many boots are on record
unfoldable pub boots : Log → ℕ
boots log = count_by is_boot log
