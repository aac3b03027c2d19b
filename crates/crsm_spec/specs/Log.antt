-- The state that a replica's log records. A log is the list of its records, the newest first, so an earlier state is
-- that of a tail of the list.
use Rattle.std.specs.Prelude.{ℕ, ◌+◌, Bool, true, false, ◌==◌, ◌&&◌, not, if◌then◌else◌, List, [], ◌∷◌, ◌++◌, length, filter, find, count_by, Option, None, Some, option_map, option_to_list}
use Rattle.std.specs.List.{list_any}
use Rattle.std.specs.Option.{option_map_or}
use Rattle.crsm_spec.specs.Types.{Stamp, Ballot, Entry, Decision, Rec}
use Rattle.crsm_base.specs.Order.{stamp_lt, stamp_eq}
use Rattle.crsm_spec.specs.Lists.{last_of, numbers_below}
use Rattle.crsm_spec.specs.Quorum.{spec_decided}

-- the records kept, the newest first
abbrev pub Log : Type 0
Log = List Rec

-- ---- epochs

-- the decision of the known epoch; epoch 0 has none
unfoldable pub decision : Log → Option Decision
decision [] = None
decision (Rec.Decide d ∷ log) = Some d
decision (_ ∷ log) = decision log

-- the known epoch: that of the latest decision, 0 before the first
unfoldable pub known : Log → ℕ
known log = option_map_or (λ d. d.epoch) (decision log) 0

-- the number of entries that are executed when the known epoch begins
unfoldable pub start : Log → ℕ
start log = option_map_or (λ d. d.base_len + length d.tail) (decision log) 0

-- the members of the known epoch, where a cluster began with n replicas
unfoldable pub members : ℕ → Log → List ℕ
members n log = option_map_or (λ d. d.members) (decision log) (numbers_below n)

-- the Spec of the known epoch: its votes, its collection and the next decision are counted over these replicas
unfoldable pub spec : ℕ → Log → List ℕ
spec n log = spec_decided n (decision log)

-- ---- entries

-- the entries with e inserted by ascending stamp
unfoldable pub with_entry : Entry → List Entry → List Entry
with_entry e [] = e ∷ []
with_entry e (f ∷ es) = if stamp_lt e.stamp f.stamp then e ∷ f ∷ es else f ∷ with_entry e es

-- the entries of epoch x that were logged, by ascending stamp
unfoldable pub logged_in : ℕ → Log → List Entry
logged_in x [] = []
logged_in x (Rec.Prepare e ∷ log) = if e.epoch == x then with_entry e (logged_in x log) else logged_in x log
logged_in x (_ ∷ log) = logged_in x log

-- the logged entries of the known epoch, by ascending stamp
unfoldable pub logged : Log → List Entry
logged log = logged_in (known log) log

-- the logged entry of the known epoch that a commit of this stamp executes
unfoldable pub entry_of : Log → Stamp → Option Entry
entry_of log s = find (λ e. stamp_eq e.stamp s) (logged log)

-- the executed list: a commit adds the logged entry of its stamp, an adoption adds its entries
unfoldable pub executed : Log → List Entry
executed [] = []
executed (Rec.Commit s ∷ log) = executed log ++ option_to_list (entry_of log s)
executed (Rec.Adopt place es ∷ log) = executed log ++ es
executed (_ ∷ log) = executed log

-- the stamp of the last executed entry of the known epoch
unfoldable pub last_stamp : Log → Option Stamp
last_stamp log = option_map (λ e. e.stamp) (last_of (filter (λ e. e.epoch == known log) (executed log)))

-- the entries above a stamp, or all of them if there is none
unfoldable pub above : Option Stamp → List Entry → List Entry
above None es = es
above (Some s) es = filter (λ e. stamp_lt s e.stamp) es

-- the logged entries of the known epoch that are not executed, by ascending stamp
unfoldable pub unexecuted : Log → List Entry
unexecuted log = above (last_stamp log) (logged log)

-- ---- boots, promises

-- the record of a boot
unfoldable pub is_boot : Rec → Bool
is_boot (Rec.Boot me n) = true
is_boot _ = false

-- the number of boots recorded
unfoldable pub boots : Log → ℕ
boots log = count_by is_boot log

-- the record of entering epoch x
unfoldable pub is_enter : ℕ → Rec → Bool
is_enter x (Rec.Enter y) = y == x
is_enter x _ = false

-- whether some boot has entered epoch x
unfoldable pub has_entered : ℕ → Log → Bool
has_entered x log = list_any (is_enter x) log

-- whether the newest boot has entered the known epoch
unfoldable pub live : Log → Bool
live [] = false
live (Rec.Enter x ∷ log) = true
live (Rec.Boot me n ∷ log) = false
live (Rec.Decide d ∷ log) = false
live (_ ∷ log) = live log

-- whether the replica is suspended: it logs and stamps no more entries in the known epoch
unfoldable pub suspended : Log → Bool
suspended [] = false
suspended (Rec.Suspend x ∷ log) = true
suspended (Rec.Decide d ∷ log) = false
suspended (_ ∷ log) = suspended log

-- whether the replica is live and not suspended, so that it logs, stamps and commits
unfoldable pub active : Log → Bool
active log = live log && not (suspended log)

-- the promise at the beginning of an instance
unfoldable pub no_ballot : Ballot
no_ballot = record { round = 0; by = 0 }

-- the ballot that was promised on the next decision
unfoldable pub promised : Log → Ballot
promised [] = no_ballot
promised (Rec.Promise i b ∷ log) = b
promised (Rec.Accept i b d ∷ log) = b
promised (Rec.Decide d ∷ log) = no_ballot
promised (_ ∷ log) = promised log

-- the next decision that was accepted last, with its ballot
unfoldable pub accepted : Log → Option (Ballot × Decision)
accepted [] = None
accepted (Rec.Accept i b d ∷ log) = Some (b, d)
accepted (Rec.Decide d ∷ log) = None
accepted (_ ∷ log) = accepted log
