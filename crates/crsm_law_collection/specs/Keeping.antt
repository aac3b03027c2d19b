-- The facts of an epoch are kept record by record: the conditions of each kind of record.
use Rattle.std.specs.Prelude.{◌≡◌, ◌⊎◌, ℕ, ◌+◌, ◌<◌, ◌≤◌, Bool, IsTrue, List, [], ◌∷◌, length, count_by, Some, slice_get}
use Rattle.crsm_spec.specs.Types.{Entry, Rec}
use Rattle.crsm_spec.specs.Lists.{has, Among, first_of}
use Rattle.crsm_spec.specs.Log.{Log, known, logged_in, unexecuted, executed}
use Rattle.crsm_spec.specs.Paxos.{majority}
use Rattle.crsm_spec.specs.Fits.{fits}
use Rattle.crsm_law_collection.specs.Collecting.{CommitOf, EpochFacts}

-- replica k has written one more record, and no other replica has
pub record OneMore (logs later : ℕ → Log) (k : ℕ) (rec : Rec) : Type 0 where
  pub here : later k ≡ rec ∷ logs k
  pub other : (j : ℕ) → (j ≡ k → ⊥) → later j ≡ logs j

-- The conditions that the facts of epoch e set for a record of replica k.
abbrev pub Owes : ℕ → ℕ → List ℕ → (ℕ → Log) → ℕ → Rec → Type 0
-- an entry of e is the one that others have with its stamp, and its time is above all that was committed without it
Owes e begins spec logs k (Rec.Prepare y) =
    known (logs k) ≡ e →
    ((j : ℕ) (z : Entry) → Among (logged_in e (logs j)) z → z.stamp ≡ y.stamp → z ≡ y)
    × ((p : ℕ) (x : Entry) (c : CommitOf e logs p x) → y.stamp.time ≤ x.stamp.time → Among (logged_in e c.log) y)
-- a committed entry is logged at a majority, and all that is logged anywhere up to its time is logged here
Owes e begins spec logs k (Rec.Commit s) =
    known (logs k) ≡ e → (x : Entry) → first_of (unexecuted (logs k)) ≡ Some x →
    ((test : ℕ → Bool) × (majority (length spec) ≤ count_by test spec) × ((j : ℕ) → IsTrue (test j) → Among (logged_in e (logs j)) x))
    × ((j : ℕ) (y : Entry) → Among (logged_in e (logs j)) y → y.stamp.time ≤ x.stamp.time → Among (logged_in e (logs k)) y)
-- adopted entries below the start are older, and those from there on were committed at their places
Owes e begins spec logs k (Rec.Adopt place es) =
    known (logs k) ≡ e → (i : ℕ) (y : Entry) → slice_get es i ≡ Some y →
    (place + i < begins → y.epoch < e) × (begins ≤ place + i → CommitOf e logs (place + i) y)
-- the decision of e gives its start, and no list is longer when it is recorded
Owes e begins spec logs k (Rec.Decide d) =
    d.epoch ≡ e → (d.base_len + length d.tail ≡ begins) × (length (executed (logs k)) ≤ begins)
Owes e begins spec logs k _ = Unit {0}

-- The facts hold before the first record, of each epoch.
abbrev pub FactsBegin : Type 0
FactsBegin = (e n begins : ℕ) (spec : List ℕ) → (e ≡ 0 → begins ≡ 0) → EpochFacts e n begins spec (λ k. [])

-- They are kept by each record that fits and meets its conditions.
abbrev pub FactsGoOn : Type 0
FactsGoOn =
    (e n begins : ℕ) (spec : List ℕ) (logs later : ℕ → Log) (k : ℕ) (rec : Rec) →
    EpochFacts e n begins spec logs → OneMore logs later k rec → IsTrue (fits k n (logs k) rec) →
    Owes e begins spec logs k rec → EpochFacts e n begins spec later

-- ---- by origins

-- each entry that is logged anywhere is logged at its origin, a member
abbrev pub Origins : ℕ → List ℕ → (ℕ → Log) → Type 0
Origins e members logs = (k : ℕ) (y : Entry) → Among (logged_in e (logs k)) y → IsTrue (has members y.stamp.origin) × Among (logged_in e (logs y.stamp.origin)) y

-- The same conditions in terms of a replica's state: a received entry is its origin's, an own one has a greater time
-- than all that was committed, and what was received from members is logged where an entry is committed.
abbrev pub OwesOfState : ℕ → ℕ → List ℕ → List ℕ → (ℕ → Log) → ℕ → Rec → Type 0
OwesOfState e begins spec members logs k (Rec.Prepare y) =
    known (logs k) ≡ e →
    IsTrue (has members y.stamp.origin)
    × (Among (logged_in e (logs y.stamp.origin)) y
    ⊎ ((y.stamp.origin ≡ k) × ((p : ℕ) (x : Entry) → CommitOf e logs p x → x.stamp.time < y.stamp.time)))
OwesOfState e begins spec members logs k (Rec.Commit s) =
    known (logs k) ≡ e → (x : Entry) → first_of (unexecuted (logs k)) ≡ Some x →
    ((test : ℕ → Bool) × (majority (length spec) ≤ count_by test spec) × ((j : ℕ) → IsTrue (test j) → Among (logged_in e (logs j)) x))
    × ((m : ℕ) (y : Entry) → IsTrue (has members m) → Among (logged_in e (logs m)) y → y.stamp.origin ≡ m →
    y.stamp.time ≤ x.stamp.time → Among (logged_in e (logs k)) y)
OwesOfState e begins spec members logs k rec = Owes e begins spec logs k rec

-- The facts and the origins are kept together.
abbrev pub FactsOfStateGoOn : Type 0
FactsOfStateGoOn =
    (e n begins : ℕ) (spec members : List ℕ) (logs later : ℕ → Log) (k : ℕ) (rec : Rec) →
    EpochFacts e n begins spec logs → Origins e members logs → OneMore logs later k rec → IsTrue (fits k n (logs k) rec) →
    OwesOfState e begins spec members logs k rec → EpochFacts e n begins spec later × Origins e members later
