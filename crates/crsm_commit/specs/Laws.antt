-- The statements of the laws about pending and ready entries.
use Rattle.std.specs.Prelude.{◌≡◌, ℕ, ◌↔◌, ◌∷◌, ◌&&◌, Bool, true, false, List, Some, IsTrue}
use Rattle.crsm_base.specs.declared.Stamp.{Stamp}
use Rattle.crsm_base.specs.declared.Entry.{Entry}
use Rattle.crsm_spec.specs.Ready.{is_next}
use Rattle.crsm_commit.specs.Pending.{PendingStands, first_ready, may_commit}
use Rattle.crsm_commit.specs.declared.pending.Pending.{Pending}

-- a stamp is ready if and only if it may be committed and no pending entry is below it
abbrev pub ReadyIsExact : Type 0
ReadyIsExact =
    (spec members : List ℕ) (received : List (ℕ × ℕ)) (votes : List (Stamp × ℕ)) (waiting : List Entry) (s : Stamp) →
    (first_ready spec members received votes waiting ≡ Some s)
    ↔ IsTrue (may_commit spec members received votes s && is_next waiting s)

-- a vote for a stamp that is not tracked may be left out
abbrev pub UntrackedDoNotCount : Type 0
UntrackedDoNotCount =
    (pending : Pending) (tracked : Stamp → Bool) (waiting : List Entry) (votes : List (Stamp × ℕ)) (stamp : Stamp) (k : ℕ) →
    tracked stamp ≡ false → PendingStands pending tracked waiting votes → PendingStands pending tracked waiting ((stamp, k) ∷ votes)

-- what stands for some tracked stamps stands for fewer
abbrev pub FewerMayBeTracked : Type 0
FewerMayBeTracked =
    (pending : Pending) (wide narrow : Stamp → Bool) (waiting : List Entry) (votes : List (Stamp × ℕ)) →
    ((s : Stamp) → narrow s ≡ true → wide s ≡ true) → PendingStands pending wide waiting votes → PendingStands pending narrow waiting votes
