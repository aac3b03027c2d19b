-- What the pending entries stand for, and which of them is ready.
use Rattle.std.specs.Prelude.{◌≡◌, ℕ, ◌<◌, Bool, true, ◌&&◌, List, [], ◌∷◌, length, map, filter, slice_index_or, Option, None, Some, if◌then◌else◌, ◌≤◌}
use Rattle.std.specs.Option.{option_map}
use Rattle.crsm_base.specs.declared.Stamp.{Stamp}
use Rattle.crsm_base.specs.declared.Entry.{Entry}
use Rattle.crsm_spec.specs.Lists.{first_of}
use Rattle.crsm_spec.specs.Ready.{is_replicated, is_stable}
use Rattle.crsm_phase.specs.Owed.{IsAscending}
use Rattle.crsm_commit.specs.Masks.{mask_at, mask_of}
use Rattle.crsm_commit.specs.Waiting.{stamp_of, is_in}
use Rattle.crsm_commit.specs.declared.pending.Pending.{Pending}
use Rattle.std.specs.List.{AllByRecursion}
use Rattle.crsm_commit.specs.Received.{LatestStands}
use Rattle.crsm_commit.specs.declared.latest.Latest.{Latest}

-- The value stands for the entries that were added and not taken, by ascending stamp, and for all votes, as far as
-- they are for a stamp that is tracked.
pub record PendingStands (pending : Pending) (tracked : Stamp → Bool) (waiting : List Entry) (votes : List (Stamp × ℕ)) : Type 0 where
  pub count : length pending.queues ≡ 16
  pub ascending : IsAscending (map stamp_of waiting)
  pub queues : (i : ℕ) → i < 16 → slice_index_or pending.queues i [] ≡ map stamp_of (filter (is_in i) waiting)
  pub first : pending.first ≡ option_map stamp_of (first_of waiting)
  pub masks : (s : Stamp) → tracked s ≡ true → mask_at pending.votes s ≡ mask_of votes s

-- a majority of the Spec has logged the stamp, and each member has reached its time
abbrev pub may_commit : List ℕ → List ℕ → List (ℕ × ℕ) → List (Stamp × ℕ) → Stamp → Bool
may_commit spec members received votes s = is_replicated spec votes s && is_stable members received s

-- the first of the entries, where it may be committed
abbrev pub first_ready : List ℕ → List ℕ → List (ℕ × ℕ) → List (Stamp × ℕ) → List Entry → Option Stamp
first_ready spec members received votes [] = None
first_ready spec members received votes (e ∷ es) = if may_commit spec members received votes e.stamp then Some e.stamp else None

-- for each tracking, entries and votes that the value stands for
abbrev pub WhereStands : Pending → ((Stamp → Bool) → List Entry → List (Stamp × ℕ) → Type 0) → Type 0
WhereStands pending P =
    (tracked : Stamp → Bool) (waiting : List Entry) (votes : List (Stamp × ℕ)) →
    PendingStands pending tracked waiting votes → P tracked waiting votes

-- the same where these times, each at least 1, were received
abbrev pub WhereHeard : Pending → Latest → ((Stamp → Bool) → List Entry → List (Stamp × ℕ) → List (ℕ × ℕ) → Type 0) → Type 0
WhereHeard pending latest P =
    (tracked : Stamp → Bool) (waiting : List Entry) (votes : List (Stamp × ℕ)) (received : List (ℕ × ℕ)) →
    PendingStands pending tracked waiting votes → LatestStands latest received → AllByRecursion (λ h. 1 ≤ h.1) received → P tracked waiting votes received
