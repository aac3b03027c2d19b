-- Frames and acknowledgements: the rule that applies, and the effect of a frame whose record comes first.
use Rattle.std.proofs.Common.{◌≡◌, ◌∙◌, ℕ, ◌<◌, ◌≤◌, refl, ap, sym, length, Bool, true, false, arith, ◌∷◌}
use Rattle.std.specs.Prelude.{◌≢◌, ◌==◌, ◌&&◌, ◌||◌, not, nat_le}
use Rattle.crsm_spec.specs.Types.{Stamp, Entry, Rec, InEpoch}
use Rattle.crsm_spec.specs.Choice.{when◌then◌otherwise◌}
use Rattle.crsm_spec.specs.Lists.{has}
use Rattle.crsm_spec.specs.Log.{known, decision, active}
use Rattle.crsm_spec.specs.Replica.{Replica, members_of, latest_from, frames_to, next_from}
use Rattle.crsm_spec.specs.Draft.{Draft, keep, send, count_vote, send_decision, send_retrieve}
use Rattle.crsm_spec.specs.Frames.{time_of, is_wrong, is_odd_frame, owe, ack, receive, take_frame, on_frame, on_ack}
use Rattle.crsm_spec.specs.Step.{if_fitting}
use Rattle.crsm_replica.specs.declared.state.ReplicaState.{ReplicaState}
use Rattle.crsm_replica.specs.Replica.{ReplicaStands}
use Rattle.std.proofs.lemmas.Bool.{leb-false}
use Rattle.crsm_core.proofs.Fitting.{if_not, stands_as, done, ignored, is_lt, not_lt, is_le, not_le, is_eq, not_eq}

-- ---- the invalid payloads

pub part_of : (a h : Bool) → a ≡ true → h ≡ a && h
part_of true h e = refl
part_of false h e = absurd (cc)

pub no_part : (a h : Bool) → a ≡ false → false ≡ a && h
no_part true h e = absurd (cc)
no_part false h e = refl

pub odd_time : (r : Replica) (k : ℕ) (p : InEpoch) → time_of p ≤ latest_from r.received k → true ≡ is_odd_frame r k p
unfolding is_odd_frame
odd_time r k p l = rw (is_le (time_of p) (latest_from r.received k) l) refl

pub odd_payload : (r : Replica) (k : ℕ) (p : InEpoch) → latest_from r.received k < time_of p → is_wrong r k p ≡ is_odd_frame r k p
unfolding is_odd_frame
odd_payload r k p l = rw (not_le (time_of p) (latest_from r.received k) l) refl

pub wrong_epoch : (r : Replica) (k : ℕ) (e : Entry) → e.epoch ≢ known r.log → true ≡ is_wrong r k (InEpoch.Prepare e)
unfolding is_wrong
wrong_epoch r k e l = rw (not_eq e.epoch (known r.log) l) refl

pub wrong_origin : (r : Replica) (k : ℕ) (e : Entry) → e.epoch ≡ known r.log → not (e.stamp.origin == k) ≡ is_wrong r k (InEpoch.Prepare e)
unfolding is_wrong
wrong_origin r k e l = rw (is_eq e.epoch (known r.log) l) refl

pub wrong_ok : (r : Replica) (k : ℕ) (s : Stamp) (at : ℕ) → not (has (members_of r) s.origin) ≡ is_wrong r k (InEpoch.PrepareOk s at)
unfolding is_wrong
wrong_ok r k s at = refl

pub wrong_time : (r : Replica) (k at : ℕ) → false ≡ is_wrong r k (InEpoch.ClockTime at)
unfolding is_wrong
wrong_time r k at = refl

-- a valid payload has a later time
pub later : (r : Replica) (k : ℕ) (p : InEpoch) → is_odd_frame r k p ≡ false → latest_from r.received k < time_of p
unfolding is_odd_frame
later r k p h = go (nat_le (time_of p) (latest_from r.received k)) refl h
  where
    go : (b : Bool) → nat_le (time_of p) (latest_from r.received k) ≡ b → (b || is_wrong r k p) ≡ false → latest_from r.received k < time_of p
    go true e h = absurd (cc)
    go false e h = leb-false (time_of p) (latest_from r.received k) e

-- ---- which rule applies to a frame

pub earlier_epoch : (k e seq : ℕ) (p : InEpoch) (x : Draft) → e < known x.replica.log → send_decision k x ≡ on_frame k e seq p x
unfolding on_frame when◌then◌otherwise◌
earlier_epoch k e seq p x l = rw (is_lt e (known x.replica.log) l) refl

pub later_epoch : (k e seq : ℕ) (p : InEpoch) (x : Draft) → known x.replica.log < e → send_retrieve k x ≡ on_frame k e seq p x
unfolding on_frame when◌then◌otherwise◌
later_epoch k e seq p x l = rw (not_lt e (known x.replica.log) (omega (arith, l)), is_lt (known x.replica.log) e l) refl

apart : (a h : Bool) → (a && h) ≡ false → (not a || not h) ≡ true
apart true h e = rw e refl
apart false h e = refl

together : (a h : Bool) → (a && h) ≡ true → (not a || not h) ≡ false
together true h e = rw e refl
together false h e = absurd (cc)

-- active, with k as a member
abbrev pub with_member : ℕ → Replica → Bool
with_member k r = active r.log && has (members_of r) k

pub not_together : (k e seq : ℕ) (p : InEpoch) (x : Draft) → e ≡ known x.replica.log → with_member k x.replica ≡ false → x ≡ on_frame k e seq p x
unfolding on_frame when◌then◌otherwise◌
not_together k e seq p x l a =
    rw (not_lt e (known x.replica.log) (omega (arith, l)), not_lt (known x.replica.log) e (omega (arith, l)), apart (active x.replica.log) (has (members_of x.replica) k) a) refl

pub out_of_turn : (k e seq : ℕ) (p : InEpoch) (x : Draft) → e ≡ known x.replica.log → with_member k x.replica ≡ true → seq ≢ next_from x.replica k →
    ack k x ≡ on_frame k e seq p x
unfolding on_frame when◌then◌otherwise◌
out_of_turn k e seq p x l a n =
    rw (
      not_lt e (known x.replica.log) (omega (arith, l)),
      not_lt (known x.replica.log) e (omega (arith, l)),
      together (active x.replica.log) (has (members_of x.replica) k) a,
      not_eq seq (next_from x.replica k) n,
    ) refl

pub odd_one : (k e seq : ℕ) (p : InEpoch) (x : Draft) → e ≡ known x.replica.log → with_member k x.replica ≡ true → seq ≡ next_from x.replica k →
    is_odd_frame x.replica k p ≡ true → x ≡ on_frame k e seq p x
unfolding on_frame when◌then◌otherwise◌
odd_one k e seq p x l a n o =
    rw (
      not_lt e (known x.replica.log) (omega (arith, l)),
      not_lt (known x.replica.log) e (omega (arith, l)),
      together (active x.replica.log) (has (members_of x.replica) k) a,
      is_eq seq (next_from x.replica k) n,
      o,
    ) refl

pub next_one : (k e seq : ℕ) (p : InEpoch) (x : Draft) → e ≡ known x.replica.log → with_member k x.replica ≡ true → seq ≡ next_from x.replica k →
    is_odd_frame x.replica k p ≡ false → take_frame k p x ≡ on_frame k e seq p x
unfolding on_frame when◌then◌otherwise◌
next_one k e seq p x l a n o =
    rw (
      not_lt e (known x.replica.log) (omega (arith, l)),
      not_lt (known x.replica.log) e (omega (arith, l)),
      together (active x.replica.log) (has (members_of x.replica) k) a,
      is_eq seq (next_from x.replica k) n,
      o,
    ) refl

-- ---- taking a frame

-- the link from k moves on, and its time is received
abbrev pub received_at : ℕ → ℕ → Draft → Draft
received_at k time x = record x { replica = record x.replica { taken = k ∷ x.replica.taken; received = (k, time) ∷ x.replica.received } }

-- the time of a payload that is known
abbrev pub time_in : InEpoch → ℕ
time_in (InEpoch.Prepare e) = e.stamp.time
time_in (InEpoch.PrepareOk s at) = at
time_in (InEpoch.ClockTime at) = at

pub time_as : (p : InEpoch) → time_of p ≡ time_in p
unfolding time_of
time_as (InEpoch.Prepare e) = refl
time_as (InEpoch.PrepareOk s at) = refl
time_as (InEpoch.ClockTime at) = refl

pub time_above : (r : Replica) (k : ℕ) (q p : InEpoch) → q ≡ p → latest_from r.received k < time_of q → latest_from r.received k < time_in p
time_above r k q p e l = let f : time_of q ≡ time_in p = ap time_of e ∙ time_as p in omega (arith, f, l)

pub ok_taken : (k : ℕ) (s : Stamp) (at : ℕ) (x : Draft) → count_vote s k (ack k (received_at k at x)) ≡ take_frame k (InEpoch.PrepareOk s at) x
unfolding take_frame receive time_of
ok_taken k s at x = refl

pub time_taken : (k at : ℕ) (x : Draft) → ack k (received_at k at x) ≡ take_frame k (InEpoch.ClockTime at) x
unfolding take_frame receive time_of
time_taken k at x = refl

-- the record is kept before the link moves on
abbrev pub prepare_taken : ℕ → Entry → Draft → Draft
prepare_taken k e x = owe e.stamp (count_vote e.stamp x.replica.me (count_vote e.stamp k (ack k (received_at k e.stamp.time (keep (Rec.Prepare e) x)))))

taken_is : (k : ℕ) (e : Entry) (x : Draft) → prepare_taken k e x ≡ take_frame k (InEpoch.Prepare e) x
unfolding take_frame receive time_of keep ack send count_vote owe known decision next_from
taken_is k e x = refl

fits_as : (k : ℕ) (e : Entry) (x : Draft) → (prepare_taken k e x).fitting ≡ (keep (Rec.Prepare e) x).fitting
unfolding owe count_vote ack send
fits_as k e x = refl

pub me_kept : (rec : Rec) (x : Draft) → (keep rec x).replica.me ≡ x.replica.me
unfolding keep
me_kept rec x = refl

pub received_kept : (rec : Rec) (x : Draft) → (keep rec x).replica.received ≡ x.replica.received
unfolding keep
received_kept rec x = refl

pub is_taken : (state : ReplicaState) (k : ℕ) (e : Entry) (x : Draft) → (keep (Rec.Prepare e) x).fitting ≡ true →
    ReplicaStands state (prepare_taken k e x) → ReplicaStands state (if_fitting x (take_frame k (InEpoch.Prepare e) x))
is_taken state k e x f s = done state x (take_frame k (InEpoch.Prepare e) x) (prepare_taken k e x) (taken_is k e x) (fits_as k e x ∙ f) s

pub is_not_taken : (state : ReplicaState) (k : ℕ) (e : Entry) (x : Draft) → (keep (Rec.Prepare e) x).fitting ≡ false →
    ReplicaStands state (if_fitting x (keep (Rec.Prepare e) x)) → ReplicaStands state (if_fitting x (take_frame k (InEpoch.Prepare e) x))
is_not_taken state k e x f s =
    ignored state x (take_frame k (InEpoch.Prepare e) x) (ap (λ (d : Draft). d.fitting) (sym (taken_is k e x)) ∙ fits_as k e x ∙ f)
    (stands_as state (if_fitting x (keep (Rec.Prepare e) x)) x (if_not x (keep (Rec.Prepare e) x) f) s)

-- ---- Acks

-- the frames to k below this number have come
abbrev pub acked_to : ℕ → ℕ → Draft → Draft
acked_to k next x = record x { replica = record x.replica { acked = (k, next) ∷ x.replica.acked } }

pub other_epoch : (k e next : ℕ) (x : Draft) → e ≢ known x.replica.log → x ≡ on_ack k e next x
unfolding on_ack when◌then◌otherwise◌
other_epoch k e next x l = rw (not_eq e (known x.replica.log) l) refl

pub no_member : (k e next : ℕ) (x : Draft) → e ≡ known x.replica.log → with_member k x.replica ≡ false → x ≡ on_ack k e next x
unfolding on_ack when◌then◌otherwise◌
no_member k e next x l a = rw (is_eq e (known x.replica.log) l, a) refl

pub too_many : (k e next : ℕ) (x : Draft) → e ≡ known x.replica.log → with_member k x.replica ≡ true → length (frames_to x.replica k) < next → x ≡ on_ack k e next x
unfolding on_ack when◌then◌otherwise◌
too_many k e next x l a n = rw (is_eq e (known x.replica.log) l, a, not_le next (length (frames_to x.replica k)) n) refl

pub is_acked : (k e next : ℕ) (x : Draft) → e ≡ known x.replica.log → with_member k x.replica ≡ true → next ≤ length (frames_to x.replica k) →
    acked_to k next x ≡ on_ack k e next x
unfolding on_ack when◌then◌otherwise◌
is_acked k e next x l a n = rw (is_eq e (known x.replica.log) l, a, is_le next (length (frames_to x.replica k)) n) refl
