-- The part of a step that serves the numbered links: frames, acknowledgements, pending PREPAREOKs and clock times.
use Rattle.std.specs.Prelude.{ℕ, ◌+◌, Bool, false, ◌==◌, ◌&&◌, ◌||◌, not, nat_lt, nat_le, List, [], ◌∷◌, length, take, fold, Option, None, Some}
use Rattle.std.specs.Option.{option_map_or}
use Rattle.crsm_spec.specs.Types.{Stamp, Rec, InEpoch, Datagram}
use Rattle.crsm_base.specs.Order.{stamp_lt}
use Rattle.crsm_base.specs.Limits.{idle_after, most_again}
use Rattle.crsm_spec.specs.Clock.{u64_max}
use Rattle.crsm_spec.specs.Lists.{has}
use Rattle.crsm_spec.specs.Log.{known, active}
use Rattle.crsm_spec.specs.Replica.{Replica, members_of, other_members, last_issued, latest_from, frames_to, next_from, unacked, is_congested}
use Rattle.crsm_spec.specs.Draft.{Draft, keep, send, count_vote, would, issued_at, push_to_members, send_decision, send_retrieve}
use Rattle.crsm_spec.specs.Choice.{when◌then◌otherwise◌}

-- whether the datagram names this replica as its sender, or another as its receiver
unfoldable pub is_astray : Replica → ℕ → ℕ → Bool
is_astray r from to = (nat_lt 14 from || from == r.me) || not (to == r.me)

-- ---- frames

-- the time that the sender issued for a payload
unfoldable pub time_of : InEpoch → ℕ
time_of (InEpoch.Prepare e) = e.stamp.time
time_of (InEpoch.PrepareOk s at) = at
time_of (InEpoch.ClockTime at) = at

-- whether k may not send this payload
unfoldable pub is_wrong : Replica → ℕ → InEpoch → Bool
is_wrong r k (InEpoch.Prepare e) = not (e.epoch == known r.log) || not (e.stamp.origin == k)
is_wrong r k (InEpoch.PrepareOk s at) = not (has (members_of r) s.origin)
is_wrong r k (InEpoch.ClockTime at) = false

-- whether the frame at the next sequence number is invalid: its time is not above k's latest, or k may not send it
unfoldable pub is_odd_frame : Replica → ℕ → InEpoch → Bool
is_odd_frame r k payload = nat_le (time_of payload) (latest_from r.received k) || is_wrong r k payload

-- the stamps with this one among them, ascending
unfoldable pub with_stamp : Stamp → List Stamp → List Stamp
with_stamp s [] = s ∷ []
with_stamp s (t ∷ ts) = when stamp_lt s t then s ∷ t ∷ ts otherwise t ∷ with_stamp s ts

-- adds a pending PREPAREOK
unfoldable pub owe : Stamp → Draft → Draft
owe s x = record x { replica = record x.replica { owed = with_stamp s x.replica.owed } }

-- sends k the next sequence number that is expected from it
unfoldable pub ack : ℕ → Draft → Draft
ack k x = send k (Datagram.Ack x.replica.me k (known x.replica.log) (next_from x.replica k)) x

-- handles the payload of a frame from k
unfoldable pub receive : ℕ → InEpoch → Draft → Draft
receive k (InEpoch.Prepare e) x =
    owe e.stamp (count_vote e.stamp x.replica.me (count_vote e.stamp k (keep (Rec.Prepare e) x)))
receive k (InEpoch.PrepareOk s at) x = count_vote s k x
receive k (InEpoch.ClockTime at) x = x

-- receives the next frame of k: advances the link, records its time, acknowledges it
unfoldable pub take_frame : ℕ → InEpoch → Draft → Draft
take_frame k payload x =
    let r = x.replica in
    receive k payload (ack k (record x { replica = record r { taken = k ∷ r.taken; received = (k, time_of payload) ∷ r.received } }))

-- Handles a frame of epoch e from k.
unfoldable pub on_frame : ℕ → ℕ → ℕ → InEpoch → Draft → Draft
on_frame k e seq payload x =
    let r = x.replica in
    when nat_lt e (known r.log) then send_decision k x
    otherwise when nat_lt (known r.log) e then send_retrieve k x
    otherwise when not (active r.log) || not (has (members_of r) k) then x
    otherwise when not (seq == next_from r k) then ack k x
    otherwise when is_odd_frame r k payload then x
    otherwise take_frame k payload x

-- ---- Acks

-- Handles an acknowledgement of epoch e from k: it has received all frames below `next`.
unfoldable pub on_ack : ℕ → ℕ → ℕ → Draft → Draft
on_ack k e next x =
    let r = x.replica in
    when ((e == known r.log && active r.log) && has (members_of r) k) && nat_le next (length (frames_to r k))
    then record x { replica = record r { acked = (k, next) ∷ r.acked } }
    otherwise x

-- ---- pending PREPAREOKs

-- issues a time, and pushes the PREPAREOK with it
unfoldable pub pay : Stamp → ℕ → Draft → Draft
pay s t x = push_to_members (InEpoch.PrepareOk s t) (issued_at t x)

-- sets the pending acknowledgements
unfoldable pub owing : List Stamp → Draft → Draft
owing ss x = record x { replica = record x.replica { owed = ss } }

-- Pushes the pending PREPAREOKs in order, up to the first whose time is not below the time that would be issued.
unfoldable pub pay_run : ℕ → List Stamp → Draft → Draft
pay_run reading [] x = owing [] x
pay_run reading (s ∷ ss) x =
    option_map_or (λ t.
    let more = pay_run reading ss (pay s t x) in
    when nat_lt s.time t then more otherwise owing (s ∷ ss) x) (would x reading) (owing (s ∷ ss) x)

-- Pushes the PREPAREOKs that are due: while the least pending stamp's time is below the next time to issue.
unfoldable pub owed_oks : ℕ → Draft → Draft
owed_oks reading x = when active x.replica.log then pay_run reading x.replica.owed x otherwise x

-- ---- the clock

-- whether the reading is far enough above the last issued time that the replica sends its clock
unfoldable pub is_idle : Replica → ℕ → Bool
is_idle r reading =
    (nat_le (last_issued r + idle_after) reading && nat_lt (last_issued r) u64_max) && not (is_congested r)

-- pushes a clock time, if there is one to issue
unfoldable pub send_time : Option ℕ → Draft → Draft
send_time None x = x
send_time (Some t) x = push_to_members (InEpoch.ClockTime t) (issued_at t x)

-- At a tick an idle replica sends its clock.
unfoldable pub idle : ℕ → Draft → Draft
idle reading x =
    when active x.replica.log && is_idle x.replica reading then send_time (would x reading) x otherwise x

-- ---- sending again

-- retransmits a frame to k
unfoldable pub again_frame : ℕ → Draft → ℕ × InEpoch → Draft
again_frame k x f = send k (Datagram.Frame x.replica.me k (known x.replica.log) f.0 f.1) x

-- retransmits the first unacknowledged frames to k
unfoldable pub again_to : Draft → ℕ → Draft
again_to x k = fold (again_frame k) x (take most_again (unacked x.replica k))

-- At a tick: retransmits the first unacknowledged frames of each link.
unfoldable pub send_again : Draft → Draft
send_again x = fold again_to x (other_members x.replica)
