-- The part of a step that serves clients: requests, commits and replies.
use Rattle.std.specs.Prelude.{ℕ, Bool, ◌==◌, ◌&&◌, not, nat_lt, nat_le, List, [], ◌∷◌, ◌++◌, length, take, filter, find, Option, None, Some}
use Rattle.std.specs.List.{enumerate_from}
use Rattle.crsm_spec.specs.Types.{Stamp, Entry, Command, Answer, Refusal, Outcome, Rec, InEpoch, Line}
use Rattle.crsm_base.specs.Order.{stamp_eq}
use Rattle.crsm_spec.specs.Clock.{u64_max}
use Rattle.crsm_base.specs.Store.{answer_after}
use Rattle.crsm_spec.specs.Log.{known, start, executed, unexecuted, live, suspended, active}
use Rattle.crsm_base.specs.Limits.{most_own}
use Rattle.crsm_base.specs.Spelling.{refusal_number}
use Rattle.crsm_spec.specs.Replica.{Replica, Waiting, last_issued, is_congested}
use Rattle.crsm_spec.specs.Draft.{Draft, keep, reply, count_vote, would, issued_at, push_to_members}
use Rattle.crsm_spec.specs.Ready.{is_ready}
use Rattle.crsm_spec.specs.Choice.{when◌then◌otherwise◌}

-- ---- requests

-- the replica's own entries that are not executed
unfoldable pub own_unexecuted : Replica → List Entry
own_unexecuted r = filter (λ e. e.stamp.origin == r.me) (unexecuted r.log)

-- the first reason why a request is refused, if any
unfoldable pub refusal : Replica → Option Refusal
refusal r =
    when not (live r.log) then Some Refusal.NotLive
    otherwise when suspended r.log then Some Refusal.Suspended
    otherwise when nat_le most_own (length (own_unexecuted r)) then Some Refusal.Busy
    otherwise when is_congested r then Some Refusal.Congested
    otherwise when last_issued r == u64_max then Some Refusal.ClockSpent
    otherwise None

-- refuses the request with this reason
unfoldable pub refuse : ℕ → Command → Refusal → Draft → Draft
refuse address c why x =
    reply (record {
      address = address;
      client = c.client;
      number = c.number;
      says = Outcome.Refused why;
      line = Line.ReplyNo x.replica.me c.client c.number (refusal_number why);
    }) x

-- records that the client waits for the entry
unfoldable pub await : ℕ → Entry → Draft → Draft
await address e x =
    record x { replica = record x.replica { waiting = x.replica.waiting ++ record { address = address; entry = e } ∷ [] } }

-- logs the command under timestamp t, and sends it to the other members
unfoldable pub submit : ℕ → Command → ℕ → Draft → Draft
submit address c t x =
    let s : Stamp = record { time = t; origin = x.replica.me } in
    let e : Entry = record { epoch = known x.replica.log; stamp = s; command = c } in
    push_to_members (InEpoch.Prepare e) (await address e (count_vote s x.replica.me (keep (Rec.Prepare e) (issued_at t x))))

-- submits the command, if there is a time to issue
unfoldable pub submit_at : ℕ → Command → Option ℕ → Draft → Draft
submit_at address c None x = x
submit_at address c (Some t) x = submit address c t x

-- refuses the request where there is a reason, and otherwise submits it
unfoldable pub take_or_refuse : ℕ → Command → ℕ → Option Refusal → Draft → Draft
take_or_refuse address c reading (Some why) x = refuse address c why x
take_or_refuse address c reading None x = submit_at address c (would x reading) x

-- Handles a client's request.
unfoldable pub on_request : ℕ → Command → ℕ → Draft → Draft
on_request address c reading x = take_or_refuse address c reading (refusal x.replica) x

-- ---- commits

-- Commits these entries in order, up to the first that is not ready. An entry is ready only if none before it
-- is unexecuted, so this is: while some entry is ready, commit it.
unfoldable pub commit_run : List Entry → Draft → Draft
commit_run [] x = x
commit_run (e ∷ es) x =
    let more = commit_run es (keep (Rec.Commit e.stamp) x) in
    when is_ready x.replica e.stamp then more otherwise x

-- While active: executes the entries that are ready.
unfoldable pub commits : Draft → Draft
commits x = when active x.replica.log then commit_run (unexecuted x.replica.log) x otherwise x

-- ---- replies

-- the executed entry with the epoch and stamp of this one, and its place
unfoldable pub find_executed : List Entry → Entry → Option (ℕ × Entry)
find_executed done e = find (λ p. p.1.epoch == e.epoch && stamp_eq p.1.stamp e.stamp) (enumerate_from 0 done)

-- replies with the answer of the entry at this place
unfoldable pub reply_ok : Waiting → ℕ → Answer → Draft → Draft
reply_ok w place a x =
    let c = w.entry.command in
    reply (record {
      address = w.address;
      client = c.client;
      number = c.number;
      says = Outcome.Answered a;
      line = Line.ReplyOk x.replica.me c.client c.number place a;
    }) x

-- replies that the entry will never be executed
unfoldable pub reply_dropped : Waiting → Draft → Draft
reply_dropped w x =
    let c = w.entry.command in
    reply (record {
      address = w.address;
      client = c.client;
      number = c.number;
      says = Outcome.Refused Refusal.Dropped;
      line = Line.ReplyDropped x.replica.me c.client c.number w.entry.epoch w.entry.stamp;
    }) x

-- whether a later epoch has begun here without the entry
unfoldable pub is_dropped : Replica → Entry → Bool
is_dropped r e = nat_le (start r.log) (length (executed r.log)) && nat_lt e.epoch (known r.log)

-- replies to a client whose entry was found executed, or was not
unfoldable pub answer_found : Waiting → Option (ℕ × Entry) → Draft → Draft
answer_found w (Some p) x = reply_ok w p.0 (answer_after (take p.0 (executed x.replica.log)) p.1) x
answer_found w None x =
    when is_dropped x.replica w.entry then reply_dropped w x
    otherwise record x { replica = record x.replica { waiting = x.replica.waiting ++ w ∷ [] } }

-- replies to each waiting client in turn
unfoldable pub answer_each : List Waiting → Draft → Draft
answer_each [] x = x
answer_each (w ∷ ws) x = answer_each ws (answer_found w (find_executed (executed x.replica.log) w.entry) x)

-- Replies to each waiting client whose entry is executed or dropped. The others keep waiting.
unfoldable pub replies : Draft → Draft
replies x = answer_each x.replica.waiting (record x { replica = record x.replica { waiting = [] } })
