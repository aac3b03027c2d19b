-- The number of records that a step writes.
use Rattle.std.proofs.Common.{◌≡◌, ℕ, suc, ◌+◌, ◌≤◌, List, [], ◌∷◌, length, refl, ap, Bool, true, false, arith, take}
use Rattle.std.specs.Prelude.{Option, Some, None, nat_lt, nat_le, ◌==◌, ◌&&◌, ◌||◌, not}
use Rattle.std.specs.Option.{option_map_or}
use Rattle.std.proofs.lemmas.List.{length-append}
use Rattle.crsm_base.specs.Limits.{most_again}
use Rattle.crsm_base.specs.MessageReading.{control_of}
use Rattle.crsm_spec.specs.Choice.{when◌then◌otherwise◌}
use Rattle.crsm_spec.specs.Types.{Stamp, Entry, Command, Refusal, Rec, InEpoch, Datagram, Control}
use Rattle.crsm_spec.specs.Lists.{has}
use Rattle.crsm_spec.specs.Log.{Log, known, executed, unexecuted, active}
use Rattle.crsm_spec.specs.Replica.{Replica, Coordinator, LogPage, Waiting, members_of, other_members, frames_to, next_from, unacked}
use Rattle.crsm_spec.specs.Ready.{is_ready}
use Rattle.crsm_spec.specs.Parts.{Piece, with_part, whole_with}
use Rattle.crsm_spec.specs.Draft.{Draft, begun, keep, send, reply, count_vote, would, issued_at, push_to_members, push_to, retrieve}
use Rattle.crsm_spec.specs.Clients.{refusal, refuse, await, submit, submit_at, take_or_refuse, on_request, commit_run, commits, replies, answer_each, answer_found, reply_ok, reply_dropped, find_executed, is_dropped}
use Rattle.crsm_spec.specs.Frames.{is_astray, is_odd_frame, owe, ack, receive, take_frame, on_frame, on_ack, pay, owing, pay_run, owed_oks, is_idle, send_time, idle, again_frame, again_to, send_again}
use Rattle.crsm_spec.specs.Collect.{cursor}
use Rattle.crsm_spec.specs.Coordinate.{accept_own}
use Rattle.crsm_spec.specs.Step.{Input, if_fitting, on_whole_message, on_part, ask_page, missing, send_collect, renew, ask_all, on_tick, on_datagram, on_input, idle_at, step}
use Rattle.crsm_law_bounds.proofs.Counts.{others_in, commits_in, Grows, IsSame, unexecuted_few, quiet, same_then, stay, and_then, more, on_when, on_option, on_each, one_more, same_when, send_same, sends_all, sends_decision, sends_retrieve}
use Rattle.crsm_law_bounds.proofs.Growth.{of_accept_own, of_send_proposal, of_send_ask, of_begin, of_suspect, of_control}

-- ---- clients and links

of_submit : (a : ℕ) (c : Command) (t : ℕ) (x : Draft) → Grows 1 x (submit a c t x)
unfolding submit await push_to_members push_to count_vote issued_at keep
of_submit a c t x = one_more _ x _ tt refl refl

of_submit_at : (a : ℕ) (c : Command) (t : Option ℕ) (x : Draft) → Grows 1 x (submit_at a c t x)
unfolding submit_at
of_submit_at a c None x = stay x
of_submit_at a c (Some t) x = of_submit a c t x

of_take_or_refuse : (a : ℕ) (c : Command) (reading : ℕ) (why : Option Refusal) (x : Draft) → Grows 1 x (take_or_refuse a c reading why x)
unfolding take_or_refuse refuse reply
of_take_or_refuse a c reading (Some why) x = quiet (record { log = refl; batch = refl })
of_take_or_refuse a c reading None x = of_submit_at a c (would x reading) x

of_request : (a : ℕ) (c : Command) (reading : ℕ) (x : Draft) → Grows 6 x (on_request a c reading x)
unfolding on_request
of_request a c reading x = more 1 6 (omega arith) (of_take_or_refuse a c reading (refusal x.replica) x)

of_take_frame : (k : ℕ) (p : InEpoch) (x : Draft) → Grows 1 x (take_frame k p x)
unfolding take_frame receive owe ack count_vote keep send
of_take_frame k (InEpoch.Prepare e) x = one_more (Rec.Prepare e) x _ tt refl refl
of_take_frame k (InEpoch.PrepareOk s at) x = quiet (record { log = refl; batch = refl })
of_take_frame k (InEpoch.ClockTime at) x = quiet (record { log = refl; batch = refl })

of_ack_one : {most : ℕ} (k : ℕ) (x : Draft) → Grows most x (ack k x)
unfolding ack send
of_ack_one k x = quiet (record { log = refl; batch = refl })

of_frame : (k e seq : ℕ) (p : InEpoch) (x : Draft) → Grows 6 x (on_frame k e seq p x)
unfolding on_frame
of_frame k e seq p x =
    on_when (nat_lt e (known x.replica.log)) (sends_decision k x) (on_when (nat_lt (known x.replica.log) e) (sends_retrieve k x)
    (on_when (not (active x.replica.log) || not (has (members_of x.replica) k)) (stay x) (on_when (not (seq == next_from x.replica k)) (of_ack_one k x)
    (on_when (is_odd_frame x.replica k p) (stay x) (more 1 6 (omega arith) (of_take_frame k p x))))))

of_on_ack : {most : ℕ} (k e next : ℕ) (x : Draft) → Grows most x (on_ack k e next x)
unfolding on_ack
of_on_ack k e next x =
    on_when (((e == known x.replica.log && active x.replica.log) && has (members_of x.replica) k) && nat_le next (length (frames_to x.replica k)))
    (quiet (record { log = refl; batch = refl })) (stay x)

-- ---- parts, ticks and inputs

of_fitting : {most : ℕ} (x y : Draft) → Grows most x y → Grows most x (if_fitting x y)
unfolding if_fitting
of_fitting x y g = on_when y.fitting g (stay x)

of_whole_message : (k : ℕ) (c : Option Control) (x : Draft) → Grows 6 x (on_whole_message k c x)
unfolding on_whole_message
of_whole_message k None x = stay x
of_whole_message k (Some c) x = of_control k c x

of_part : (p : Piece) (x : Draft) → Grows 6 x (on_part p x)
unfolding on_part
of_part p x =
    let y = record x { replica = record x.replica { parts = with_part p x.replica.parts } } in
    and_then 0 6 {x = x} {y = y} (quiet (record { log = refl; batch = refl })) (on_option _ y (whole_with p x.replica.parts) (λ bytes. of_fitting y _ (of_whole_message p.from (control_of bytes) y)) (stay y))

again_same : (k : ℕ) (x : Draft) (f : ℕ × InEpoch) → IsSame x (again_frame k x f)
unfolding again_frame send
again_same k x f = record { log = refl; batch = refl }

again_all : (x : Draft) (k : ℕ) → IsSame x (again_to x k)
unfolding again_to
again_all x k = on_each (again_frame k) (take most_again (unacked x.replica k)) (λ y f. again_same k y f) x

of_send_again : {most : ℕ} (x : Draft) → Grows most x (send_again x)
unfolding send_again
of_send_again x = quiet (on_each again_to (other_members x.replica) again_all x)

of_send_collect : {most : ℕ} (pages : List LogPage) (x : Draft) → Grows most x (send_collect pages x)
unfolding send_collect ask_page
of_send_collect pages x = quiet (on_each (ask_page pages) (missing x.replica pages) (λ y k. send_same (Control.Suspend (known y.replica.log) (cursor pages k)) y k) x)

of_renew : (coordinator : Coordinator) (x : Draft) → Grows 6 x (renew coordinator x)
unfolding renew
of_renew Coordinator.Idle x = stay x
of_renew (Coordinator.Collecting ms pages) x = of_send_collect pages x
of_renew (Coordinator.Preparing b own answers) x = of_send_ask (Coordinator.Preparing b own answers) x
of_renew (Coordinator.Proposing b own value acceptors) x =
    let y = accept_own b own value acceptors x in and_then 4 2 (of_accept_own b own value acceptors x) (of_send_proposal y.replica.coordinator y)
of_renew (Coordinator.Preempted own seen) x = more 5 6 (omega arith) (of_begin own seen x)

of_ask_all : {most : ℕ} (x : Draft) → Grows most x (ask_all x)
unfolding ask_all
of_ask_all x = on_when (active x.replica.log) (stay x) (sends_all (retrieve x) x)

of_tick : (x : Draft) → Grows 6 x (on_tick x)
unfolding on_tick
of_tick x = on_when (active x.replica.log) (of_send_again x) (and_then 6 0 (of_renew x.replica.coordinator x) (of_ask_all _))

of_datagram : (a : ℕ) (d : Datagram) (reading : ℕ) (x : Draft) → Grows 6 x (on_datagram a d reading x)
unfolding on_datagram
of_datagram a (Datagram.Frame from to e seq p) reading x = on_when (is_astray x.replica from to) (stay x) (of_frame from e seq p x)
of_datagram a (Datagram.Ack from to e next) reading x = on_when (is_astray x.replica from to) (stay x) (of_on_ack from e next x)
of_datagram a (Datagram.Part from to boot number index count bytes) reading x = on_when (is_astray x.replica from to) (stay x) (of_part _ x)
of_datagram a (Datagram.Request c) reading x = of_request a c reading x
of_datagram a (Datagram.Reply client number sent) reading x = stay x
of_datagram a (Datagram.Operate ms) reading x = of_suspect ms x

of_input : (i : Input) (reading : ℕ) (x : Draft) → Grows 6 x (on_input i reading x)
unfolding on_input
of_input (Input.Came a d) reading x = of_datagram a d reading x
of_input Input.Ticked reading x = of_tick x
of_input (Input.Suspected ms) reading x = of_suspect ms x

-- ---- what follows in every step

pay_same : (s : Stamp) (t : ℕ) (x : Draft) → IsSame x (pay s t x)
unfolding pay push_to_members push_to issued_at
pay_same s t x = record { log = refl; batch = refl }

owing_same : (ss : List Stamp) (x : Draft) → IsSame x (owing ss x)
unfolding owing
owing_same ss x = record { log = refl; batch = refl }

same_option : {A : Type 0} {x : Draft} (f : A → Draft) (y : Draft) (o : Option A) → ((a : A) → IsSame x (f a)) → IsSame x y → IsSame x (option_map_or f o y)
same_option f y None h q = q
same_option f y (Some a) h q = h a

pay_run_same : (reading : ℕ) (ss : List Stamp) (x : Draft) → IsSame x (pay_run reading ss x)
unfolding pay_run
pay_run_same reading [] x = owing_same [] x
pay_run_same reading (s ∷ ss) x =
    same_option _ _ (would x reading) (λ t. same_when (nat_lt s.time t) (same_then (pay_same s t x) (pay_run_same reading ss (pay s t x))) (owing_same (s ∷ ss) x)) (owing_same (s ∷ ss) x)

of_owed : {most : ℕ} (reading : ℕ) (x : Draft) → Grows most x (owed_oks reading x)
unfolding owed_oks
of_owed reading x = on_when (active x.replica.log) (quiet (pay_run_same reading x.replica.owed x)) (stay x)

of_send_time : {most : ℕ} (t : Option ℕ) (x : Draft) → Grows most x (send_time t x)
unfolding send_time push_to_members push_to issued_at
of_send_time None x = stay x
of_send_time (Some t) x = quiet (record { log = refl; batch = refl })

of_idle : {most : ℕ} (i : Input) (reading : ℕ) (x : Draft) → Grows most x (idle_at i reading x)
unfolding idle_at idle
of_idle (Input.Came a d) reading x = stay x
of_idle Input.Ticked reading x = on_when (active x.replica.log && is_idle x.replica reading) (of_send_time (would x reading) x) (stay x)
of_idle (Input.Suspected ms) reading x = stay x

-- commits, of which so many follow
pub record Commits (most : ℕ) (x y : Draft) : Type 0 where
  pub others : others_in y.replica.log ≡ others_in x.replica.log
  pub commits : commits_in y.replica.log ≤ commits_in x.replica.log + most
  pub batch : length y.replica.log + length x.batch ≡ length x.replica.log + length y.batch

no_commits : {most : ℕ} (x : Draft) → Commits most x x
no_commits x = record { others = refl; commits = omega arith; batch = refl }

commits_when : {most : ℕ} {x y : Draft} (c : Bool) → Commits most x y → Commits most x (when c then y otherwise x)
unfolding when◌then◌otherwise◌
commits_when {x = x} true p = p
commits_when {x = x} false p = no_commits x

commit_then : (s : Stamp) (most : ℕ) (x y : Draft) → Commits most (keep (Rec.Commit s) x) y → Commits (suc most) x y
unfolding keep
commit_then s most x y p =
    let a = p.others in
    let b = p.commits in
    let c = p.batch in
    let l = length-append x.batch (Rec.Commit s ∷ []) in
    record { others = a; commits = omega (arith, b); batch = omega (arith, c, l) }

of_run : (es : List Entry) (x : Draft) → Commits (length es) x (commit_run es x)
unfolding commit_run
of_run [] x = no_commits x
of_run (e ∷ es) x = commits_when (is_ready x.replica e.stamp) (commit_then e.stamp (length es) x _ (of_run es (keep (Rec.Commit e.stamp) x)))

of_commits : (x : Draft) → Commits (length (unexecuted x.replica.log)) x (commits x)
unfolding commits
of_commits x = commits_when (active x.replica.log) (of_run (unexecuted x.replica.log) x)

found_same : (w : Waiting) (p : Option (ℕ × Entry)) (x : Draft) → IsSame x (answer_found w p x)
unfolding answer_found reply_ok reply_dropped reply
found_same w (Some p) x = record { log = refl; batch = refl }
found_same w None x = same_when (is_dropped x.replica w.entry) (record { log = refl; batch = refl }) (record { log = refl; batch = refl })

each_same : (ws : List Waiting) (x : Draft) → IsSame x (answer_each ws x)
unfolding answer_each
each_same [] x = record { log = refl; batch = refl }
each_same (w ∷ ws) x = same_then (found_same w (find_executed (executed x.replica.log) w.entry) x) (each_same ws _)

replies_same : (x : Draft) → IsSame x (replies x)
unfolding replies
replies_same x =
    let y = record x { replica = record x.replica { waiting = [] } } in same_then {y = y} (record { log = refl; batch = refl }) (each_same x.replica.waiting y)

-- ---- a whole step

-- It keeps at most 6 records besides commits, and no more commits than there are other records then; all are in its
-- batch.
pub record IsKept (old : Log) (x : Draft) : Type 0 where
  pub others : others_in x.replica.log ≤ others_in old + 6
  pub commits : commits_in x.replica.log ≤ commits_in old + (others_in old + 6)
  pub batch : length x.replica.log ≡ length old + length x.batch

pub step_kept : (r : Replica) (input : Input) (reading : ℕ) → IsKept r.log (step r input reading)
unfolding step begun
step_kept r input reading =
    let x = begun r in
    let y = if_fitting x (on_input input reading x) in
    let z = idle_at input reading (owed_oks reading y) in
    let g : Grows 6 x z = and_then 6 0 (of_fitting x _ (of_input input reading x)) (and_then 0 0 (of_owed reading y) (of_idle input reading (owed_oks reading y))) in
    let c = of_commits z in
    let few = unexecuted_few z.replica.log in
    let s = replies_same (commits z) in
    let a = g.others in
    let b = g.commits in
    let d = g.batch in
    let e = c.others in
    let f = c.commits in
    let h = c.batch in
    let i = ap others_in s.log in
    let j = ap commits_in s.log in
    let k = ap length s.log in
    let l = ap length s.batch in
    record { others = omega (arith, a, e, i); commits = omega (arith, a, b, f, few, j); batch = omega (arith, d, h, k, l) }
