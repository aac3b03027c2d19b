-- The number of records that the rules of control messages write.
use Rattle.std.proofs.Common.{ℕ, ◌+◌, List, [], ◌∷◌, ◌++◌, length, refl, false, arith, map}
use Rattle.std.specs.Prelude.{Option, None, nat_lt, nat_le, ◌==◌, ◌&&◌, not}
use Rattle.std.specs.Option.{option_map_or}
use Rattle.crsm_base.specs.Order.{ballot_lt, ballot_eq}
use Rattle.crsm_spec.specs.Choice.{when◌then◌otherwise◌}
use Rattle.crsm_spec.specs.Clock.{u64_max}
use Rattle.crsm_spec.specs.Types.{Stamp, Ballot, Entry, Decision, Rec, Control}
use Rattle.crsm_spec.specs.Lists.{has}
use Rattle.crsm_spec.specs.Log.{known, start, decision, executed, suspended, promised, accepted, no_ballot}
use Rattle.crsm_spec.specs.Fits.{fits}
use Rattle.crsm_spec.specs.Quorum.{has_majority}
use Rattle.crsm_spec.specs.Paxos.{Answer, value_of}
use Rattle.crsm_spec.specs.Replica.{Coordinator, LogPage, spec_of}
use Rattle.crsm_spec.specs.Draft.{Draft, keep, noting, send_control, send_to_all}
use Rattle.crsm_spec.specs.Collect.{own_page, whole_ones, is_within, cursor, is_whole}
use Rattle.crsm_spec.specs.Coordinate.{forget_epoch, adopt_tail, enter, advance, learn, on_chosen, instance, count_acceptor, has_accepted, accept_own, send_proposal, propose, count_answer, send_ask, ask, greater_ballot, begin_proposing, on_complete, on_whole, suspend_once, may_reconfigure, collect, on_suspect}
use Rattle.crsm_spec.specs.Controls.{on_suspend, is_page_of, take_page, on_suspend_ok, if_next, send_promise, on_p1a, on_p1b, on_p1no, on_p2a, on_p2b, retrieve_base, on_decide, page_from, on_retrieve, new_entries, may_adopt, on_page, if_spec, on_control}
use Rattle.crsm_law_bounds.proofs.Counts.{Grows, quiet, stay, and_then, more, on_when, on_option, keeps, sends_control, sends_each, sends_all, sends_decision, sends_retrieve}

-- ---- learning and entering

of_adopt_tail : (x : Draft) → Grows 1 x (adopt_tail x)
unfolding adopt_tail
of_adopt_tail x = on_option _ x (decision x.replica.log) (λ d. on_when (nat_le d.base_len (length (executed x.replica.log)) && nat_lt (length (executed x.replica.log)) (start x.replica.log)) (keeps _ x tt) (stay x)) (stay x)

forgets : {most : ℕ} (x : Draft) → Grows most x (forget_epoch x)
unfolding forget_epoch
forgets x = quiet (record { log = refl; batch = refl })

pub coordinators : {most : ℕ} (coordinator : Coordinator) (x : Draft) → Grows most x (noting coordinator x)
unfolding noting
coordinators coordinator x = quiet (record { log = refl; batch = refl })

of_enter : (x : Draft) → Grows 1 x (enter x)
unfolding enter
of_enter x = on_when (fits x.replica.me x.replica.n x.replica.log (Rec.Enter (known x.replica.log))) (and_then 0 1 (forgets x) (keeps (Rec.Enter (known x.replica.log)) (forget_epoch x) tt)) (stay x)

of_advance : (x : Draft) → Grows 2 x (advance x)
unfolding advance
of_advance x = and_then 1 1 (of_adopt_tail x) (of_enter (adopt_tail x))

of_learn : (d : Decision) (x : Draft) → Grows 3 x (learn d x)
unfolding learn
of_learn d x =
    let y = keep (Rec.Decide d) x in
    and_then 1 2 (keeps (Rec.Decide d) x tt) (and_then 0 2 (coordinators Coordinator.Idle y) (and_then 0 2 (forgets (noting Coordinator.Idle y)) (of_advance (forget_epoch (noting Coordinator.Idle y)))))

of_chosen : (d : Decision) (x : Draft) → Grows 3 x (on_chosen d x)
unfolding on_chosen
of_chosen d x = and_then 3 0 (of_learn d x) (sends_each _ (Control.Decide d) (learn d x))

-- ---- proposing

of_count_acceptor : (b : Ballot) (own value : Decision) (acceptors : List ℕ) (k : ℕ) (x : Draft) → Grows 3 x (count_acceptor b own value acceptors k x)
unfolding count_acceptor
of_count_acceptor b own value acceptors k x =
    let y = noting (Coordinator.Proposing b own value (k ∷ acceptors)) x in
    and_then 0 3 (coordinators (Coordinator.Proposing b own value (k ∷ acceptors)) x) (on_when (has_majority (spec_of x.replica) (k ∷ acceptors)) (of_chosen value y) (stay y))

pub of_accept_own : (b : Ballot) (own value : Decision) (acceptors : List ℕ) (x : Draft) → Grows 4 x (accept_own b own value acceptors x)
unfolding accept_own
of_accept_own b own value acceptors x =
    on_when (ballot_lt b (promised x.replica.log)) (coordinators (Coordinator.Preempted own (promised x.replica.log)) x)
    (on_when (nat_le value.base_len (length (executed x.replica.log)) && not (has_accepted b x))
    (and_then 1 3 (keeps (Rec.Accept (instance x) b value) x tt) (of_count_acceptor b own value acceptors x.replica.me (keep (Rec.Accept (instance x) b value) x))) (stay x))

pub of_send_proposal : {most : ℕ} (coordinator : Coordinator) (x : Draft) → Grows most x (send_proposal coordinator x)
unfolding send_proposal
of_send_proposal Coordinator.Idle x = stay x
of_send_proposal (Coordinator.Collecting ms pages) x = stay x
of_send_proposal (Coordinator.Preparing b own answers) x = stay x
of_send_proposal (Coordinator.Proposing b own value acceptors) x = sends_each _ (Control.P2a (instance x) b value) x
of_send_proposal (Coordinator.Preempted own seen) x = stay x

of_propose : (b : Ballot) (own : Decision) (answers : List (Answer Decision)) (x : Draft) → Grows 4 x (propose b own answers x)
unfolding propose
of_propose b own answers x =
    let value = value_of own answers in
    let z = noting (Coordinator.Proposing b own value []) x in
    let y = accept_own b own value [] z in
    and_then 0 4 (coordinators (Coordinator.Proposing b own value []) x) (and_then 4 0 (of_accept_own b own value [] z) (of_send_proposal y.replica.coordinator y))

of_count_answer : (b : Ballot) (own : Decision) (answers : List (Answer Decision)) (a : Answer Decision) (x : Draft) → Grows 4 x (count_answer b own answers a x)
unfolding count_answer
of_count_answer b own answers a x =
    let all = answers ++ a ∷ [] in
    let y = noting (Coordinator.Preparing b own all) x in
    and_then 0 4 (coordinators (Coordinator.Preparing b own all) x) (on_when (has_majority (spec_of x.replica) (map (λ f. f.replica) all)) (of_propose b own all y) (stay y))

pub of_send_ask : {most : ℕ} (coordinator : Coordinator) (x : Draft) → Grows most x (send_ask coordinator x)
unfolding send_ask
of_send_ask Coordinator.Idle x = stay x
of_send_ask (Coordinator.Collecting ms pages) x = stay x
of_send_ask (Coordinator.Preparing b own answers) x = sends_each _ (Control.P1a (instance x) b) x
of_send_ask (Coordinator.Proposing b own value acceptors) x = stay x
of_send_ask (Coordinator.Preempted own seen) x = stay x

of_ask : (b : Ballot) (own : Decision) (x : Draft) → Grows 5 x (ask b own x)
unfolding ask
of_ask b own x =
    let a : Answer Decision = record { replica = x.replica.me; accepted = accepted x.replica.log } in
    let p = keep (Rec.Promise (instance x) b) x in
    let q = noting (Coordinator.Preparing b own []) p in
    let y = count_answer b own [] a q in
    and_then 1 4 (keeps (Rec.Promise (instance x) b) x tt) (and_then 0 4 (coordinators (Coordinator.Preparing b own []) p) (and_then 4 0 (of_count_answer b own [] a q) (of_send_ask y.replica.coordinator y)))

pub of_begin : (own : Decision) (seen : Ballot) (x : Draft) → Grows 5 x (begin_proposing own seen x)
unfolding begin_proposing
of_begin own seen x = on_when ((greater_ballot (promised x.replica.log) seen).round == u64_max) (coordinators Coordinator.Idle x) (of_ask _ own x)

-- ---- collecting

of_complete : (d : Decision) (x : Draft) → Grows 5 x (on_complete d x)
unfolding on_complete noting
of_complete d x =
    on_when (is_within d.tail) (and_then 0 5 (coordinators (Coordinator.Preempted d no_ballot) x) (of_begin d no_ballot (noting (Coordinator.Preempted d no_ballot) x))) (quiet (record { log = refl; batch = refl }))

of_whole : (ms : List ℕ) (pages : List LogPage) (x : Draft) → Grows 5 x (on_whole ms pages x)
unfolding on_whole
of_whole ms pages x =
    let y = noting (Coordinator.Collecting ms pages) x in
    and_then 0 5 (coordinators (Coordinator.Collecting ms pages) x) (on_when (has_majority (spec_of x.replica) (whole_ones (spec_of x.replica) pages)) (of_complete _ y) (stay y))

of_suspend_once : (x : Draft) → Grows 1 x (suspend_once x)
unfolding suspend_once
of_suspend_once x = on_when (suspended x.replica.log) (stay x) (keeps _ x tt)

of_collect : (ms : List ℕ) (x : Draft) → Grows 5 x (collect ms x)
unfolding collect
of_collect ms x =
    let pages = own_page x.replica.me x.replica.log ∷ [] in
    let y = noting (Coordinator.Collecting ms pages) x in
    let z = send_to_all (Control.Suspend (known x.replica.log) None) y in
    and_then 0 5 (coordinators (Coordinator.Collecting ms pages) x) (and_then 0 5 (sends_all (Control.Suspend (known x.replica.log) None) y) (of_whole ms pages z))

pub of_suspect : (ms : List ℕ) (x : Draft) → Grows 6 x (on_suspect ms x)
unfolding on_suspect
of_suspect ms x = on_when (may_reconfigure x.replica ms) (and_then 1 5 (of_suspend_once x) (of_collect ms (suspend_once x))) (stay x)

-- ---- control messages

of_next : {most : ℕ} (k i : ℕ) (x y : Draft) → Grows most x y → Grows most x (if_next k i x y)
unfolding if_next
of_next k i x y g = on_when (nat_le i (known x.replica.log)) (sends_decision k x) (on_when (nat_lt (known x.replica.log + 1) i) (sends_retrieve k x) g)

of_spec : {most : ℕ} (k : ℕ) (x y : Draft) → Grows most x y → Grows most x (if_spec k x y)
unfolding if_spec
of_spec k x y g = on_when (has (spec_of x.replica) k) g (stay x)

of_on_suspend : (k e : ℕ) (after : Option Stamp) (x : Draft) → Grows 6 x (on_suspend k e after x)
unfolding on_suspend
of_on_suspend k e after x =
    on_when (nat_lt e (known x.replica.log)) (sends_decision k x) (on_when (nat_lt (known x.replica.log) e) (sends_retrieve k x)
    (and_then 1 5 (of_suspend_once x) (sends_control _ k (suspend_once x))))

of_take_page : (ms : List ℕ) (pages : List LogPage) (p : LogPage) (x : Draft) → Grows 6 x (take_page ms pages p x)
unfolding take_page
of_take_page ms pages p x =
    on_when p.whole (more 5 6 (omega arith) (of_whole ms (pages ++ p ∷ []) x)) (and_then 0 6 (coordinators (Coordinator.Collecting ms (pages ++ p ∷ [])) x) (sends_control _ p.from _))

of_on_suspend_ok : (e : ℕ) (after : Option Stamp) (p : LogPage) (coordinator : Coordinator) (x : Draft) → Grows 6 x (on_suspend_ok e after p coordinator x)
unfolding on_suspend_ok
of_on_suspend_ok e after p Coordinator.Idle x = stay x
of_on_suspend_ok e after p (Coordinator.Preparing b own answers) x = stay x
of_on_suspend_ok e after p (Coordinator.Proposing b own value acceptors) x = stay x
of_on_suspend_ok e after p (Coordinator.Preempted own seen) x = stay x
of_on_suspend_ok e after p (Coordinator.Collecting ms pages) x =
    on_when (is_page_of (known x.replica.log) e (cursor pages p.from) after p && not (is_whole pages p.from)) (of_take_page ms pages p x) (stay x)

of_send_promise : {most : ℕ} (k i : ℕ) (b : Ballot) (x : Draft) → Grows most x (send_promise k i b x)
unfolding send_promise
of_send_promise k i b x = sends_control _ k x

of_p1a : (k i : ℕ) (b : Ballot) (x : Draft) → Grows 6 x (on_p1a k i b x)
unfolding on_p1a
of_p1a k i b x = of_next k i x _ (on_when (ballot_lt (promised x.replica.log) b) (and_then 1 5 (keeps (Rec.Promise i b) x tt) (of_send_promise k i b (keep (Rec.Promise i b) x)))
    (on_when (ballot_eq (promised x.replica.log) b) (of_send_promise k i b x) (sends_control _ k x)))

of_p1b : (i : ℕ) (b : Ballot) (a : Answer Decision) (coordinator : Coordinator) (x : Draft) → Grows 6 x (on_p1b i b a coordinator x)
unfolding on_p1b
of_p1b i b a Coordinator.Idle x = stay x
of_p1b i b a (Coordinator.Collecting ms pages) x = stay x
of_p1b i b a (Coordinator.Proposing c own value acceptors) x = stay x
of_p1b i b a (Coordinator.Preempted own seen) x = stay x
of_p1b i b a (Coordinator.Preparing c own answers) x =
    on_when ((i == known x.replica.log + 1 && ballot_eq b c) && not (has (map (λ f. f.replica) answers) a.replica)) (more 4 6 (omega arith) (of_count_answer c own answers a x)) (stay x)

of_p1no : (i : ℕ) (b top : Ballot) (coordinator : Coordinator) (x : Draft) → Grows 6 x (on_p1no i b top coordinator x)
unfolding on_p1no
of_p1no i b top Coordinator.Idle x = stay x
of_p1no i b top (Coordinator.Collecting ms pages) x = stay x
of_p1no i b top (Coordinator.Preempted own seen) x = stay x
of_p1no i b top (Coordinator.Preparing c own answers) x = on_when ((i == known x.replica.log + 1 && ballot_eq b c) && ballot_lt b top) (coordinators (Coordinator.Preempted own top) x) (stay x)
of_p1no i b top (Coordinator.Proposing c own value acceptors) x = on_when ((i == known x.replica.log + 1 && ballot_eq b c) && ballot_lt b top) (coordinators (Coordinator.Preempted own top) x) (stay x)

of_p2a : (k i : ℕ) (b : Ballot) (d : Decision) (x : Draft) → Grows 6 x (on_p2a k i b d x)
unfolding on_p2a
of_p2a k i b d x = of_next k i x _ (on_when (ballot_lt b (promised x.replica.log)) (sends_control _ k x) (on_when (has_accepted b x) (sends_control _ k x)
    (on_when (nat_lt (length (executed x.replica.log)) d.base_len) (sends_retrieve k x) (and_then 1 5 (keeps (Rec.Accept i b d) x tt) (sends_control _ k (keep (Rec.Accept i b d) x))))))

of_p2b : (k i : ℕ) (b : Ballot) (coordinator : Coordinator) (x : Draft) → Grows 6 x (on_p2b k i b coordinator x)
unfolding on_p2b
of_p2b k i b Coordinator.Idle x = stay x
of_p2b k i b (Coordinator.Collecting ms pages) x = stay x
of_p2b k i b (Coordinator.Preparing c own answers) x = stay x
of_p2b k i b (Coordinator.Preempted own seen) x = stay x
of_p2b k i b (Coordinator.Proposing c own value acceptors) x =
    on_when ((i == known x.replica.log + 1 && ballot_eq b c) && not (has acceptors k)) (more 3 6 (omega arith) (of_count_acceptor c own value acceptors k x)) (stay x)

of_retrieve_base : {most : ℕ} (k : ℕ) (x : Draft) → Grows most x (retrieve_base k x)
unfolding retrieve_base
of_retrieve_base k x = on_when (option_map_or (λ d. nat_lt (length (executed x.replica.log)) d.base_len) (decision x.replica.log) false) (sends_retrieve k x) (stay x)

of_decide : (k : ℕ) (d : Decision) (x : Draft) → Grows 6 x (on_decide k d x)
unfolding on_decide
of_decide k d x = on_when (nat_lt (known x.replica.log) d.epoch) (and_then 3 3 (of_learn d x) (of_retrieve_base k (learn d x))) (stay x)

of_retrieve : (k e from : ℕ) (x : Draft) → Grows 6 x (on_retrieve k e from x)
unfolding on_retrieve
of_retrieve k e from x =
    let log = x.replica.log in
    let y = when nat_lt from (length (executed log)) then send_control (page_from log from) x k otherwise x in
    on_when (nat_lt e (known log)) (sends_decision k x)
    (and_then 0 6 (on_when (nat_lt from (length (executed log))) (sends_control (page_from log from) k x) (stay x)) (on_when (nat_lt (known log) e) (sends_retrieve k y) (stay y)))

of_page : (k e from : ℕ) (es : List Entry) (x : Draft) → Grows 6 x (on_page k e from es x)
unfolding on_page
of_page k e from es x =
    let new = new_entries x.replica.log from es in
    let y = keep (Rec.Adopt (length (executed x.replica.log)) new) x in
    on_when (may_adopt x.replica.log e from && nat_lt 0 (length new)) (and_then 1 5 (keeps _ x tt) (and_then 2 3 (of_advance y) (sends_retrieve k (advance y)))) (stay x)

pub of_control : (k : ℕ) (c : Control) (x : Draft) → Grows 6 x (on_control k c x)
unfolding on_control
of_control k (Control.Suspend e after) x = of_on_suspend k e after x
of_control k (Control.SuspendOk e done last after whole es) x = of_spec k x _ (of_on_suspend_ok e after _ x.replica.coordinator x)
of_control k (Control.P1a i b) x = of_p1a k i b x
of_control k (Control.P1b i b v) x = of_spec k x _ (of_p1b i b _ x.replica.coordinator x)
of_control k (Control.P1no i b top) x = of_spec k x _ (of_p1no i b top x.replica.coordinator x)
of_control k (Control.P2a i b d) x = of_p2a k i b d x
of_control k (Control.P2b i b) x = of_spec k x _ (of_p2b k i b x.replica.coordinator x)
of_control k (Control.Decide d) x = of_decide k d x
of_control k (Control.Retrieve e from) x = of_retrieve k e from x
of_control k (Control.Page e from es) x = of_page k e from es x
