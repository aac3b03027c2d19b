-- The part of a step that handles control messages, one rule for each kind.
use Rattle.std.specs.Prelude.{ℕ, ◌+◌, ◌-◌, Bool, true, false, ◌==◌, ◌&&◌, ◌||◌, not, nat_lt, nat_le, List, [], ◌∷◌, ◌++◌, length, map, take, drop, Option, is_some}
use Rattle.std.specs.List.{list_all}
use Rattle.std.specs.Option.{option_map_or, option_eq}
use Rattle.crsm_spec.specs.Types.{Stamp, Ballot, Entry, Decision, Rec, Control}
use Rattle.crsm_base.specs.Order.{stamp_eq, stamp_lt, ballot_lt, ballot_eq}
use Rattle.crsm_spec.specs.Lists.{has}
use Rattle.crsm_spec.specs.Log.{Log, known, decision, executed, live, suspended, promised, accepted}
use Rattle.crsm_spec.specs.Replica.{spec_of, Coordinator, LogPage}
use Rattle.crsm_spec.specs.Paxos.{Answer}
use Rattle.crsm_spec.specs.Draft.{Draft, keep, noting, send_control, send_decision, send_retrieve}
use Rattle.crsm_spec.specs.Collect.{suspend_ok, first_page, cursor, is_whole}
use Rattle.crsm_spec.specs.Coordinate.{advance, learn, suspend_once, on_whole, count_answer, count_acceptor, has_accepted, most_collected}
use Rattle.crsm_spec.specs.Choice.{when◌then◌otherwise◌}

-- ---- suspending and collecting

-- Handles SUSPEND: a coordinator ends epoch e and asks for the logged entries above a stamp.
unfoldable pub on_suspend : ℕ → ℕ → Option Stamp → Draft → Draft
on_suspend k e after x =
    let log = x.replica.log in
    when nat_lt e (known log) then send_decision k x
    otherwise when nat_lt (known log) e then send_retrieve k x
    otherwise let y = suspend_once x in send_control (suspend_ok y.replica.log after) y k

-- the entries are of epoch e and above the stamp
unfoldable pub are_above : ℕ → Option Stamp → List Entry → Bool
are_above e s es = list_all (λ f. f.epoch == e && option_map_or (λ t. stamp_lt t f.stamp) s true) es

-- whether a replica of epoch e that was asked for entries above this stamp may send the page
unfoldable pub is_page_of : ℕ → ℕ → Option Stamp → Option Stamp → LogPage → Bool
is_page_of known e asked after p =
    ((e == known && option_eq stamp_eq after asked) && are_above e (when is_some after then after otherwise p.last) p.entries)
    && ((nat_lt 0 (length p.entries) || p.whole) && nat_le p.executed most_collected)

-- adds a page, and then requests the next one or completes the report
unfoldable pub take_page : List ℕ → List LogPage → LogPage → Draft → Draft
take_page ms pages p x =
    let all = pages ++ p ∷ [] in
    when p.whole then on_whole ms all x
    otherwise send_control (Control.Suspend (known x.replica.log) (cursor all p.from)) (noting (Coordinator.Collecting ms all) x) p.from

-- Handles SUSPENDOK: a page counts while collecting, if it is the one that was requested.
unfoldable pub on_suspend_ok : ℕ → Option Stamp → LogPage → Coordinator → Draft → Draft
on_suspend_ok e after p (Coordinator.Collecting ms pages) x =
    when is_page_of (known x.replica.log) e (cursor pages p.from) after p && not (is_whole pages p.from)
    then take_page ms pages p x otherwise x
on_suspend_ok e after p _ x = x

-- ---- Paxos

-- Replies with the decision where the instance is decided, and with RETRIEVE where it is beyond the next; otherwise y.
unfoldable pub if_next : ℕ → ℕ → Draft → Draft → Draft
if_next k i x y =
    let e = known x.replica.log in
    when nat_le i e then send_decision k x
    otherwise when nat_lt (e + 1) i then send_retrieve k x
    otherwise y

-- sends k a promise of the ballot, with the decision that was accepted
unfoldable pub send_promise : ℕ → ℕ → Ballot → Draft → Draft
send_promise k i b x = send_control (Control.P1b i b (accepted x.replica.log)) x k

-- Handles P1a, a proposer's request for a promise.
unfoldable pub on_p1a : ℕ → ℕ → Ballot → Draft → Draft
on_p1a k i b x =
    let top = promised x.replica.log in
    if_next k i x (
    when ballot_lt top b then send_promise k i b (keep (Rec.Promise i b) x)
    otherwise when ballot_eq top b then send_promise k i b x
    otherwise send_control (Control.P1no i b top) x k)

-- Handles P1b: a promise counts while its ballot is being prepared, once for each replica.
unfoldable pub on_p1b : ℕ → Ballot → Answer Decision → Coordinator → Draft → Draft
on_p1b i b a (Coordinator.Preparing c own answers) x =
    when (i == known x.replica.log + 1 && ballot_eq b c) && not (has (map (λ f. f.replica) answers) a.replica)
    then count_answer c own answers a x otherwise x
on_p1b i b a _ x = x

-- Handles P1no: a refusal preempts the ballot if a greater one was promised.
unfoldable pub on_p1no : ℕ → Ballot → Ballot → Coordinator → Draft → Draft
on_p1no i b top (Coordinator.Preparing c own answers) x =
    when (i == known x.replica.log + 1 && ballot_eq b c) && ballot_lt b top then noting (Coordinator.Preempted own top) x otherwise x
on_p1no i b top (Coordinator.Proposing c own value acceptors) x =
    when (i == known x.replica.log + 1 && ballot_eq b c) && ballot_lt b top then noting (Coordinator.Preempted own top) x otherwise x
on_p1no i b top _ x = x

-- Handles P2a: the proposal is accepted if no greater ballot was promised and the base is executed here.
unfoldable pub on_p2a : ℕ → ℕ → Ballot → Decision → Draft → Draft
on_p2a k i b d x =
    let log = x.replica.log in
    if_next k i x (
    when ballot_lt b (promised log) then send_control (Control.P1no i b (promised log)) x k
    otherwise when has_accepted b x then send_control (Control.P2b i b) x k
    otherwise when nat_lt (length (executed log)) d.base_len then send_retrieve k x
    otherwise send_control (Control.P2b i b) (keep (Rec.Accept i b d) x) k)

-- Handles P2b: a vote counts while its ballot is being proposed.
unfoldable pub on_p2b : ℕ → ℕ → Ballot → Coordinator → Draft → Draft
on_p2b k i b (Coordinator.Proposing c own value acceptors) x =
    when (i == known x.replica.log + 1 && ballot_eq b c) && not (has acceptors k)
    then count_acceptor c own value acceptors k x otherwise x
on_p2b k i b _ x = x

-- ---- decisions and transfer

-- requests the entries missing below the base from k
unfoldable pub retrieve_base : ℕ → Draft → Draft
retrieve_base k x =
    when option_map_or (λ d. nat_lt (length (executed x.replica.log)) d.base_len) (decision x.replica.log) false
    then send_retrieve k x otherwise x

-- Handles DECIDE: a decision of a later epoch is learned.
unfoldable pub on_decide : ℕ → Decision → Draft → Draft
on_decide k d x = when nat_lt (known x.replica.log) d.epoch then retrieve_base k (learn d x) otherwise x

-- the first page of the executed entries from index `from` on
unfoldable pub page_from : Log → ℕ → Control
page_from log from = Control.Page (known log) from (first_page (drop from (executed log)))

-- Handles RETRIEVE of a replica that knows epoch e and has executed `from` entries: sends it what is beyond.
unfoldable pub on_retrieve : ℕ → ℕ → ℕ → Draft → Draft
on_retrieve k e from x =
    let log = x.replica.log in
    when nat_lt e (known log) then send_decision k x
    otherwise let y = when nat_lt from (length (executed log)) then send_control (page_from log from) x k otherwise x in
    when nat_lt (known log) e then send_retrieve k y otherwise y

-- The entries of a page that extend the executed list; only those below the base while the base is not reached.
unfoldable pub new_entries : Log → ℕ → List Entry → List Entry
new_entries log from es =
    let done = length (executed log) in
    let new = drop (done - from) es in
    option_map_or (λ d. when nat_lt done d.base_len then take (d.base_len - done) new otherwise new) (decision log) new

-- whether a page may be added: its sender knows no later epoch, it leaves no gap, and this replica is not active
unfoldable pub may_adopt : Log → ℕ → ℕ → Bool
may_adopt log e from =
    (nat_le e (known log) && nat_le from (length (executed log))) && not (live log && not (suspended log))

-- Handles a page of executed entries from index `from` on.
unfoldable pub on_page : ℕ → ℕ → ℕ → List Entry → Draft → Draft
on_page k e from es x =
    let log = x.replica.log in
    let new = new_entries log from es in
    when may_adopt log e from && nat_lt 0 (length new)
    then send_retrieve k (advance (keep (Rec.Adopt (length (executed log)) new) x))
    otherwise x

-- ---- all of them

-- y where the sender is in the replica set, otherwise x
unfoldable pub if_spec : ℕ → Draft → Draft → Draft
if_spec k x y = when has (spec_of x.replica) k then y otherwise x

-- Handles a control message from k.
unfoldable pub on_control : ℕ → Control → Draft → Draft
on_control k (Control.Suspend e after) x = on_suspend k e after x
on_control k (Control.SuspendOk e done last after whole es) x =
    if_spec k x (on_suspend_ok e after (record { from = k; executed = done; last = last; whole = whole; entries = es }) x.replica.coordinator x)
on_control k (Control.P1a i b) x = on_p1a k i b x
on_control k (Control.P1b i b v) x = if_spec k x (on_p1b i b (record { replica = k; accepted = v }) x.replica.coordinator x)
on_control k (Control.P1no i b top) x = if_spec k x (on_p1no i b top x.replica.coordinator x)
on_control k (Control.P2a i b d) x = on_p2a k i b d x
on_control k (Control.P2b i b) x = if_spec k x (on_p2b k i b x.replica.coordinator x)
on_control k (Control.Decide d) x = on_decide k d x
on_control k (Control.Retrieve e from) x = on_retrieve k e from x
on_control k (Control.Page e from es) x = on_page k e from es x
