-- The part of a step that ends an epoch: suspend, collect, propose, learn and enter.
use Rattle.std.specs.Prelude.{◌||◌, ℕ, ◌+◌, ◌-◌, Bool, false, ◌==◌, ◌&&◌, not, nat_lt, nat_le, List, [], ◌∷◌, ◌++◌, length, drop, filter, map, None}
use Rattle.std.specs.Option.{option_map_or}
use Rattle.crsm_spec.specs.Types.{Ballot, Decision, Rec, Control, Line}
use Rattle.crsm_base.specs.Order.{ballot_lt, ballot_eq}
use Rattle.crsm_spec.specs.Clock.{u64_max}
use Rattle.crsm_spec.specs.Lists.{numbers_below, has}
use Rattle.crsm_spec.specs.Log.{known, start, decision, executed, suspended, promised, accepted, no_ballot}
use Rattle.crsm_spec.specs.Fits.{fits, can_be_members}
use Rattle.crsm_spec.specs.Replica.{named_spec, next_spec, Replica, Coordinator, LogPage, spec_of, others}
use Rattle.crsm_spec.specs.Draft.{Draft, keep, noting, send_to_all, send_to_each}
use Rattle.crsm_spec.specs.Collect.{own_page, whole_ones, collected, size_of, is_within}
use Rattle.crsm_spec.specs.Quorum.{has_majority}
use Rattle.crsm_spec.specs.Paxos.{Answer, value_of}
use Rattle.crsm_spec.specs.Choice.{when◌then◌otherwise◌}

-- ---- learning and entering

-- drops the state of the epoch that ended: its times, votes, pending acknowledgements and links
unfoldable pub forget_epoch : Draft → Draft
forget_epoch x =
    record x { replica = record x.replica { issued = []; received = []; votes = []; owed = []; pushed = []; acked = []; taken = [] } }

-- executes the rest of the tail once the base is executed
unfoldable pub adopt_tail : Draft → Draft
adopt_tail x =
    let log = x.replica.log in
    let done = length (executed log) in
    option_map_or (λ d.
    when nat_le d.base_len done && nat_lt done (start log)
    then keep (Rec.Adopt done (drop (done - d.base_len) d.tail)) x otherwise x) (decision log) x

-- enters the known epoch, if the record fits
unfoldable pub enter : Draft → Draft
enter x =
    let r = x.replica in
    when fits r.me r.n r.log (Rec.Enter (known r.log)) then keep (Rec.Enter (known r.log)) (forget_epoch x) otherwise x

-- executes the tail and enters the epoch, once the base is executed
unfoldable pub advance : Draft → Draft
advance x = enter (adopt_tail x)

-- Learns a decision, which ends the old epoch and any coordination here.
unfoldable pub learn : Decision → Draft → Draft
learn d x = advance (forget_epoch (noting Coordinator.Idle (keep (Rec.Decide d) x)))

-- the other replicas of the Spec before and of the one after
unfoldable pub both_specs : Replica → Replica → List ℕ
both_specs old new = filter (λ k. (has (spec_of old) k || has (spec_of new) k) && not (k == old.me)) (numbers_below 15)

-- Learns a decision that was chosen, and sends it to all other replicas of the old and of the new Spec.
unfoldable pub on_chosen : Decision → Draft → Draft
on_chosen d x = let y = learn d x in send_to_each (both_specs x.replica y.replica) (Control.Decide d) y

-- ---- proposing

-- the instance that is decided next: the epoch after the known one
unfoldable pub instance : Draft → ℕ
instance x = known x.replica.log + 1

-- counts k's acceptance; with a majority the value is chosen
unfoldable pub count_acceptor : Ballot → Decision → Decision → List ℕ → ℕ → Draft → Draft
count_acceptor b own value acceptors k x =
    let ks = k ∷ acceptors in
    let y = noting (Coordinator.Proposing b own value ks) x in
    when has_majority (spec_of x.replica) ks then on_chosen value y otherwise y

-- whether this ballot was accepted here
unfoldable pub has_accepted : Ballot → Draft → Bool
has_accepted b x = option_map_or (λ a. ballot_eq a.0 b) (accepted x.replica.log) false

-- The proposer's own acceptance: the ballot is preempted if a greater one was promised; otherwise it is accepted, once
-- the base is executed.
unfoldable pub accept_own : Ballot → Decision → Decision → List ℕ → Draft → Draft
accept_own b own value acceptors x =
    let r = x.replica in
    when ballot_lt b (promised r.log) then noting (Coordinator.Preempted own (promised r.log)) x
    otherwise when nat_le value.base_len (length (executed r.log)) && not (has_accepted b x)
    then count_acceptor b own value acceptors r.me (keep (Rec.Accept (instance x) b value) x)
    otherwise x

-- sends the proposal, if it is still open, to all that have not accepted it
unfoldable pub send_proposal : Coordinator → Draft → Draft
send_proposal (Coordinator.Proposing b own value acceptors) x =
    send_to_each (filter (λ k. not (has acceptors k)) (others x.replica)) (Control.P2a (instance x) b value) x
send_proposal _ x = x

-- Proposes, in a ballot that a majority has promised, the value that Paxos allows after their answers.
unfoldable pub propose : Ballot → Decision → List (Answer Decision) → Draft → Draft
propose b own answers x =
    let value = value_of own answers in
    let y = accept_own b own value [] (noting (Coordinator.Proposing b own value []) x) in
    send_proposal y.replica.coordinator y

-- counts k's promise; with a majority the ballot proposes
unfoldable pub count_answer : Ballot → Decision → List (Answer Decision) → Answer Decision → Draft → Draft
count_answer b own answers a x =
    let all = answers ++ a ∷ [] in
    let y = noting (Coordinator.Preparing b own all) x in
    when has_majority (spec_of x.replica) (map (λ f. f.replica) all) then propose b own all y otherwise y

-- requests promises from all, if the ballot is still being prepared
unfoldable pub send_ask : Coordinator → Draft → Draft
send_ask (Coordinator.Preparing b own answers) x =
    send_to_each (filter (λ k. not (has (map (λ f. f.replica) answers) k)) (others x.replica)) (Control.P1a (instance x) b) x
send_ask _ x = x

-- promises its own ballot, and requests promises from the others
unfoldable pub ask : Ballot → Decision → Draft → Draft
ask b own x =
    let a : Answer Decision = record { replica = x.replica.me; accepted = accepted x.replica.log } in
    let y = count_answer b own [] a (noting (Coordinator.Preparing b own []) (keep (Rec.Promise (instance x) b) x)) in
    send_ask y.replica.coordinator y

-- the greater of two ballots
unfoldable pub greater_ballot : Ballot → Ballot → Ballot
greater_ballot a b = when ballot_lt a b then b otherwise a

-- Begins proposing a collected decision, one round above what was promised here and what was seen.
unfoldable pub begin_proposing : Decision → Ballot → Draft → Draft
begin_proposing own seen x =
    let top = greater_ballot (promised x.replica.log) seen in
    when top.round == u64_max then noting Coordinator.Idle x
    otherwise ask (record { round = top.round + 1; by = x.replica.me }) own x

-- ---- collecting

-- proposes the decision, unless its tail is beyond a limit
unfoldable pub on_complete : Decision → Draft → Draft
on_complete d x =
    when is_within d.tail then begin_proposing d no_ballot (noting (Coordinator.Preempted d no_ballot) x)
    otherwise noting Coordinator.Idle (record x {
      excess = x.excess ++ Line.TooMany x.replica.me (known x.replica.log) (length d.tail) (size_of d.tail) ∷ [];
    })

-- after a complete report: with a majority of them the collection is complete
unfoldable pub on_whole : List ℕ → List LogPage → Draft → Draft
on_whole ms pages x =
    let r = x.replica in
    let y = noting (Coordinator.Collecting ms pages) x in
    when has_majority (spec_of r) (whole_ones (spec_of r) pages)
    then on_complete (collected (spec_of r) (named_spec r ms) r.log ms pages) y otherwise y

-- suspends the replica in the known epoch, unless it is suspended
unfoldable pub suspend_once : Draft → Draft
suspend_once x = when suspended x.replica.log then x otherwise keep (Rec.Suspend (known x.replica.log)) x

-- maximum known epoch and maximum start at which a collection begins
abbrev pub most_collected : ℕ
most_collected = u64_max - 4096

-- whether the replica may end its epoch for these members: it is in the Spec, they can be members, and no number is
-- near its maximum
unfoldable pub may_reconfigure : Replica → List ℕ → Bool
may_reconfigure r ms =
    (has (spec_of r) r.me && can_be_members (next_spec r ms) ms) && (nat_le (known r.log) most_collected && nat_le (start r.log) most_collected)

-- begins to collect, with the replica's own pages
unfoldable pub collect : List ℕ → Draft → Draft
collect ms x =
    let pages = own_page x.replica.me x.replica.log ∷ [] in
    on_whole ms pages (send_to_all (Control.Suspend (known x.replica.log) None) (noting (Coordinator.Collecting ms pages) x))

-- Handles a suspicion or an operator's request: these are to be the members of the next epoch.
unfoldable pub on_suspect : List ℕ → Draft → Draft
on_suspect ms x = when may_reconfigure x.replica ms then collect ms (suspend_once x) otherwise x
