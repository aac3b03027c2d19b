-- A step leaves records and a coordinator that can be encoded, and sends only messages that can be.
use Rattle.std.proofs.Common.{◌≡◌, ℕ, ◌+◌, ◌-◌, ◌<◌, ◌≤◌, List, [], ◌∷◌, ◌++◌, length, drop, take, refl, sym, ◌∙◌, subst, inl, inr, Bool, true, false, cond, arith, max}
use Rattle.std.specs.Prelude.{◌⊎◌, ◌≢◌, ◌^◌, IsTrue, Option, Some, None, nat_le, nat_lt, ◌==◌, ◌&&◌, unwrap_or}
use Rattle.std.specs.List.{AllByRecursion}
use Rattle.std.specs.Option.{option_map_or}
use Rattle.std.proofs.lemmas.Bool.{and_parts, leb-true, eqb-true, eq-eqb, false≢true}
use Rattle.std.proofs.lemmas.Option.{none-some, same_Some}
use Rattle.crsm_base.specs.Members.{IsMembers}
use Rattle.crsm_base.specs.Order.{ballot_lt}
use Rattle.crsm_base.specs.Spelling.{FitsOption, FitsStamp, FitsBallot, FitsCommand, FitsEntry, FitsEntries, FitsDecision}
use Rattle.crsm_base.specs.Messages.{FitsVote, FitsControl}
use Rattle.crsm_spec.specs.Choice.{when◌then◌otherwise◌}
use Rattle.crsm_spec.specs.Clock.{u64_max, issue}
use Rattle.crsm_spec.specs.Types.{Stamp, Ballot, Entry, Decision, Command, InEpoch, Datagram, Control}
use Rattle.crsm_spec.specs.Lists.{Among, first_of, has}
use Rattle.crsm_spec.specs.Log.{Log, known, start, decision, executed, promised}
use Rattle.crsm_spec.specs.Paxos.{Answer}
use Rattle.crsm_spec.specs.Collect.{suspend_ok, own_page, cursor}
use Rattle.crsm_spec.specs.Fits.{can_be_members}
use Rattle.crsm_spec.specs.Replica.{Replica, Coordinator, LogPage, spec_of, next_spec, last_issued}
use Rattle.crsm_spec.specs.Draft.{Draft, keep, noting, send, reply, count_vote, would, issued_at, push_to_members, push_to, send_control}
use Rattle.crsm_spec.specs.Clients.{refuse, submit, await, replies}
use Rattle.crsm_spec.specs.Frames.{take_frame, receive, owe, ack, pay, owing, again_frame}
use Rattle.crsm_spec.specs.Coordinate.{forget_epoch, instance, greater_ballot, may_reconfigure, most_collected}
use Rattle.crsm_spec.specs.Controls.{is_page_of, are_above, new_entries, page_from}
use Rattle.crsm_spec.specs.Step.{Input}
use Rattle.crsm_fact_log.specs.Logs.{AllFit, Extends, same, more, AreSpelt}
use Rattle.crsm_fact_step.specs.Messages.{ReceivesControl, IsAsked, IsSent, Answers}
use Rattle.crsm_fact_step.specs.Changes.{Change, Changes, stay, and_then, AsksFor, IsAnswer, IsNextRound, IsRefusal}
use Rattle.crsm_fact_step.specs.Changes.Change.{Submits, Refuses, Commits, Replies, Takes, Acks, IsAcked, Pays, Owes, SendsTime, SendsAgain, SendsControl, Gathers, Suspends, Collects, TakesPage, Completes, Refrains, GivesUp, Asks, CountsAnswer, Proposes, IsPreempted, AcceptsOwn, CountsVote, Promises, Accepts, Chooses, Learns, AdoptsTail, AdoptsPage, Enters}
use Rattle.crsm_fact_log.proofs.Logged.{extends_trans, end_fits}
use Rattle.crsm_fact_step.proofs.Logs.{log_change, change_grows, send_still, replies_still, numbers_stay}
use Rattle.crsm_fact_log.proofs.Lists.{list_all_at, all_at, all-append}
use Rattle.crsm_law_epoch.proofs.CommitLogs.{unexecuted_logged}
use Rattle.crsm_law_messages.proofs.Coordinators.{send_coordinator, replies_coordinator}
use Rattle.crsm_law_bounds.specs.Bounds.{most_records}
use Rattle.crsm_fact_log.proofs.EntriesFit.{take_fits, drop_fits}
use Rattle.crsm_fact_log.proofs.LogsFit.{decision_fits, known_small, accepted_fits, promised_fits, no_fits, logged_fits, executed_short, last_fits, frozen_fits, asked_page, executed_page}
use Rattle.crsm_fact_log.specs.Pages.{AnswersFit, FitsPage, FitPages}
use Rattle.crsm_fact_log.proofs.DecisionsFit.{value_fits, named_fits, cursor_fits, collected_fits}

-- ---- coordinators

-- a coordinator where the known epoch and its start are these
abbrev pub FitsCoordinator : ℕ → ℕ → Coordinator → Type 0
FitsCoordinator x s Coordinator.Idle = Unit {0}
FitsCoordinator x s (Coordinator.Collecting ms pages) = (x ≤ most_collected) × (s ≤ most_collected) × IsMembers ms × FitPages x pages
FitsCoordinator x s (Coordinator.Preparing b own answers) = (x ≤ most_collected) × FitsBallot b × FitsDecision own × AnswersFit answers
FitsCoordinator x s (Coordinator.Proposing b own value acceptors) = (x ≤ most_collected) × FitsBallot b × FitsDecision own × FitsDecision value
FitsCoordinator x s (Coordinator.Preempted own seen) = (x ≤ most_collected) × FitsDecision own × FitsBallot seen

abbrev pub IsSmall : ℕ → Type 0
IsSmall t = t < 2 ^ 64

pub record Fit (x : Draft) : Type 0 where
  pub log : AreSpelt x.replica.log
  pub coordinator : FitsCoordinator (known x.replica.log) (start x.replica.log) x.replica.coordinator
  pub issued : AllByRecursion IsSmall x.replica.issued

-- ---- times

last_small : (ts : List ℕ) → AllByRecursion IsSmall ts → unwrap_or (first_of ts) 0 < 2 ^ 64
unfolding first_of
last_small [] h = omega arith
last_small (t ∷ ts) h = h.0

would_small : (x : Draft) (reading t : ℕ) → reading < 2 ^ 64 → AllByRecursion IsSmall x.replica.issued → would x reading ≡ Some t → t < 2 ^ 64
unfolding would issue last_issued
would_small x reading t lt h = go (unwrap_or (first_of x.replica.issued) 0) (last_small x.replica.issued h)
  where
    pick : (c : Bool) (l : ℕ) → (l == u64_max) ≡ c → l < 2 ^ 64 → cond c None (Some (max reading (l + 1))) ≡ Some t → t < 2 ^ 64
    pick true l e s q = absurd (none-some t q)
    pick false l e s q =
        let other : l ≢ u64_max = λ f. false≢true (sym e ∙ eq-eqb l u64_max f) in
        let is : max reading (l + 1) ≡ t = same_Some (max reading (l + 1)) t q in
        omega (arith, other, is, s, lt)

    go : (l : ℕ) → l < 2 ^ 64 → cond (l == u64_max) None (Some (max reading (l + 1))) ≡ Some t → t < 2 ^ 64
    go l s q = pick (l == u64_max) l refl s q

-- ---- ballots

greater_fits : (a b : Ballot) → FitsBallot a → FitsBallot b → (greater_ballot a b).round < 2 ^ 64
unfolding greater_ballot when◌then◌otherwise◌
greater_fits a b f g = go (ballot_lt a b)
  where
    go : (c : Bool) → (when c then b otherwise a).round < 2 ^ 64
    go true = g.round
    go false = f.round

next_fits : (p seen b : Ballot) (me : ℕ) → FitsBallot p → FitsBallot seen → b.by ≡ me → me < 15 → IsNextRound p seen b → FitsBallot b
next_fits p seen b me f g by small next =
    let top = greater_fits p seen f g in
    let other = next.0 in
    let is = next.1 in
    record { round = omega (arith, top, other, is); by = omega (arith, by, small) }

-- ---- pages

may_parts : (r : Replica) (ms : List ℕ) → IsTrue (may_reconfigure r ms) → (known r.log ≤ most_collected) × (start r.log ≤ most_collected)
unfolding may_reconfigure
may_parts r ms h =
    let p = (and_parts (has (spec_of r) r.me && can_be_members (next_spec r ms) ms) (nat_le (known r.log) most_collected && nat_le (start r.log) most_collected) h).1 in
    let q = and_parts (nat_le (known r.log) most_collected) (nat_le (start r.log) most_collected) p in
    (leb-true (known r.log) most_collected q.0, leb-true (start r.log) most_collected q.1)

page_parts : (x e : ℕ) (asked after : Option Stamp) (p : LogPage) → IsTrue (is_page_of x e asked after p) → (p.executed ≤ most_collected) × ((z : Entry) → Among p.entries z → z.epoch ≡ x)
unfolding is_page_of are_above
page_parts x e asked after p h =
    let a = and_parts _ _ h in
    let b = and_parts _ _ a.0 in
    let c = and_parts (e == x) _ b.0 in
    let d = and_parts _ (nat_le p.executed most_collected) a.1 in (
      leb-true p.executed most_collected d.1,
      λ z m. eqb-true z.epoch e (and_parts (z.epoch == e) _ (list_all_at _ p.entries z b.1 m)).0 ∙ eqb-true e x c.0,
    )

own_fits : (me : ℕ) (log : Log) → AreSpelt log → length (executed log) ≤ most_collected → FitsPage (known log) (own_page me log)
unfolding own_page
own_fits me log h small = record { executed = small; entries = λ z a. frozen_fits log _ h z a }

one_page : (x : ℕ) (p : LogPage) → FitsPage x p → FitPages x (p ∷ [])
one_page x p f q (inl e) = subst (FitsPage x) e f
one_page x p f q (inr a) = absurd a

pages_then : (x : ℕ) (ps : List LogPage) (p : LogPage) → FitPages x ps → FitsPage x p → FitPages x (ps ++ p ∷ [])
pages_then x [] p h f q a = one_page x p f q a
pages_then x (r ∷ rs) p h f q (inl e) = h q (inl e)
pages_then x (r ∷ rs) p h f q (inr a) = pages_then x rs p (λ s b. h s (inr b)) f q a

new_fit : (log : Log) (from : ℕ) (es : List Entry) → FitsEntries es → FitsEntries (new_entries log from es)
unfolding new_entries when◌then◌otherwise◌
new_fit log from es f = go (decision log)
  where
    new : List Entry
    new = drop (length (executed log) - from) es

    pick : (c : Bool) (k : ℕ) → FitsEntries (when c then take k new otherwise new)
    pick true k = take_fits k new (drop_fits (length (executed log) - from) es f)
    pick false k = drop_fits (length (executed log) - from) es f

    go : (o : Option Decision) → FitsEntries (option_map_or (λ d. when nat_lt (length (executed log)) d.base_len then take (d.base_len - length (executed log)) new otherwise new) o new)
    go None = drop_fits (length (executed log) - from) es f
    go (Some d) = pick (nat_lt (length (executed log)) d.base_len) (d.base_len - length (executed log))

pub extends_length : (a b : Log) → Extends a b → length a ≤ length b
extends_length a b same = omega arith
extends_length a b (more {new = c} rec p) = let t = extends_length a c p in omega (arith, t)

-- ---- changes

-- What comes in this step has a spelling, and the log that the step leaves is short.
pub record Comes (n k : ℕ) (last : Log) (r : Replica) (input : Input) (reading : ℕ) : Type 0 where
  pub fit : AllFit k n last
  pub short : length last ≤ most_records
  pub number : r.me ≡ k
  pub small : k < 15
  pub reading_small : reading < 2 ^ 64
  pub received : (j : ℕ) (c : Control) → ReceivesControl r input j c → FitsControl c
  pub framed : (a j e i : ℕ) (f : Entry) → input ≡ Input.Came a (Datagram.Frame j r.me e i (InEpoch.Prepare f)) → FitsEntry f
  pub asked : (a : ℕ) (c : Command) → input ≡ Input.Came a (Datagram.Request c) → FitsCommand c
  pub wished : (ms : List ℕ) → AsksFor input ms → IsMembers ms

module _ (n k : ℕ) (last : Log) (r : Replica) (input : Input) (reading : ℕ) (comes : Comes n k last r input reading) where
  -- a log of this step executes far fewer entries than there are numbers
  done_small : (log : Log) → Extends log last → AreSpelt log → length (executed log) ≤ most_collected
  done_small log e h =
      let a = executed_short log h in
      let b = extends_length log last e in
      let c = comes.short in omega (arith, a, b, c)

  noted : (x : Draft) (coordinator : Coordinator) → Fit x → x.replica.coordinator ≡ coordinator → FitsCoordinator (known x.replica.log) (start x.replica.log) coordinator
  noted x coordinator f e = subst (FitsCoordinator (known x.replica.log) (start x.replica.log)) e f.coordinator

  answered : (x : Draft) (b : Ballot) (a : Answer Decision) → Fit x → IsAnswer r input x b a → FitsOption FitsVote a.accepted
  answered x b a f (inl own) = subst (FitsOption FitsVote) (sym own.2) (accepted_fits x.replica.log f.log)
  answered x b a f (inr one) = (comes.received a.replica (Control.P1b (instance x) b a.accepted) one.1).2

  refused : (x : Draft) (b top : Ballot) → Fit x → IsRefusal r input x b top → FitsBallot top
  refused x b top f (inl e) = subst FitsBallot (sym e) (promised_fits x.replica.log f.log)
  refused x b top f (inr h) = (comes.received h.0 (Control.P1no (instance x) b top) h.1).2

  instance_small : (x : Draft) → known x.replica.log ≤ most_collected → instance x < 2 ^ 64
  unfolding instance
  instance_small x le = omega (arith, le)

  tail_fits : (x : Draft) (d : Decision) → Fit x → decision x.replica.log ≡ Some d → FitsDecision d
  tail_fits x d f e = subst (FitsOption FitsDecision) e (decision_fits x.replica.log f.log)

  timed : (x : Draft) (t : ℕ) → Fit x → would x reading ≡ Some t → AllByRecursion IsSmall (t ∷ x.replica.issued)
  timed x t f w = (would_small x reading t comes.reading_small f.issued w, f.issued)

  pub change_fits : (x y : Draft) → Change r input reading x y → Extends x.replica.log last → x.replica.me ≡ r.me → Fit x → Fit y
  unfolding submit refuse await push_to_members push_to count_vote issued_at keep noting reply send take_frame receive owe ack pay owing again_frame forget_epoch known start decision
  change_fits x y (Submits a c t i h w) ext me f = record {
    log = (record { epoch = known_small x.replica.log f.log; stamp = record { time = (timed x t f w).0; origin = (let q = comes.number in let s = comes.small in omega (arith, me, q, s)) }; command = comes.asked a c i }, f.log);
    coordinator = f.coordinator;
    issued = timed x t f w;
  }
  change_fits x y (Refuses a c why i h) ext me f = record { log = f.log; coordinator = f.coordinator; issued = f.issued }
  change_fits x y (Commits e a h w) ext me f = record { log = ((logged_fits x.replica.log e f.log (unexecuted_logged x.replica.log e h).0).stamp, f.log); coordinator = f.coordinator; issued = f.issued }
  change_fits x y Replies ext me f =
      let s = replies_still x in
      record {
        log = subst AreSpelt (sym s.log) f.log;
        coordinator = subst (λ l. FitsCoordinator (known l) (start l) (replies x).replica.coordinator) (sym s.log) (subst (FitsCoordinator (known x.replica.log) (start x.replica.log)) (sym (replies_coordinator x)) f.coordinator);
        issued = subst (AllByRecursion IsSmall) (sym s.issued) f.issued;
      }
  change_fits x y (Takes a j e seq (InEpoch.Prepare g) i o h p q d) ext me f = record { log = (comes.framed a j e seq g i, f.log); coordinator = f.coordinator; issued = f.issued }
  change_fits x y (Takes a j e seq (InEpoch.PrepareOk s at) i o h p q d) ext me f = record { log = f.log; coordinator = f.coordinator; issued = f.issued }
  change_fits x y (Takes a j e seq (InEpoch.ClockTime at) i o h p q d) ext me f = record { log = f.log; coordinator = f.coordinator; issued = f.issued }
  change_fits x y (Acks j p) ext me f = record { log = f.log; coordinator = f.coordinator; issued = f.issued }
  change_fits x y (IsAcked j next p h) ext me f = record { log = f.log; coordinator = f.coordinator; issued = f.issued }
  change_fits x y (Pays s t a m w lt) ext me f = record { log = f.log; coordinator = f.coordinator; issued = timed x t f w }
  change_fits x y (Owes ss a h) ext me f = record { log = f.log; coordinator = f.coordinator; issued = f.issued }
  change_fits x y (SendsTime t a i w) ext me f = record { log = f.log; coordinator = f.coordinator; issued = timed x t f w }
  change_fits x y (SendsAgain j g a m h) ext me f = record { log = f.log; coordinator = f.coordinator; issued = f.issued }
  change_fits x y (SendsControl j c h) ext me f =
      let s = send_still c j x in
      record {
        log = subst AreSpelt (sym s.log) f.log;
        coordinator = subst (λ l. FitsCoordinator (known l) (start l) (send_control c x j).replica.coordinator) (sym s.log) (subst (FitsCoordinator (known x.replica.log) (start x.replica.log)) (sym (send_coordinator c j x)) f.coordinator);
        issued = subst (AllByRecursion IsSmall) (sym s.issued) f.issued;
      }
  change_fits x y (Gathers a p i o) ext me f = record { log = f.log; coordinator = f.coordinator; issued = f.issued }
  change_fits x y (Suspends h) ext me f = record { log = (known_small x.replica.log f.log, f.log); coordinator = f.coordinator; issued = f.issued }
  change_fits x y (Collects ms w may s) ext me f =
      let m = may_parts x.replica ms may in
      record {
        log = f.log;
        coordinator = (m.0, m.1, comes.wished ms w, one_page (known x.replica.log) (own_page x.replica.me x.replica.log) (own_fits x.replica.me x.replica.log f.log (done_small x.replica.log ext f.log)));
        issued = f.issued;
      }
  change_fits x y (TakesPage ms pages e after p q h m i w) ext me f =
      let was = noted x (Coordinator.Collecting ms pages) f q in
      let c = comes.received p.from (Control.SuspendOk e p.executed p.last after p.whole p.entries) h in
      let parts = page_parts (known x.replica.log) e (cursor pages p.from) after p i in
      record {
        log = f.log;
        coordinator = (was.0, was.1, was.2, pages_then (known x.replica.log) pages p was.3 (record { executed = parts.0; entries = λ z a. (all_at FitsEntry p.entries z c.4.fit a, parts.1 z a) }));
        issued = f.issued;
      }
  change_fits x y (Completes ms pages q h w) ext me f =
      let was = noted x (Coordinator.Collecting ms pages) f q in
      record {
        log = f.log;
        coordinator = (was.0, collected_fits _ _ x.replica.log ms pages (named_fits x.replica ms was.2 f.log) was.2 was.0 was.1 was.3 w, no_fits);
        issued = f.issued;
      }
  change_fits x y (Refrains d) ext me f = record { log = f.log; coordinator = tt; issued = f.issued }
  change_fits x y (GivesUp own seen q) ext me f = record { log = f.log; coordinator = tt; issued = f.issued }
  change_fits x y (Asks own seen b q by lt) ext me f =
      let was = noted x (Coordinator.Preempted own seen) f q in
      let fits = next_fits (promised x.replica.log) seen b k (promised_fits x.replica.log f.log) was.2 (by.0 ∙ me ∙ comes.number) comes.small by.1 in
      record { log = ((instance_small x was.0, fits), f.log); coordinator = (was.0, fits, was.1, tt); issued = f.issued }
  change_fits x y (CountsAnswer b own answers a q i h) ext me f =
      let was = noted x (Coordinator.Preparing b own answers) f q in
      record { log = f.log; coordinator = (was.0, was.1, was.2, all-append _ answers (a ∷ []) was.3 (answered x b a f i, tt)); issued = f.issued }
  change_fits x y (Proposes b own answers q h) ext me f =
      let was = noted x (Coordinator.Preparing b own answers) f q in
      record { log = f.log; coordinator = (was.0, was.1, was.2, value_fits own answers was.2 was.3); issued = f.issued }
  change_fits x y (IsPreempted b own value acceptors top answers q h) ext me f = record { log = f.log; coordinator = over q; issued = f.issued }
    where
      over : (x.replica.coordinator ≡ Coordinator.Preparing b own answers) ⊎ (x.replica.coordinator ≡ Coordinator.Proposing b own value acceptors) → FitsCoordinator (known x.replica.log) (start x.replica.log) (Coordinator.Preempted own top)
      over (inl e) = let was = noted x (Coordinator.Preparing b own answers) f e in (was.0, was.2, refused x b top f h.1)
      over (inr e) = let was = noted x (Coordinator.Proposing b own value acceptors) f e in (was.0, was.2, refused x b top f h.1)
  change_fits x y (AcceptsOwn b own value acceptors q h i j) ext me f =
      let was = noted x (Coordinator.Proposing b own value acceptors) f q in
      record { log = ((instance_small x was.0, was.1, was.3), f.log); coordinator = f.coordinator; issued = f.issued }
  change_fits x y (CountsVote b own value acceptors j q v) ext me f = record { log = f.log; coordinator = noted x (Coordinator.Proposing b own value acceptors) f q; issued = f.issued }
  change_fits x y (Promises j b h lt) ext me f = let c = comes.received j (Control.P1a (instance x) b) h in record { log = ((c.0, c.1), f.log); coordinator = f.coordinator; issued = f.issued }
  change_fits x y (Accepts j b d h i l m) ext me f = let c = comes.received j (Control.P2a (instance x) b d) h in record { log = ((c.0, c.1, c.2), f.log); coordinator = f.coordinator; issued = f.issued }
  change_fits x y (Chooses b own d acceptors q h) ext me f = record { log = ((noted x (Coordinator.Proposing b own d acceptors) f q).3, f.log); coordinator = tt; issued = tt }
  change_fits x y (Learns j d h lt) ext me f = record { log = (comes.received j (Control.Decide d) h, f.log); coordinator = tt; issued = tt }
  change_fits x y (AdoptsTail d h i j) ext me f =
      let s = done_small x.replica.log ext f.log in
      record { log = ((omega (arith, s), drop_fits (length (executed x.replica.log) - d.base_len) d.tail (tail_fits x d f h).tail), f.log); coordinator = f.coordinator; issued = f.issued }
  change_fits x y (AdoptsPage j e from es h i l) ext me f =
      let s = done_small x.replica.log ext f.log in
      record { log = ((omega (arith, s), new_fit x.replica.log from es (comes.received j (Control.Page e from es) h).2), f.log); coordinator = f.coordinator; issued = f.issued }
  change_fits x y (Enters h) ext me f = record { log = (known_small x.replica.log f.log, f.log); coordinator = f.coordinator; issued = tt }

  pub changes_fit : {x y : Draft} → Changes r input reading x y → Extends y.replica.log last → x.replica.me ≡ r.me → Fit x → Fit y × (y.replica.me ≡ r.me)
  changes_fit stay ext me f = (f, me)
  changes_fit (and_then {y = y} {z = z} p c fitting) ext me f =
      let e = extends_trans (change_grows y z (log_change r input reading y z c)) ext in
      let t = changes_fit p e me f in
      (change_fits y z c e t.1 t.0, (numbers_stay r input reading y z c).0 ∙ t.1)

  -- ---- what is sent

  asked_fits : (x : Draft) (after : Option Stamp) → Fit x → IsAsked x.replica.coordinator after → FitsOption FitsStamp after
  asked_fits x after f (inl e) = subst (FitsOption FitsStamp) (sym e) tt
  asked_fits x after f (inr (ms, pages, j, e, is)) = subst (FitsOption FitsStamp) (sym is) (cursor_fits (known x.replica.log) pages j (noted x (Coordinator.Collecting ms pages) f e).3)

  report_fits : (log : Log) (after : Option Stamp) → Extends log last → AreSpelt log → FitsOption FitsStamp after → FitsControl (suspend_ok log after)
  unfolding suspend_ok
  report_fits log after ext h a =
      let s = done_small log ext h in (known_small log h, omega (arith, s), last_fits log h, a, asked_page k n log after (end_fits k n ext comes.fit) h)

  sent_page_fits : (log : Log) (from : ℕ) → Extends log last → AreSpelt log → from < length (executed log) → FitsControl (page_from log from)
  unfolding page_from
  sent_page_fits log from ext h lt =
      let s = done_small log ext h in (known_small log h, omega (arith, s, lt), executed_page k n log from (end_fits k n ext comes.fit) h)

  no_answer : (i : ℕ) (b : Ballot) (h : (j : ℕ) × (ReceivesControl r input j (Control.P1a i b) ⊎ ((d : Decision) × ReceivesControl r input j (Control.P2a i b d)))) → (i < 2 ^ 64) × FitsBallot b
  no_answer i b (j, inl h) = let c = comes.received j (Control.P1a i b) h in (c.0, c.1)
  no_answer i b (j, inr (d, h)) = let c = comes.received j (Control.P2a i b d) h in (c.0, c.1)

  pub sent_fits : (x : Draft) (c : Control) → Extends x.replica.log last → Fit x → IsSent x c → Answers r input c → FitsControl c
  sent_fits x (Control.Suspend e after) ext f h a = (subst IsSmall (sym h.0) (known_small x.replica.log f.log), asked_fits x after f h.1)
  sent_fits x (Control.SuspendOk e done lst after whole es) ext f h a =
      subst FitsControl (sym h.1) (report_fits x.replica.log after ext f.log (comes.received a.0 (Control.Suspend e after) a.1).1)
  sent_fits x (Control.P1a i b) ext f h a = let was = noted x (Coordinator.Preparing b h.1 h.2) f h.3 in (subst IsSmall (sym h.0) (instance_small x was.0), was.1)
  sent_fits x (Control.P1b i b v) ext f h a =
      let c = comes.received a.0 (Control.P1a i b) a.1 in (c.0, c.1, subst (FitsOption FitsVote) (sym h.2) (accepted_fits x.replica.log f.log))
  sent_fits x (Control.P1no i b top) ext f h a = let c = no_answer i b a in (c.0, c.1, subst FitsBallot (sym h.1) (promised_fits x.replica.log f.log))
  sent_fits x (Control.P2a i b d) ext f h a = let was = noted x (Coordinator.Proposing b h.1 d h.2) f h.3 in (subst IsSmall (sym h.0) (instance_small x was.0), was.1, was.3)
  sent_fits x (Control.P2b i b) ext f h a = let c = comes.received a.0 (Control.P2a i b a.1) a.2 in (c.0, c.1)
  sent_fits x (Control.Decide d) ext f h a = tail_fits x d f h
  sent_fits x (Control.Retrieve e from) ext f h a =
      let s = done_small x.replica.log ext f.log in
      let is = h.1 in (subst IsSmall (sym h.0) (known_small x.replica.log f.log), omega (arith, s, is))
  sent_fits x (Control.Page e from es) ext f h a = subst FitsControl (sym h.1) (sent_page_fits x.replica.log from ext f.log h.0)
