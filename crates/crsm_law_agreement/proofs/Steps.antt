-- A step leaves executed entries at their places.
use Rattle.std.proofs.Common.{◌≡◌, ℕ, ◌+◌, ◌-◌, ◌<◌, ◌≤◌, List, ◌∷◌, length, drop, sym, ◌∙◌, ap, subst, inl, inr, arith}
use Rattle.std.specs.Prelude.{IsTrue, Some, slice_get, not}
use Rattle.std.proofs.lemmas.Bool.{and_parts, cases_lt}
use Rattle.std.specs.Option.{option_map_or}
use Rattle.crsm_spec.specs.Types.{Entry, Decision, Rec, InEpoch, Control}
use Rattle.crsm_spec.specs.Lists.{first_of}
use Rattle.crsm_spec.specs.Log.{Log, known, decision, start, executed, unexecuted, active, live, suspended}
use Rattle.crsm_spec.specs.Replica.{Replica}
use Rattle.crsm_spec.specs.Draft.{Draft, keep, noting, send, reply, count_vote, issued_at, push_to_members, push_to}
use Rattle.crsm_spec.specs.Clients.{refuse, submit, await}
use Rattle.crsm_spec.specs.Frames.{take_frame, receive, owe, ack, pay, owing, again_frame}
use Rattle.crsm_spec.specs.Coordinate.{forget_epoch}
use Rattle.crsm_spec.specs.Controls.{new_entries, may_adopt}
use Rattle.crsm_spec.specs.Step.{Input}
use Rattle.crsm_spec.specs.World.{Site, World, log_at}
use Rattle.crsm_fact_log.specs.Logs.{AllFit, Extends, same, more, Logged}
use Rattle.crsm_fact_step.specs.Messages.{ReceivesControl}
use Rattle.crsm_fact_step.specs.Changes.{Change, Changes, stay, and_then}
use Rattle.crsm_fact_step.specs.Changes.Change.{Submits, Refuses, Commits, Replies, Takes, Acks, IsAcked, Pays, Owes, SendsTime, SendsAgain, SendsControl, Gathers, Suspends, Collects, TakesPage, Completes, Refrains, GivesUp, Asks, CountsAnswer, Proposes, IsPreempted, AcceptsOwn, CountsVote, Promises, Accepts, Chooses, Learns, AdoptsTail, AdoptsPage, Enters}
use Rattle.crsm_law_steps.specs.Happenings.{Marks, CanCome, IsReached}
use Rattle.crsm_fact_step.proofs.Logs.{log_change, change_grows, send_still, replies_still}
use Rattle.crsm_fact_log.proofs.Logged.{extends_trans, decide_above, end_fits}
use Rattle.crsm_law_epoch.proofs.CommitLogs.{unexecuted_logged}
use Rattle.crsm_law_messages.specs.Laws.{Says}
use Rattle.crsm_law_messages.specs.Counted.{AllSpelt}
use Rattle.crsm_law_messages.proofs.Worlds.{received_is_sent}
use Rattle.crsm_law_messages.proofs.Truth.{sent_is_true}
use Rattle.crsm_law_agreement.proofs.DecidedLogs.{decision_kept, known_decide}
use Rattle.crsm_law_agreement.proofs.Coordinators.{extends_among}
use Rattle.crsm_law_agreement.specs.Openings.{IsOpening}
use Rattle.crsm_law_agreement.proofs.Lists.{get_drop, get_page}
use Rattle.crsm_law_agreement.proofs.Logs.{live_long}
use Rattle.crsm_law_agreement.proofs.Placed.{EndsPlaced, StandsWell, commit_on, opening_back, idle_placed, commit_placed, adopt_placed, decide_placed, page_epoch, taken_new, adopts_below}

-- in each epoch that has an opening, the entries of each log stand at their places
abbrev pub AllPlaced : World → Type 0
AllPlaced w = (e : ℕ) (opening : List Entry) → IsOpening e opening (log_at w) → (j : ℕ) → EndsPlaced e opening (log_at w) (log_at w j)

pub logged_on : (a b : Log) (z : Entry) → Extends a b → Logged a z → Logged b z
logged_on a b z same h = h
logged_on a b z (more {new = c} rec e) h = inr (logged_on a c z e h)

known_of : (log : Log) (d : Decision) → decision log ≡ Some d → known log ≡ d.epoch
unfolding known
known_of log d e = ap (λ o. option_map_or (λ d. d.epoch) o 0) e

start_of : (log : Log) (d : Decision) → decision log ≡ Some d → start log ≡ d.base_len + length d.tail
unfolding start
start_of log d e = ap (λ o. option_map_or (λ d. d.base_len + length d.tail) o 0) e

active_live : (log : Log) → IsTrue (active log) → IsTrue (live log)
unfolding active
active_live log h = (and_parts (live log) (not (suspended log)) h).0

module _ (n : ℕ) (w v : World) (reached : IsReached n w) (marks : Marks w v) (k : ℕ) (r : Replica) (up : slice_get v.sites k ≡ Some (Site.Up r)) (input : Input) (reading : ℕ) (can : CanCome w k input)
    (spelt : AllSpelt n w) (later : ℕ → Log) (grows : (j : ℕ) → Extends (log_at w j) (later j)) (all_placed : AllPlaced w) (fit : AllFit k n (later k))
    (one : (y z : Entry) → Logged (later k) y → Logged (later k) z → y.epoch ≡ z.epoch → y.stamp ≡ z.stamp → y ≡ z)
    (e : ℕ) (opening : List Entry) (opens : IsOpening e opening later) where
  -- a log by now, or earlier
  old_placed : (j : ℕ) (old : Log) → Extends old (log_at w j) → known old ≡ e → (p : ℕ) (x : Entry) → slice_get (executed old) p ≡ Some x → StandsWell e opening later p x
  old_placed j old ext kn p x q =
      elim (all_placed e opening (opening_back e opening (log_at w) later grows (λ i rec a. extends_among (grows i) rec a) opens) j old ext kn p x q) [
        | inl a ↦ inl a
        | inr b ↦ inr (b.0, commit_on e (log_at w) later grows p x b.1)
      ]

  -- what a page brings stands at its place
  page_placed : (j e' from : ℕ) (es : List Entry) (log : Log) → ReceivesControl r input j (Control.Page e' from es) → IsTrue (may_adopt log e' from) → known log ≡ e → (i : ℕ) (x : Entry) →
      slice_get (new_entries log from es) i ≡ Some x → StandsWell e opening later (length (executed log) + i) x
  page_placed j e' from es log receives may kn i x q =
      let s = received_is_sent n w j k (Control.Page e' from es) (record { reached = reached; marked = v; marks = marks; replica = r; up = up; input = input; can_come = can; receives = receives }) spelt in
      let t = sent_is_true n w s.0 s.4 in
      let says : Says t.0 (Control.Page e' from es) = subst (Says t.0) s.3 t.2 in
      let ext : Extends t.0 (log_at w j) = subst (λ z. Extends t.0 (log_at w z)) s.1 t.1 in
      let page = page_epoch e' from es t.0 says.1 in
      let low = adopts_below log e' from may in
      let at_es = get_drop (length (executed log) - from) es i x (taken_new log from es i x q) in
      let at_old = get_drop from (executed t.0) ((length (executed log) - from) + i) x (get_page (drop from (executed t.0)) _ x (subst (λ l. slice_get l ((length (executed log) - from) + i) ≡ Some x) page.1 at_es)) in
      let at_place : slice_get (executed t.0) (length (executed log) + i) ≡ Some x = subst (λ z. slice_get (executed t.0) z ≡ Some x) (omega (arith, low.1)) at_old in
      elim (cases_lt (known t.0) e) [
        | inl lt ↦ inl (opens.before j t.0 (then_on ext) lt (length (executed log) + i) x at_place)
        | inr ge ↦ old_placed j t.0 ext (omega (arith, ge, page.0, low.0, kn)) (length (executed log) + i) x at_place
      ]
    where
      then_on : {a : Log} → Extends a (log_at w j) → Extends a (later j)
      then_on x = extends_trans x (grows j)

  -- the rest of the tail stands in the opening
  tail_placed : (log : Log) (d : Decision) → Extends log (later k) → decision log ≡ Some d → d.base_len ≤ length (executed log) → known log ≡ e → (i : ℕ) (x : Entry) →
      slice_get (drop (length (executed log) - d.base_len) d.tail) i ≡ Some x → StandsWell e opening later (length (executed log) + i) x
  tail_placed log d ext is le kn i x q =
      let a = extends_among ext (Rec.Decide d) (decision_kept log d is) in
      let at = opens.tail k d a (sym (known_of log d is) ∙ kn) ((length (executed log) - d.base_len) + i) x (get_drop (length (executed log) - d.base_len) d.tail i x q) in
      inl (subst (λ z. slice_get opening z ≡ Some x) (omega (arith, le)) at)

  still : (x y : Draft) → y.replica.log ≡ x.replica.log → EndsPlaced e opening later x.replica.log → EndsPlaced e opening later y.replica.log
  still x y is h = subst (EndsPlaced e opening later) (sym is) h

  learnt : (x : Draft) (d : Decision) → Extends (Rec.Decide d ∷ x.replica.log) (later k) → EndsPlaced e opening later x.replica.log → EndsPlaced e opening later (Rec.Decide d ∷ x.replica.log)
  learnt x d ext h = decide_placed e opening later x.replica.log d
      (λ kn p z q. opens.before k x.replica.log (extends_trans (more (Rec.Decide d) same) ext) (below kn) p z q) h
    where
      below : known (Rec.Decide d ∷ x.replica.log) ≡ e → known x.replica.log < e
      below kn =
          let t = decide_above k n x.replica.log d (end_fits k n ext fit).0 in
          let is = known_decide d x.replica.log in
          omega (arith, t, is, kn)

  committed : (x : Draft) (y : Entry) → Extends (Rec.Commit y.stamp ∷ x.replica.log) (later k) → IsTrue (active x.replica.log) → first_of (unexecuted x.replica.log) ≡ Some y → EndsPlaced e opening later x.replica.log →
      EndsPlaced e opening later (Rec.Commit y.stamp ∷ x.replica.log)
  committed x y ext runs q h =
      let before = extends_trans (more (Rec.Commit y.stamp) same) ext in
      commit_placed e opening later k x.replica.log y ext q
      (λ z l ep st. one z y (logged_on x.replica.log (later k) z before l) (logged_on x.replica.log (later k) y before (unexecuted_logged x.replica.log y q).0) (ep ∙ sym (unexecuted_logged x.replica.log y q).1) st)
      (λ kn. let l = live_long k n x.replica.log (end_fits k n before fit) (active_live x.replica.log runs) in let b = opens.begin k x.replica.log before kn in omega (arith, l, b)) h

  changed : (x y : Draft) → Change r input reading x y → Extends y.replica.log (later k) → EndsPlaced e opening later x.replica.log → EndsPlaced e opening later y.replica.log
  unfolding submit refuse await push_to_members push_to count_vote issued_at keep noting reply send take_frame receive owe ack pay owing again_frame forget_epoch
  changed x y (Submits a c t i q p) ext h = idle_placed e opening later _ x.replica.log tt h
  changed x y (Refuses a c why i q) ext h = h
  changed x y (Commits y' a q p) ext h = committed x y' ext a q h
  changed x y Replies ext h = still x y (replies_still x).log h
  changed x y (Takes a j e' seq (InEpoch.Prepare g) i o q p s d) ext h = idle_placed e opening later _ x.replica.log tt h
  changed x y (Takes a j e' seq (InEpoch.PrepareOk s at) i o q p t d) ext h = h
  changed x y (Takes a j e' seq (InEpoch.ClockTime at) i o q p s d) ext h = h
  changed x y (Acks j p) ext h = h
  changed x y (IsAcked j next_is p q) ext h = h
  changed x y (Pays s t a m p lt) ext h = h
  changed x y (Owes ss a q) ext h = h
  changed x y (SendsTime t a i p) ext h = h
  changed x y (SendsAgain j g a m q) ext h = h
  changed x y (SendsControl j c q) ext h = still x y (send_still c j x).log h
  changed x y (Gathers a p i o) ext h = h
  changed x y (Suspends q) ext h = idle_placed e opening later _ x.replica.log tt h
  changed x y (Collects ms asked q s) ext h = h
  changed x y (TakesPage ms pages e' after p q a m i s) ext h = h
  changed x y (Completes ms pages q m p) ext h = h
  changed x y (Refrains d) ext h = h
  changed x y (GivesUp own seen q) ext h = h
  changed x y (Asks own seen b q by lt) ext h = idle_placed e opening later _ x.replica.log tt h
  changed x y (CountsAnswer b own answers a q i p) ext h = h
  changed x y (Proposes b own answers q p) ext h = h
  changed x y (IsPreempted b own value acceptors top answers q p) ext h = h
  changed x y (AcceptsOwn b own value acceptors q p i j) ext h = idle_placed e opening later _ x.replica.log tt h
  changed x y (CountsVote b own value acceptors j q p) ext h = h
  changed x y (Promises j b q lt) ext h = idle_placed e opening later _ x.replica.log tt h
  changed x y (Accepts j b d q i p l) ext h = idle_placed e opening later _ x.replica.log tt h
  changed x y (Chooses b own d acceptors q p) ext h = learnt x d ext h
  changed x y (Learns j d q lt) ext h = learnt x d ext h
  changed x y (AdoptsTail d q i j) ext h = adopt_placed e opening later x.replica.log _ _ (λ kn z x0 t. tail_placed x.replica.log d (extends_trans (more _ same) ext) q i kn z x0 t) h
  changed x y (AdoptsPage j e' from es q may lt) ext h = adopt_placed e opening later x.replica.log _ _ (λ kn i x0 t. page_placed j e' from es x.replica.log q may kn i x0 t) h
  changed x y (Enters q) ext h = idle_placed e opening later _ x.replica.log tt h

  pub along : {x y : Draft} → Changes r input reading x y → Extends y.replica.log (later k) → EndsPlaced e opening later x.replica.log → EndsPlaced e opening later y.replica.log
  along stay ext h = h
  along (and_then {y = y} {z = z} p c f) ext h =
      changed y z c ext (along p (extends_trans (change_grows y z (log_change r input reading y z c)) ext) h)
