-- The ballots along the changes of one step.
use Rattle.std.proofs.Common.{◌≡◌, ℕ, ◌+◌, List, [], ◌∷◌, ◌++◌, refl, sym, ◌∙◌, ap, subst, inl, inr, Bool, true, false, cond, map}
use Rattle.std.specs.Prelude.{◌⊎◌, IsTrue, Option, Some, None, slice_get, bytes_eq}
use Rattle.std.specs.List.{list_all}
use Rattle.std.proofs.lemmas.Option.{none-some, same_Some}
use Rattle.crsm_base.specs.Order.{ballot_lt}
use Rattle.std.proofs.lemmas.Bool.{false≢true}
use Rattle.crsm_spec.specs.Types.{Stamp, Ballot, Decision, Rec, InEpoch, Control}
use Rattle.crsm_spec.specs.Lists.{Among, has}
use Rattle.crsm_spec.specs.Log.{Log, known, spec, promised, accepted, suspended}
use Rattle.crsm_spec.specs.Quorum.{has_majority, spec_decided}
use Rattle.crsm_spec.specs.Paxos.{Answer, value_of}
use Rattle.crsm_spec.specs.Frames.{take_frame, receive, owe, ack, pay, owing, again_frame}
use Rattle.crsm_spec.specs.Replica.{Replica, Coordinator, LogPage, spec_of, named_spec, next_spec}
use Rattle.crsm_spec.specs.Collect.{own_page, whole_ones, collected, is_whole, cursor}
use Rattle.crsm_spec.specs.Draft.{Draft, begun, keep, noting, send, reply, count_vote, issued_at, push_to_members, push_to}
use Rattle.crsm_spec.specs.Clients.{refuse, submit, await}
use Rattle.crsm_spec.specs.Coordinate.{forget_epoch, instance, has_accepted}
use Rattle.crsm_spec.specs.Controls.{is_page_of}
use Rattle.crsm_spec.specs.Step.{Input}
use Rattle.crsm_spec.specs.World.{Site, World, log_at}
use Rattle.crsm_fact_log.specs.Logs.{AllFit, Extends}
use Rattle.crsm_fact_step.specs.Messages.{ReceivesControl, IsSent}
use Rattle.crsm_fact_step.specs.Changes.{Change, Changes, stay, and_then, IsAnswer, IsVote}
use Rattle.crsm_fact_step.specs.Changes.Change.{Submits, Refuses, Commits, Replies, Takes, Acks, IsAcked, Pays, Owes, SendsTime, SendsAgain, SendsControl, Gathers, Suspends, Collects, TakesPage, Completes, Refrains, GivesUp, Asks, CountsAnswer, Proposes, IsPreempted, AcceptsOwn, CountsVote, Promises, Accepts, Chooses, Learns, AdoptsTail, AdoptsPage, Enters}
use Rattle.crsm_law_steps.specs.Happenings.{Marks, CanCome, IsReached}
use Rattle.crsm_fact_step.proofs.Logs.{log_change, change_grows, send_still, replies_still}
use Rattle.crsm_fact_log.proofs.Logged.{extends_trans, end_fits}
use Rattle.crsm_law_collection.specs.Paging.{AreParts}
use Rattle.crsm_law_collection.proofs.Pages.{pages_begin}
use Rattle.crsm_law_messages.specs.SentMessages.{SentMessage, IsSentBy}
use Rattle.crsm_law_messages.specs.Laws.{Says, ReceivesIn}
use Rattle.crsm_law_messages.specs.Counted.{AllSpelt}
use Rattle.crsm_law_messages.proofs.History.{SendsIn, WasSentIn}
use Rattle.crsm_law_messages.proofs.Truth.{sent_is_true, voted}
use Rattle.crsm_law_messages.proofs.Worlds.{received_is_sent, received_is_sent_in}
use Rattle.crsm_law_messages.proofs.Coordinators.{send_coordinator, replies_coordinator}
use Rattle.crsm_law_agreement.specs.Ballots.{Offer, IsOffered, IsComplete, HasPromised, NamesOffered, AreSound, IsChosen}
use Rattle.crsm_law_agreement.proofs.DecidedLogs.{IsPlain, plain_of, plain_no_accept, plain_no_decide, same_accept, same_decide, promise_accept, promise_decide, accept_decide, decide_accept, known_promise, known_accept, promise_held, accept_epoch, held_accept, decision_kept}
use Rattle.crsm_law_agreement.proofs.Choice.{share, one_value}
use Rattle.crsm_law_agreement.proofs.Coordinators.{IsAsking, IsProposing, CoordinatorHolds, extends_among, chosen_on, offered_more, coordinator_keeps}
use Rattle.crsm_law_agreement.proofs.Pages.{takes_page}
use Rattle.crsm_fact_log.proofs.Lists.{among_either}

-- a decision names the Spec of its replica or the members
names_of : (r : Replica) (ms s : List ℕ) → named_spec r ms ≡ Some s → (s ≡ spec_of r) ⊎ (s ≡ ms)
unfolding named_spec next_spec
names_of r ms s = go (bytes_eq (next_spec r ms) (spec_decided r.n None)) (list_all (has (spec_of r)) ms)
  where
    go : (c d : Bool) → cond c None (Some (cond d (spec_of r) ms)) ≡ Some s → (s ≡ spec_of r) ⊎ (s ≡ ms)
    go true d e = absurd (none-some s e)
    go false true e = inl (sym (same_Some (spec_of r) s e))
    go false false e = inr (sym (same_Some ms s e))

offered_as : (offers : List Offer) (i j : ℕ) (b c : Ballot) (d e : Decision) → i ≡ j → b ≡ c → d ≡ e → IsOffered offers i b d → IsOffered offers j c e
offered_as offers i j b c d e p q s t = record { offer = t.offer; among = t.among; instance = t.instance ∙ p; ballot = t.ballot ∙ q; value = t.value ∙ s }

-- What holds of all ballots in a world, at the end of this history.
pub record Held (n : ℕ) (w : World) (history : IsReached n w) : Type 0 where
  pub offers : List Offer
  pub sound : AreSound n (log_at w) offers
  pub asked : (o : Offer) → Among offers o → Among (log_at w o.ballot.by) (Rec.Promise o.instance o.ballot)
  pub coordinators : (k : ℕ) (r : Replica) → slice_get w.sites k ≡ Some (Site.Up r) → CoordinatorHolds n (log_at w) offers k (known r.log) r.log r.coordinator
  pub accepted : (k i : ℕ) (b : Ballot) (d : Decision) → Among (log_at w k) (Rec.Accept i b d) → IsOffered offers i b d
  pub decided : (k : ℕ) (d : Decision) → Among (log_at w k) (Rec.Decide d) → IsChosen n (log_at w) d
  pub told : (s : SentMessage) (i : ℕ) (b : Ballot) (d : Decision) → WasSentIn history s → s.message ≡ Control.P2a i b d → IsOffered offers i b d

module _ (n : ℕ) (w v : World) (reached : IsReached n w) (marks : Marks w v) (k : ℕ) (r : Replica) (up : slice_get v.sites k ≡ Some (Site.Up r)) (input : Input) (reading : ℕ) (can : CanCome w k input)
    (spelt : AllSpelt n w) (held : Held n w reached) (later : ℕ → Log) (grows : (j : ℕ) → Extends (log_at w j) (later j)) (fit : (j : ℕ) → AllFit j n (later j)) where
  -- ---- what is received

  record IsTrueOf (j : ℕ) (c : Control) : Type 0 where
    pub log : Log
    pub earlier : Extends log (log_at w j)
    pub says : Says log c

  receiving : (j : ℕ) (c : Control) → ReceivesControl r input j c → ReceivesIn n w j k c
  receiving j c h = record { reached = reached; marked = v; marks = marks; replica = r; up = up; input = input; can_come = can; receives = h }

  received_true : (j : ℕ) (c : Control) → ReceivesControl r input j c → IsTrueOf j c
  received_true j c h =
      let s = received_is_sent n w j k c (receiving j c h) spelt in
      let t = sent_is_true n w s.0 s.4 in
      record { log = t.0; earlier = subst (λ z. Extends t.0 (log_at w z)) s.1 t.1; says = subst (Says t.0) s.3 t.2 }

  received_offer : (j i : ℕ) (b : Ballot) (d : Decision) → ReceivesControl r input j (Control.P2a i b d) → IsOffered held.offers i b d
  unfolding receiving
  received_offer j i b d h =
      let s = received_is_sent_in n w j k (Control.P2a i b d) (receiving j (Control.P2a i b d) h) spelt in
      held.told s.0 i b d s.2 s.1

  fit_now : (j : ℕ) (log : Log) → Extends log (log_at w j) → AllFit j n log
  fit_now j log e = end_fits j n (extends_trans e (grows j)) (fit j)

  -- ---- a draft

  -- What holds of a draft, which may have sent these.
  pub record Mid (x : Draft) (SendsControl : SentMessage → Type 0) : Type 0 where
    pub me : x.replica.me ≡ k
    pub size : x.replica.n ≡ n
    pub offers : List Offer
    pub before : (o : Offer) → Among held.offers o → Among offers o
    pub own : (o : Offer) → Among offers o → Among held.offers o ⊎ (o.ballot.by ≡ k)
    pub sound : AreSound n later offers
    pub asked : (o : Offer) → Among offers o → o.ballot.by ≡ k → Among x.replica.log (Rec.Promise o.instance o.ballot)
    pub coordinator : CoordinatorHolds n later offers k (known x.replica.log) x.replica.log x.replica.coordinator
    pub accepted : (i : ℕ) (b : Ballot) (d : Decision) → Among x.replica.log (Rec.Accept i b d) → IsOffered offers i b d
    pub decided : (d : Decision) → Among x.replica.log (Rec.Decide d) → IsChosen n later d
    pub told : (s : SentMessage) (i : ℕ) (b : Ballot) (d : Decision) → SendsControl s → s.message ≡ Control.P2a i b d → IsOffered offers i b d

  -- what it sends next is offered
  now_sent : (x : Draft) (T : SentMessage → Type 0) (g : Mid x T) (s : SentMessage) (i : ℕ) (b : Ballot) (d : Decision) → IsSentBy r input x s ⊎ T s → s.message ≡ Control.P2a i b d → IsOffered g.offers i b d
  unfolding instance
  now_sent x T g s i b d (inr h) e = g.told s i b d h e
  now_sent x T g s i b d (inl h) e =
      let is : IsSent x (Control.P2a i b d) = subst (IsSent x) e h.is in
      let p : IsProposing n later g.offers (known x.replica.log) b is.1 d is.2 = subst (CoordinatorHolds n later g.offers k (known x.replica.log) x.replica.log) is.3 g.coordinator in
      subst (λ z. IsOffered g.offers z b d) (sym is.0) p.offered

  sending : (x : Draft) (T : SentMessage → Type 0) → Mid x T → Mid x (λ s. IsSentBy r input x s ⊎ T s)
  unfolding instance
  sending x T g = record {
    me = g.me;
    size = g.size;
    offers = g.offers;
    before = g.before;
    own = g.own;
    sound = g.sound;
    asked = g.asked;
    coordinator = g.coordinator;
    accepted = g.accepted;
    decided = g.decided;
    told = now_sent x T g;
  }

  -- a change of the coordinator alone
  noted : (x y : Draft) (T : SentMessage → Type 0) (g : Mid x T) → y.replica.me ≡ x.replica.me → y.replica.n ≡ x.replica.n → y.replica.log ≡ x.replica.log →
      CoordinatorHolds n later g.offers k (known x.replica.log) x.replica.log y.replica.coordinator → Mid y T
  noted x y T g me size log coordinator = record {
    me = me ∙ g.me;
    size = size ∙ g.size;
    offers = g.offers;
    before = g.before;
    own = g.own;
    sound = g.sound;
    asked = λ o h by. subst (λ l. Among l (Rec.Promise o.instance o.ballot)) (sym log) (g.asked o h by);
    coordinator = subst (λ l. CoordinatorHolds n later g.offers k (known l) l y.replica.coordinator) (sym log) coordinator;
    accepted = λ i b d h. g.accepted i b d (subst (λ l. Among l (Rec.Accept i b d)) log h);
    decided = λ d h. g.decided d (subst (λ l. Among l (Rec.Decide d)) log h);
    told = g.told;
  }

  quiet : (x y : Draft) (T : SentMessage → Type 0) → Mid x T → y.replica.me ≡ x.replica.me → y.replica.n ≡ x.replica.n → y.replica.log ≡ x.replica.log → y.replica.coordinator ≡ x.replica.coordinator → Mid y T
  quiet x y T g me size log coordinator = noted x y T g me size log (subst (CoordinatorHolds n later g.offers k (known x.replica.log) x.replica.log) (sym coordinator) g.coordinator)

  -- one more record of the same epoch
  kept : (x y : Draft) (T : SentMessage → Type 0) (g : Mid x T) (rec : Rec) → y.replica.me ≡ x.replica.me → y.replica.n ≡ x.replica.n → y.replica.log ≡ rec ∷ x.replica.log → y.replica.coordinator ≡ x.replica.coordinator →
      known (rec ∷ x.replica.log) ≡ known x.replica.log → ((i : ℕ) (b : Ballot) (d : Decision) → rec ≡ Rec.Accept i b d → IsOffered g.offers i b d) → ((d : Decision) → rec ≡ Rec.Decide d → ⊥) → Mid y T
  kept x y T g rec me size log coordinator known_is accepts decides = record {
    me = me ∙ g.me;
    size = size ∙ g.size;
    offers = g.offers;
    before = g.before;
    own = g.own;
    sound = g.sound;
    asked = λ o h by. subst (λ l. Among l (Rec.Promise o.instance o.ballot)) (sym log) (inr (g.asked o h by));
    coordinator = subst (λ l. CoordinatorHolds n later g.offers k (known l) l y.replica.coordinator) (sym log)
        (subst (λ z. CoordinatorHolds n later g.offers k z (rec ∷ x.replica.log) y.replica.coordinator) (sym known_is)
        (subst (CoordinatorHolds n later g.offers k (known x.replica.log) (rec ∷ x.replica.log)) (sym coordinator)
        (coordinator_keeps n later g.offers k (known x.replica.log) x.replica.log rec x.replica.coordinator g.coordinator)));
    accepted = λ i b d h. accepted_of i b d (subst (λ l. Among l (Rec.Accept i b d)) log h);
    decided = λ d h. decided_of d (subst (λ l. Among l (Rec.Decide d)) log h);
    told = g.told;
  }
    where
      accepted_of : (i : ℕ) (b : Ballot) (d : Decision) → Among (rec ∷ x.replica.log) (Rec.Accept i b d) → IsOffered g.offers i b d
      accepted_of i b d (inl e) = accepts i b d e
      accepted_of i b d (inr h) = g.accepted i b d h

      decided_of : (d : Decision) → Among (rec ∷ x.replica.log) (Rec.Decide d) → IsChosen n later d
      decided_of d (inl e) = absurd (decides d e)
      decided_of d (inr h) = g.decided d h

  -- a record that says nothing of ballots
  plain : (x y : Draft) (T : SentMessage → Type 0) (g : Mid x T) (rec : Rec) → y.replica.me ≡ x.replica.me → y.replica.n ≡ x.replica.n → y.replica.log ≡ rec ∷ x.replica.log → y.replica.coordinator ≡ x.replica.coordinator →
      IsPlain rec x.replica.log → Mid y T
  plain x y T g rec me size log coordinator p =
      kept x y T g rec me size log coordinator p.known_is (λ i b d e. absurd (plain_no_accept rec x.replica.log i b d p e)) (λ d e. plain_no_decide rec x.replica.log d p e)

  -- what is learnt was chosen
  learnt : (x y : Draft) (T : SentMessage → Type 0) (g : Mid x T) (d : Decision) → y.replica.me ≡ x.replica.me → y.replica.n ≡ x.replica.n → y.replica.log ≡ Rec.Decide d ∷ x.replica.log → y.replica.coordinator ≡ Coordinator.Idle →
      IsChosen n later d → Mid y T
  learnt x y T g d me size log coordinator chosen = record {
    me = me ∙ g.me;
    size = size ∙ g.size;
    offers = g.offers;
    before = g.before;
    own = g.own;
    sound = g.sound;
    asked = λ o h by. subst (λ l. Among l (Rec.Promise o.instance o.ballot)) (sym log) (inr (g.asked o h by));
    coordinator = subst (CoordinatorHolds n later g.offers k (known y.replica.log) y.replica.log) (sym coordinator) tt;
    accepted = λ i b c h. accepted_of i b c (subst (λ l. Among l (Rec.Accept i b c)) log h);
    decided = λ c h. decided_of c (subst (λ l. Among l (Rec.Decide c)) log h);
    told = g.told;
  }
    where
      accepted_of : (i : ℕ) (b : Ballot) (c : Decision) → Among (Rec.Decide d ∷ x.replica.log) (Rec.Accept i b c) → IsOffered g.offers i b c
      accepted_of i b c (inl e) = absurd (decide_accept i b c d e)
      accepted_of i b c (inr h) = g.accepted i b c h

      decided_of : (c : Decision) → Among (Rec.Decide d ∷ x.replica.log) (Rec.Decide c) → IsChosen n later c
      decided_of c (inl e) = subst (IsChosen n later) (same_decide d c e) chosen
      decided_of c (inr h) = g.decided c h

  -- ---- a coordinator

  -- its coordinator, where it is this one
  coordinator_is : (x : Draft) (T : SentMessage → Type 0) (g : Mid x T) (coordinator : Coordinator) → x.replica.coordinator ≡ coordinator → CoordinatorHolds n later g.offers k (known x.replica.log) x.replica.log coordinator
  coordinator_is x T g coordinator e = subst (CoordinatorHolds n later g.offers k (known x.replica.log) x.replica.log) e g.coordinator

  spec_is : (x : Draft) (T : SentMessage → Type 0) → Mid x T → spec_of x.replica ≡ spec n x.replica.log
  unfolding spec_of
  spec_is x T g = ap (λ m. spec m x.replica.log) g.size

  collects : (x y : Draft) (T : SentMessage → Type 0) (g : Mid x T) (ms : List ℕ) → Extends x.replica.log (later k) → IsTrue (suspended x.replica.log) → y ≡ noting (Coordinator.Collecting ms (own_page x.replica.me x.replica.log ∷ [])) x → Mid y T
  unfolding noting
  collects x y T g ms ext frozen is = subst (λ z. Mid z T) (sym is) (noted x _ T g refl refl refl
      (subst (λ j. AreParts (known x.replica.log) later (own_page j x.replica.log ∷ [])) (sym g.me) (pages_begin (known x.replica.log) k later x.replica.log (ext, refl, frozen))))

  page_taken : (x : Draft) (T : SentMessage → Type 0) (g : Mid x T) (ms : List ℕ) (pages : List LogPage) (e : ℕ) (after : Option Stamp) (p : LogPage) → x.replica.coordinator ≡ Coordinator.Collecting ms pages →
      ReceivesControl r input p.from (Control.SuspendOk e p.executed p.last after p.whole p.entries) → IsTrue (is_page_of (known x.replica.log) e (cursor pages p.from) after p) → is_whole pages p.from ≡ false →
      AreParts (known x.replica.log) later (pages ++ p ∷ [])
  page_taken x T g ms pages e after p was receives next not_whole =
      let t = received_true p.from (Control.SuspendOk e p.executed p.last after p.whole p.entries) receives in
      takes_page n later fit (known x.replica.log) e pages after p t.log (coordinator_is x T g (Coordinator.Collecting ms pages) was) next not_whole (extends_trans t.earlier (grows p.from)) t.says.0 t.says.1

  completes : (x : Draft) (T : SentMessage → Type 0) (g : Mid x T) (ms : List ℕ) (pages : List LogPage) → Extends x.replica.log (later k) → x.replica.coordinator ≡ Coordinator.Collecting ms pages →
      IsTrue (has_majority (spec_of x.replica) (whole_ones (spec_of x.replica) pages)) →
      IsComplete n later (known x.replica.log + 1) (collected (spec_of x.replica) (named_spec x.replica ms) x.replica.log ms pages)
  completes x T g ms pages ext was many = record {
    by = k;
    log = x.replica.log;
    earlier = ext;
    next = refl;
    members = ms;
    named = named_spec x.replica ms;
    pages = pages;
    parts = coordinator_is x T g (Coordinator.Collecting ms pages) was;
    many = subst (λ l. IsTrue (has_majority l (whole_ones l pages))) (spec_is x T g) many;
    is = ap (λ l. collected l (named_spec x.replica ms) x.replica.log ms pages) (spec_is x T g);
    names = λ s e. elim (names_of x.replica ms s e) [ inl h ↦ inl (h ∙ spec_is x T g) | inr h ↦ inr h ];
  }

  -- a ballot of its own that is promised now was never offered
  unused : (x : Draft) (T : SentMessage → Type 0) (g : Mid x T) (b : Ballot) → Extends x.replica.log (later k) → b.by ≡ k → IsTrue (ballot_lt (promised x.replica.log) b) → (o : Offer) → Among g.offers o → o.instance ≡ known x.replica.log + 1 → o.ballot ≡ b → ⊥
  unused x T g b ext by lt o h at is =
      let a = g.asked o h (ap (λ (c : Ballot). c.by) is ∙ by) in
      let low = promise_held k n x.replica.log o.instance o.ballot (end_fits k n ext (fit k)) a at in
      absurd (false≢true (sym low ∙ subst (λ z. ballot_lt (promised x.replica.log) z ≡ true) (sym is) lt))

  asks : (x : Draft) (T : SentMessage → Type 0) (g : Mid x T) (own : Decision) (seen b : Ballot) → Extends x.replica.log (later k) → x.replica.coordinator ≡ Coordinator.Preempted own seen → b.by ≡ x.replica.me →
      IsTrue (ballot_lt (promised x.replica.log) b) → Mid (noting (Coordinator.Preparing b own []) (keep (Rec.Promise (instance x) b) x)) T
  unfolding keep noting instance kept
  asks x T g own seen b ext was by lt =
      let y = keep (Rec.Promise (known x.replica.log + 1) b) x in
      let h : Mid y T = kept x y T g (Rec.Promise (known x.replica.log + 1) b) refl refl refl refl (known_promise (known x.replica.log + 1) b x.replica.log)
      (λ i c d e. absurd (promise_accept (known x.replica.log + 1) i b c d e)) (λ d e. promise_decide (known x.replica.log + 1) b d e) in
      let kn = known_promise (known x.replica.log + 1) b x.replica.log in
      let mine = by ∙ g.me in
      let fresh = unused x T g b ext mine lt in
      noted y (noting (Coordinator.Preparing b own []) y) T h refl refl refl (subst (λ e. IsAsking n later g.offers k e (Rec.Promise (known x.replica.log + 1) b ∷ x.replica.log) b own []) (sym kn) (record {
        complete = coordinator_is x T g (Coordinator.Preempted own seen) was;
        by = mine;
        on_record = inl refl;
        none_yet = fresh;
        promised = λ a q. absurd q;
        named = λ a q. absurd q;
      }))

  -- an answer that counts
  record Answers (offers : List Offer) (e : ℕ) (b : Ballot) (a : Answer Decision) : Type 0 where
    pub promised : HasPromised later (e + 1) b a
    pub named : NamesOffered offers (e + 1) a

  answers : (x : Draft) (T : SentMessage → Type 0) (g : Mid x T) (b : Ballot) (a : Answer Decision) → Extends x.replica.log (later k) → IsAnswer r input x b a → Answers g.offers (known x.replica.log) b a
  unfolding instance
  answers x T g b a ext (inl own) =
      let at : a.replica ≡ k = own.0 ∙ g.me in
      record {
        promised = record {
          log = x.replica.log;
          earlier = subst (λ j. Extends x.replica.log (later j)) (sym at) ext;
          next = refl;
          has_promised = own.1;
          had_accepted = own.2;
        };
        named = λ c d is. g.accepted (known x.replica.log + 1) c d (held_accept k n x.replica.log c d (end_fits k n ext (fit k)) (sym own.2 ∙ is));
      }
  answers x T g b a ext (inr h) =
      let t = received_true a.replica (Control.P1b (known x.replica.log + 1) b a.accepted) h.1 in
      let says = t.says in
      record {
        promised = record { log = t.log; earlier = extends_trans t.earlier (grows a.replica); next = says.0; has_promised = says.1; had_accepted = says.2 };
        named = λ c d is.
            let on_log = held_accept a.replica n t.log c d (fit_now a.replica t.log t.earlier) (sym says.2 ∙ is) in
            let there = held.accepted a.replica (known t.log + 1) c d (extends_among t.earlier (Rec.Accept (known t.log + 1) c d) on_log) in
            subst (λ z. IsOffered g.offers z c d) (sym says.0) (offered_more held.offers g.offers g.before (known t.log + 1) c d there);
      }

  counts : (x : Draft) (T : SentMessage → Type 0) (g : Mid x T) (b : Ballot) (own : Decision) (given : List (Answer Decision)) (a : Answer Decision) → Extends x.replica.log (later k) → x.replica.coordinator ≡ Coordinator.Preparing b own given → IsAnswer r input x b a →
      IsAsking n later g.offers k (known x.replica.log) x.replica.log b own (given ++ a ∷ [])
  counts x T g b own given a ext was is =
      let old : IsAsking n later g.offers k (known x.replica.log) x.replica.log b own given = coordinator_is x T g (Coordinator.Preparing b own given) was in
      let new = answers x T g b a ext is in
      record {
        complete = old.complete;
        by = old.by;
        on_record = old.on_record;
        none_yet = old.none_yet;
        promised = λ q h. elim (among_either given (a ∷ []) q h) [ inl l ↦ old.promised q l | inr l ↦ elim l [ inl e ↦ subst (HasPromised later (known x.replica.log + 1) b) e new.promised | inr z ↦ absurd z ] ];
        named = λ q h. elim (among_either given (a ∷ []) q h) [ inl l ↦ old.named q l | inr l ↦ elim l [ inl e ↦ subst (NamesOffered g.offers (known x.replica.log + 1)) e new.named | inr z ↦ absurd z ] ];
      }

  -- one more offer
  proposes : (x : Draft) (T : SentMessage → Type 0) (g : Mid x T) (b : Ballot) (own : Decision) (given : List (Answer Decision)) → Extends x.replica.log (later k) → x.replica.coordinator ≡ Coordinator.Preparing b own given →
      IsTrue (has_majority (spec_of x.replica) (map (λ f. f.replica) given)) → Mid (noting (Coordinator.Proposing b own (value_of own given) []) x) T
  unfolding noting
  proposes x T g b own given ext was many =
      let old : IsAsking n later g.offers k (known x.replica.log) x.replica.log b own given = coordinator_is x T g (Coordinator.Preparing b own given) was in
      let o : Offer = record { instance = known x.replica.log + 1; ballot = b; own = own; answers = given } in
      let sub : (p : Offer) → Among g.offers p → Among (o ∷ g.offers) p = λ p h. inr h in
      record {
        me = g.me;
        size = g.size;
        offers = o ∷ g.offers;
        before = λ p h. inr (g.before p h);
        own = λ p h. elim h [ inl e ↦ inr (ap (λ (z : Offer). z.ballot.by) (sym e) ∙ old.by) | inr q ↦ g.own p q ];
        sound = (
          record {
            log = x.replica.log;
            was = subst (λ j. Extends x.replica.log (later j)) (sym old.by) ext;
            next = refl;
            only = old.none_yet;
            complete = old.complete;
            many = subst (λ l. IsTrue (has_majority l (map (λ f. f.replica) given))) (spec_is x T g) many;
            promised = old.promised;
            named = old.named;
          },
          g.sound,
        );
        asked = λ p h by. elim h [ inl e ↦ subst (λ (z : Offer). Among x.replica.log (Rec.Promise z.instance z.ballot)) e old.on_record | inr q ↦ g.asked p q by ];
        coordinator = record {
          complete = old.complete;
          offered = record { offer = o; among = inl refl; instance = refl; ballot = refl; value = refl };
          voted = λ j h. absurd h;
        };
        accepted = λ i c d h. offered_more g.offers (o ∷ g.offers) sub i c d (g.accepted i c d h);
        decided = g.decided;
        told = λ s i c d h e. offered_more g.offers (o ∷ g.offers) sub i c d (g.told s i c d h e);
      }

  preempted : (x : Draft) (T : SentMessage → Type 0) (g : Mid x T) (b : Ballot) (own value : Decision) (acceptors : List ℕ) (given : List (Answer Decision)) →
      (x.replica.coordinator ≡ Coordinator.Preparing b own given) ⊎ (x.replica.coordinator ≡ Coordinator.Proposing b own value acceptors) → IsComplete n later (known x.replica.log + 1) own
  preempted x T g b own value acceptors given (inl was) =
      let p : IsAsking n later g.offers k (known x.replica.log) x.replica.log b own given = coordinator_is x T g (Coordinator.Preparing b own given) was in p.complete
  preempted x T g b own value acceptors given (inr was) =
      let p : IsProposing n later g.offers (known x.replica.log) b own value acceptors = coordinator_is x T g (Coordinator.Proposing b own value acceptors) was in p.complete

  -- a vote that counts is on record, for the value that is proposed
  vote : (x : Draft) (T : SentMessage → Type 0) (g : Mid x T) (b : Ballot) (value : Decision) (j : ℕ) → Extends x.replica.log (later k) → IsOffered g.offers (known x.replica.log + 1) b value → IsVote r input x b j →
      Among (later j) (Rec.Accept (known x.replica.log + 1) b value)
  unfolding instance has_accepted
  vote x T g b value j ext offered (inl own) =
      let a = voted b (accepted x.replica.log) own.1 in
      let on_log = held_accept k n x.replica.log b a.0 (end_fits k n ext (fit k)) a.1 in
      let same_value = one_value n later g.offers g.sound (known x.replica.log + 1) b a.0 value (g.accepted (known x.replica.log + 1) b a.0 on_log) offered in
      subst (λ i. Among (later i) (Rec.Accept (known x.replica.log + 1) b value)) (sym (own.0 ∙ g.me))
      (subst (λ d. Among (later k) (Rec.Accept (known x.replica.log + 1) b d)) same_value (extends_among ext (Rec.Accept (known x.replica.log + 1) b a.0) on_log))
  vote x T g b value j ext offered (inr h) =
      let t = received_true j (Control.P2b (known x.replica.log + 1) b) h.1 in
      let d = t.says.1 in
      let there : Among (log_at w j) (Rec.Accept (known t.log + 1) b d) = extends_among t.earlier (Rec.Accept (known t.log + 1) b d) (held_accept j n t.log b d (fit_now j t.log t.earlier) t.says.2) in
      let here : Among (log_at w j) (Rec.Accept (known x.replica.log + 1) b d) = subst (λ z. Among (log_at w j) (Rec.Accept z b d)) (sym t.says.0) there in
      let same_value = one_value n later g.offers g.sound (known x.replica.log + 1) b d value
      (offered_more held.offers g.offers g.before (known x.replica.log + 1) b d (held.accepted j (known x.replica.log + 1) b d here)) offered in
      extends_among (grows j) (Rec.Accept (known x.replica.log + 1) b value) (subst (λ z. Among (log_at w j) (Rec.Accept (known x.replica.log + 1) b z)) same_value here)

  votes : (x : Draft) (T : SentMessage → Type 0) (g : Mid x T) (b : Ballot) (own value : Decision) (acceptors : List ℕ) (j : ℕ) → Extends x.replica.log (later k) → x.replica.coordinator ≡ Coordinator.Proposing b own value acceptors → IsVote r input x b j →
      IsProposing n later g.offers (known x.replica.log) b own value (j ∷ acceptors)
  votes x T g b own value acceptors j ext was is =
      let old : IsProposing n later g.offers (known x.replica.log) b own value acceptors = coordinator_is x T g (Coordinator.Proposing b own value acceptors) was in
      record {
        complete = old.complete;
        offered = old.offered;
        voted = λ i h. elim h [ inl e ↦ subst (λ z. Among (later z) (Rec.Accept (known x.replica.log + 1) b value)) e (vote x T g b value j ext old.offered is) | inr q ↦ old.voted i q ];
      }

  chooses : (x : Draft) (T : SentMessage → Type 0) (g : Mid x T) (b : Ballot) (own d : Decision) (acceptors : List ℕ) → Extends x.replica.log (later k) → x.replica.coordinator ≡ Coordinator.Proposing b own d acceptors →
      IsTrue (has_majority (spec_of x.replica) acceptors) → IsChosen n later d
  chooses x T g b own d acceptors ext was enough =
      let old : IsProposing n later g.offers (known x.replica.log) b own d acceptors = coordinator_is x T g (Coordinator.Proposing b own d acceptors) was in
      let many = subst (λ l. IsTrue (has_majority l acceptors)) (spec_is x T g) enough in
      let v = share (spec n x.replica.log) acceptors acceptors many many in
      let epoch = accept_epoch v.0 n (later v.0) (known x.replica.log + 1) b d (fit v.0) (old.voted v.0 v.1) in
      record {
        by = k;
        log = x.replica.log;
        earlier = ext;
        next = epoch;
        ballot = b;
        voters = acceptors;
        many = many;
        accepted = λ j h. subst (λ z. Among (later j) (Rec.Accept z b d)) (sym epoch) (old.voted j h);
      }

  -- a decision that is received was chosen
  learns : (j : ℕ) (d : Decision) → ReceivesControl r input j (Control.Decide d) → IsChosen n later d
  learns j d h =
      let t = received_true j (Control.Decide d) h in
      chosen_on n (log_at w) later grows d (held.decided j d (extends_among t.earlier (Rec.Decide d) (decision_kept t.log d t.says)))

  -- ---- each change

  accepts_own : (x : Draft) (T : SentMessage → Type 0) (g : Mid x T) (b : Ballot) (own value : Decision) (acceptors : List ℕ) → x.replica.coordinator ≡ Coordinator.Proposing b own value acceptors → (i : ℕ) (c : Ballot) (d : Decision) →
      Rec.Accept (instance x) b value ≡ Rec.Accept i c d → IsOffered g.offers i c d
  unfolding instance
  accepts_own x T g b own value acceptors was i c d e =
      let p : IsProposing n later g.offers (known x.replica.log) b own value acceptors = coordinator_is x T g (Coordinator.Proposing b own value acceptors) was in
      let q = same_accept (known x.replica.log + 1) i b c value d e in
      offered_as g.offers (known x.replica.log + 1) i b c value d q.instance q.ballot q.value p.offered

  accepts : (x : Draft) (T : SentMessage → Type 0) (g : Mid x T) (j : ℕ) (b : Ballot) (value : Decision) → ReceivesControl r input j (Control.P2a (instance x) b value) → (i : ℕ) (c : Ballot) (d : Decision) →
      Rec.Accept (instance x) b value ≡ Rec.Accept i c d → IsOffered g.offers i c d
  accepts x T g j b value h i c d e =
      let q = same_accept (instance x) i b c value d e in
      offered_as g.offers (instance x) i b c value d q.instance q.ballot q.value (offered_more held.offers g.offers g.before (instance x) b value (received_offer j (instance x) b value h))

  changed : (x y : Draft) (T : SentMessage → Type 0) → Change r input reading x y → Extends x.replica.log (later k) → Mid x T → Mid y T
  unfolding submit refuse await push_to_members push_to count_vote issued_at keep noting reply send take_frame receive owe ack pay owing again_frame forget_epoch
  changed x y T (Submits a c t i q p) ext g = plain x y T g _ refl refl refl refl (plain_of _ x.replica.log refl)
  changed x y T (Refuses a c why i q) ext g = quiet x y T g refl refl refl refl
  changed x y T (Commits e a q p) ext g = plain x y T g (Rec.Commit e.stamp) refl refl refl refl (plain_of _ x.replica.log refl)
  changed x y T Replies ext g = quiet x y T g (replies_still x).me (replies_still x).n (replies_still x).log (replies_coordinator x)
  changed x y T (Takes a j e seq (InEpoch.Prepare f) i o q p s d) ext g = plain x y T g (Rec.Prepare f) refl refl refl refl (plain_of _ x.replica.log refl)
  changed x y T (Takes a j e seq (InEpoch.PrepareOk s at) i o q p t d) ext g = quiet x y T g refl refl refl refl
  changed x y T (Takes a j e seq (InEpoch.ClockTime at) i o q p s d) ext g = quiet x y T g refl refl refl refl
  changed x y T (Acks j p) ext g = quiet x y T g refl refl refl refl
  changed x y T (IsAcked j up_to p q) ext g = quiet x y T g refl refl refl refl
  changed x y T (Pays s t a m p lt) ext g = quiet x y T g refl refl refl refl
  changed x y T (Owes ss a q) ext g = quiet x y T g refl refl refl refl
  changed x y T (SendsTime t a i p) ext g = quiet x y T g refl refl refl refl
  changed x y T (SendsAgain j f a m q) ext g = quiet x y T g refl refl refl refl
  changed x y T (SendsControl j c q) ext g = quiet x y T g (send_still c j x).me (send_still c j x).n (send_still c j x).log (send_coordinator c j x)
  changed x y T (Gathers a p i o) ext g = quiet x y T g refl refl refl refl
  changed x y T (Suspends q) ext g = plain x y T g (Rec.Suspend (known x.replica.log)) refl refl refl refl (plain_of _ x.replica.log refl)
  changed x y T (Collects ms asked q s) ext g = collects x y T g ms ext s refl
  changed x y T (TakesPage ms pages e after p q a m i s) ext g = noted x y T g refl refl refl (page_taken x T g ms pages e after p q a i s)
  changed x y T (Completes ms pages q m p) ext g = noted x y T g refl refl refl (completes x T g ms pages ext q m)
  changed x y T (Refrains d) ext g = noted x y T g refl refl refl tt
  changed x y T (GivesUp own seen q) ext g = noted x y T g refl refl refl tt
  changed x y T (Asks own seen b q by lt) ext g = asks x T g own seen b ext q by.0 lt
  changed x y T (CountsAnswer b own given a q i p) ext g = noted x y T g refl refl refl (counts x T g b own given a ext q i)
  changed x y T (Proposes b own given q p) ext g = proposes x T g b own given ext q p
  changed x y T (IsPreempted b own value acceptors top given q p) ext g = noted x y T g refl refl refl (preempted x T g b own value acceptors given q)
  changed x y T (AcceptsOwn b own value acceptors q p i j) ext g = kept x y T g (Rec.Accept (instance x) b value) refl refl refl refl (known_accept (instance x) b value x.replica.log)
      (accepts_own x T g b own value acceptors q) (λ d e. accept_decide (instance x) b value d e)
  changed x y T (CountsVote b own value acceptors j q p) ext g = noted x y T g refl refl refl (votes x T g b own value acceptors j ext q p)
  changed x y T (Promises j b q lt) ext g = kept x y T g (Rec.Promise (instance x) b) refl refl refl refl (known_promise (instance x) b x.replica.log)
      (λ i c d e. absurd (promise_accept (instance x) i b c d e)) (λ d e. promise_decide (instance x) b d e)
  changed x y T (Accepts j b d q i p l) ext g = kept x y T g (Rec.Accept (instance x) b d) refl refl refl refl (known_accept (instance x) b d x.replica.log)
      (accepts x T g j b d q) (λ c e. accept_decide (instance x) b d c e)
  changed x y T (Chooses b own d acceptors q p) ext g = learnt x y T g d refl refl refl refl (chooses x T g b own d acceptors ext q p)
  changed x y T (Learns j d q lt) ext g = learnt x y T g d refl refl refl refl (learns j d q)
  changed x y T (AdoptsTail d q i j) ext g = plain x y T g _ refl refl refl refl (plain_of _ x.replica.log refl)
  changed x y T (AdoptsPage j e from es q may lt) ext g = plain x y T g _ refl refl refl refl (plain_of _ x.replica.log refl)
  changed x y T (Enters q) ext g = plain x y T g (Rec.Enter (known x.replica.log)) refl refl refl refl (plain_of _ x.replica.log refl)

  pub along : {y : Draft} (p : Changes r input reading (begun r) y) → Extends y.replica.log (later k) → Mid (begun r) (λ s. ⊥) → Mid y (SendsIn p)
  along stay ext g = g
  along (and_then {y = y} {z = z} p c f) ext g =
      let before = extends_trans (change_grows y z (log_change r input reading y z c)) ext in
      changed y z (SendsIn (and_then p c f)) c before (sending y (SendsIn p) (along p before g))
