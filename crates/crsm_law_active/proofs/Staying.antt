-- A calm step leaves a replica in its epoch.
use Rattle.std.proofs.Common.{◌≡◌, ℕ, ◌+◌, ◌≤◌, List, [], ◌∷◌, ◌++◌, length, refl, sym, ◌∙◌, ap, subst, Bool, true, false, arith}
use Rattle.std.specs.Prelude.{◌≢◌, IsTrue, Option, Some, None, nat_lt}
use Rattle.std.proofs.lemmas.Bool.{ltb-true}
use Rattle.crsm_base.specs.MessageReading.{control_of}
use Rattle.crsm_base.specs.Order.{stamp_lt}
use Rattle.crsm_spec.specs.Choice.{when◌then◌otherwise◌}
use Rattle.crsm_spec.specs.Types.{Stamp, Entry, InEpoch, Datagram, Control, Decision}
use Rattle.crsm_spec.specs.Log.{known, decision, active, executed}
use Rattle.crsm_spec.specs.Parts.{Piece, with_part, whole_with}
use Rattle.crsm_spec.specs.Replica.{Replica, other_members}
use Rattle.crsm_spec.specs.Draft.{Draft, begun, keep, send, count_vote, send_control, send_decision, send_retrieve, retrieve}
use Rattle.crsm_spec.specs.Clients.{commits, replies}
use Rattle.crsm_spec.specs.Controls.{on_control, on_decide, on_retrieve, page_from}
use Rattle.crsm_spec.specs.Frames.{is_astray, is_odd_frame, on_frame, on_ack, take_frame, receive, owe, with_stamp, ack, send_again, owed_oks}
use Rattle.crsm_spec.specs.Step.{Input, if_fitting, on_whole_message, on_part, on_tick, on_datagram, on_input, idle_at, step}
use Rattle.crsm_fact_log.proofs.Tests.{not_astray}
use Rattle.crsm_law_epoch.proofs.CommitEffects.{taken_origin}
use Rattle.crsm_law_active.specs.Staying.{GrowsBy, IsEndOf, IsMild, IsCalmInput, StepsStay}
use Rattle.crsm_law_active.specs.Staying.GrowsBy.{same, entry}
use Rattle.crsm_law_active.proofs.Ending.{on_true, on_false, by_when, by_test, by_option, grows_then, end_self, ends_before, ends_log, pays_in}
use Rattle.crsm_law_active.proofs.Again.{all_sent}

-- what a rule leaves of r
pub record Hears (r : Replica) (x : Draft) : Type 0 where
  pub me : x.replica.me ≡ r.me
  pub n : x.replica.n ≡ r.n
  pub entries : List Entry
  pub log : GrowsBy r.me r.log entries x.replica.log
  pub taken : IsEndOf r.taken x.replica.taken
  pub acked : IsEndOf r.acked x.replica.acked
  pub issued : x.replica.issued ≡ r.issued
  pub owed : length x.replica.owed ≤ length r.owed + length entries
  pub waiting : x.replica.waiting ≡ r.waiting

-- a draft whose replica is r but for what it has gathered and told
pub record IsLike (r : Replica) (x : Draft) : Type 0 where
  pub me : x.replica.me ≡ r.me
  pub n : x.replica.n ≡ r.n
  pub log : x.replica.log ≡ r.log
  pub taken : x.replica.taken ≡ r.taken
  pub acked : x.replica.acked ≡ r.acked
  pub issued : x.replica.issued ≡ r.issued
  pub owed : x.replica.owed ≡ r.owed
  pub waiting : x.replica.waiting ≡ r.waiting

like_hears : (r : Replica) (x : Draft) → IsLike r x → Hears r x
like_hears r x l = record {
  me = l.me;
  n = l.n;
  entries = [];
  log = subst (GrowsBy r.me r.log []) (sym l.log) same;
  taken = ([], l.taken);
  acked = ([], l.acked);
  issued = l.issued;
  owed = subst (λ o. length o ≤ length r.owed + 0) (sym l.owed) (omega arith);
  waiting = l.waiting;
}

begun_like : (r : Replica) → IsLike r (begun r)
unfolding begun
begun_like r = record { me = refl; n = refl; log = refl; taken = refl; acked = refl; issued = refl; owed = refl; waiting = refl }

module _ (r : Replica) where
  control_like : (c : Control) (k : ℕ) (x : Draft) → IsLike r x → IsLike r (send_control c x k)
  unfolding send_control
  control_like c k x l = by_when (IsLike r) _ x _ l (record { me = l.me; n = l.n; log = l.log; taken = l.taken; acked = l.acked; issued = l.issued; owed = l.owed; waiting = l.waiting })

  decision_like : (k : ℕ) (x : Draft) → IsLike r x → IsLike r (send_decision k x)
  unfolding send_decision
  decision_like k x l = by_option (IsLike r) _ x (decision x.replica.log) (λ d e. control_like (Control.Decide d) k x l) l

  retrieve_like : (k : ℕ) (x : Draft) → IsLike r x → IsLike r (send_retrieve k x)
  unfolding send_retrieve
  retrieve_like k x l = control_like (retrieve x) k x l

  ack_like : (k : ℕ) (x : Draft) → IsLike r x → IsLike r (ack k x)
  unfolding ack send
  ack_like k x l = record { me = l.me; n = l.n; log = l.log; taken = l.taken; acked = l.acked; issued = l.issued; owed = l.owed; waiting = l.waiting }

  here : (begun r).replica ≡ r
  unfolding begun
  here = refl

  -- ---- frames

  stamps_more : (s : Stamp) (ss : List Stamp) → length (with_stamp s ss) ≡ length ss + 1
  unfolding with_stamp when◌then◌otherwise◌
  stamps_more s [] = refl
  stamps_more s (t ∷ ts) = go (stamp_lt s t) (stamps_more s ts)
    where
      go : (b : Bool) → length (with_stamp s ts) ≡ length ts + 1 → length (when b then s ∷ t ∷ ts otherwise t ∷ with_stamp s ts) ≡ length (t ∷ ts) + 1
      go true e = omega arith
      go false e = omega (arith, e)

  takes : (k : ℕ) (p : InEpoch) → k ≢ r.me → is_odd_frame r k p ≡ false → Hears r (take_frame k p (begun r))
  unfolding take_frame receive ack send keep count_vote owe begun
  takes k (InEpoch.Prepare g) ne odd = record {
    me = refl;
    n = refl;
    entries = g ∷ [];
    log = entry g (λ e. ne (sym (taken_origin r k g odd) ∙ e)) same;
    taken = (k ∷ [], refl);
    acked = end_self r.acked;
    issued = refl;
    owed = (let e = stamps_more g.stamp r.owed in omega (arith, e));
    waiting = refl;
  }
  takes k (InEpoch.PrepareOk s t) ne odd = record { me = refl; n = refl; entries = []; log = same; taken = (k ∷ [], refl); acked = end_self r.acked; issued = refl; owed = omega arith; waiting = refl }
  takes k (InEpoch.ClockTime t) ne odd = record { me = refl; n = refl; entries = []; log = same; taken = (k ∷ [], refl); acked = end_self r.acked; issued = refl; owed = omega arith; waiting = refl }

  frame_hears : (k e seq : ℕ) (p : InEpoch) → k ≢ r.me → Hears r (on_frame k e seq p (begun r))
  unfolding on_frame
  frame_hears k e seq p ne =
      let x = begun r in
      let l = begun_like r in
      by_when (Hears r) _ _ _ (like_hears r _ (decision_like k x l))
      (by_when (Hears r) _ _ _ (like_hears r _ (retrieve_like k x l))
      (by_when (Hears r) _ _ _ (like_hears r _ l)
      (by_when (Hears r) _ _ _ (like_hears r _ (ack_like k x l))
      (by_test (Hears r) (is_odd_frame x.replica k p) _ _ (like_hears r _ l) (λ odd. takes k p ne (subst (λ (q : Replica). is_odd_frame q k p ≡ false) here odd))))))

  ack_hears : (k e next : ℕ) → Hears r (on_ack k e next (begun r))
  unfolding on_ack begun
  ack_hears k e next = by_when (Hears r) _ _ _
      (record { me = refl; n = refl; entries = []; log = same; taken = end_self r.taken; acked = ((k, next) ∷ [], refl); issued = refl; owed = omega arith; waiting = refl })
      (like_hears r _ (record { me = refl; n = refl; log = refl; taken = refl; acked = refl; issued = refl; owed = refl; waiting = refl }))

  -- ---- parts

  decide_like : (k : ℕ) (d : Decision) (x : Draft) → d.epoch ≤ known r.log → IsLike r x → IsLike r (on_decide k d x)
  unfolding on_decide
  decide_like k d x le l = subst (IsLike r) (sym (on_false (nat_lt (known x.replica.log) d.epoch) _ x (old (nat_lt (known x.replica.log) d.epoch) refl))) l
    where
      old : (b : Bool) → nat_lt (known x.replica.log) d.epoch ≡ b → b ≡ false
      old false e = refl
      old true e = absurd (let lt = ltb-true (known x.replica.log) d.epoch e in let s = ap known l.log in omega (arith, lt, s, le))

  asked_like : (k e from : ℕ) (x : Draft) → IsLike r x → IsLike r (on_retrieve k e from x)
  unfolding on_retrieve
  asked_like k e from x l =
      let y = when nat_lt from (length (executed x.replica.log)) then send_control (page_from x.replica.log from) x k otherwise x in
      let ly : IsLike r y = by_when (IsLike r) (nat_lt from (length (executed x.replica.log))) _ x (control_like (page_from x.replica.log from) k x l) l in
      by_when (IsLike r) (nat_lt e (known x.replica.log)) _ _ (decision_like k x l) (by_when (IsLike r) (nat_lt (known x.replica.log) e) _ y (retrieve_like k y ly) ly)

  mild_like : (k : ℕ) (c : Control) (x : Draft) → IsMild (known r.log) c → IsLike r x → IsLike r (on_control k c x)
  unfolding on_control
  mild_like k (Control.Decide d) x mild l = decide_like k d x mild l
  mild_like k (Control.Retrieve e from) x mild l = asked_like k e from x l
  mild_like k (Control.Suspend e after) x mild l = absurd mild
  mild_like k (Control.SuspendOk e done last after whole es) x mild l = absurd mild
  mild_like k (Control.P1a i b) x mild l = absurd mild
  mild_like k (Control.P1b i b v) x mild l = absurd mild
  mild_like k (Control.P1no i b top) x mild l = absurd mild
  mild_like k (Control.P2a i b d) x mild l = absurd mild
  mild_like k (Control.P2b i b) x mild l = absurd mild
  mild_like k (Control.Page e from es) x mild l = absurd mild

  whole_like : (k : ℕ) (o : Option Control) (x : Draft) → ((c : Control) → o ≡ Some c → IsMild (known r.log) c) → IsLike r x → IsLike r (on_whole_message k o x)
  unfolding on_whole_message
  whole_like k None x mild l = l
  whole_like k (Some c) x mild l = mild_like k c x (mild c refl) l

  part_like : (p : Piece) → ((message : List ℕ) (c : Control) → whole_with p r.parts ≡ Some message → control_of message ≡ Some c → IsMild (known r.log) c) → IsLike r (on_part p (begun r))
  unfolding on_part if_fitting begun
  part_like p mild =
      let x = begun r in
      let y = record x { replica = record x.replica { parts = with_part p r.parts } } in
      let ly : IsLike r y = record { me = refl; n = refl; log = refl; taken = refl; acked = refl; issued = refl; owed = refl; waiting = refl } in
      by_option (IsLike r) _ y (whole_with p r.parts) (λ message e. by_when (IsLike r) _ _ y (whole_like p.from (control_of message) y (λ c q. mild message c e q) ly) ly) ly

  -- ---- the rule of the input

  tick_like : IsTrue (active r.log) → IsLike r (on_tick (begun r))
  unfolding on_tick send_again
  tick_like a =
      let x = begun r in
      let t = all_sent r (other_members x.replica) x here in
      subst (IsLike r) (sym (on_true (active x.replica.log) (send_again x) _ (subst (λ (q : Replica). IsTrue (active q.log)) (sym here) a))) (of_replica _ t.0)
    where
      of_replica : (y : Draft) → y.replica ≡ r → IsLike r y
      of_replica y e = record {
        me = ap (λ (q : Replica). q.me) e;
        n = ap (λ (q : Replica). q.n) e;
        log = ap (λ (q : Replica). q.log) e;
        taken = ap (λ (q : Replica). q.taken) e;
        acked = ap (λ (q : Replica). q.acked) e;
        issued = ap (λ (q : Replica). q.issued) e;
        owed = ap (λ (q : Replica). q.owed) e;
        waiting = ap (λ (q : Replica). q.waiting) e;
      }

  others_frame : (from to : ℕ) → is_astray (begun r).replica from to ≡ false → from ≢ r.me
  unfolding begun
  others_frame from to h = (not_astray r from to h).0

  input_hears : (input : Input) (reading : ℕ) → IsCalmInput r input → Hears r (on_input input reading (begun r))
  unfolding on_input on_datagram
  input_hears Input.Ticked reading calm = like_hears r _ (tick_like calm)
  input_hears (Input.Came a (Datagram.Frame from to e seq p)) reading calm =
      by_test (Hears r) (is_astray (begun r).replica from to) _ _ (like_hears r _ (begun_like r)) (λ near. frame_hears from e seq p (others_frame from to near))
  input_hears (Input.Came a (Datagram.Ack from to e next)) reading calm =
      by_when (Hears r) (is_astray (begun r).replica from to) _ _ (like_hears r _ (begun_like r)) (ack_hears from e next)
  input_hears (Input.Came a (Datagram.Part from to boot number index count bytes)) reading calm =
      by_when (Hears r) (is_astray (begun r).replica from to) _ _ (like_hears r _ (begun_like r))
      (like_hears r _ (part_like (record { from = from; boot = boot; number = number; index = index; count = count; bytes = bytes }) calm))
  input_hears (Input.Came a (Datagram.Request c)) reading calm = absurd calm
  input_hears (Input.Came a (Datagram.Reply client number told)) reading calm = absurd calm
  input_hears (Input.Came a (Datagram.Operate ms)) reading calm = absurd calm
  input_hears (Input.Suspected ms) reading calm = absurd calm

  -- what is there when debts are paid
  pub fitting_hears : (input : Input) (reading : ℕ) → IsCalmInput r input → Hears r (if_fitting (begun r) (on_input input reading (begun r)))
  unfolding if_fitting
  fitting_hears input reading calm = by_when (Hears r) _ _ (begun r) (input_hears input reading calm) (like_hears r _ (begun_like r))

pub steps_stay : StepsStay
unfolding step
steps_stay r input reading calm =
    let y = if_fitting (begun r) (on_input input reading (begun r)) in
    let h = fitting_hears r input reading calm in
    let z = idle_at input reading (owed_oks reading y) in
    let p = pays_in input reading y in
    let b = ends_before z in
    let out = replies (commits z) in
    let grown : GrowsBy r.me r.log h.entries z.replica.log = subst (GrowsBy r.me r.log h.entries) (sym p.log) h.log in
    let ended : GrowsBy r.me z.replica.log [] out.replica.log = subst (λ k. GrowsBy k z.replica.log [] out.replica.log) (p.me ∙ h.me) (ends_log z) in
    record {
      me = b.me ∙ p.me ∙ h.me;
      n = b.n ∙ p.n ∙ h.n;
      entries = h.entries;
      log = grows_then r.me grown ended;
      taken = (h.taken.0, b.taken ∙ p.taken ∙ h.taken.1);
      acked = (h.acked.0, b.acked ∙ p.acked ∙ h.acked.1);
      issued = (p.issued.0, b.issued ∙ p.issued.1 ∙ ap (λ l. p.issued.0 ++ l) h.issued);
      times = (let i = ap (λ (l : List ℕ). length l) b.issued in let o = ap (λ (l : List Stamp). length l) b.owed in let t = p.times in
          let w = h.owed in let e = ap (λ (l : List ℕ). length l) h.issued in omega (arith, i, o, t, w, e));
    }
