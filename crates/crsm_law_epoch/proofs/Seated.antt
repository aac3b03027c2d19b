-- Changes of a draft that log no entry, each kind once.
use Rattle.std.proofs.Common.{◌≡◌, ℕ, List, [], ◌∷◌, ◌++◌, refl, sym, ◌∙◌, ap, subst, inl, inr, false, arith, map}
use Rattle.std.specs.Prelude.{IsTrue, Some, slice_get}
use Rattle.std.proofs.lemmas.Bool.{false≢true}
use Rattle.std.proofs.lemmas.Option.{none-some}
use Rattle.std.proofs.lemmas.List.{append-nil}
use Rattle.crsm_spec.specs.Types.{Stamp, Entry, Rec, InEpoch, Datagram}
use Rattle.crsm_spec.specs.Lists.{Among}
use Rattle.crsm_spec.specs.Log.{Log, known, members, active, has_entered, decision}
use Rattle.crsm_spec.specs.Draft.{Draft}
use Rattle.crsm_fact_log.specs.Logs.{AllFit, Logged}
use Rattle.crsm_law_epoch.specs.Seats.{Seat, seat_up, Sender, Receiver, HasStamp, logs_of, pushed_to, taken_of}
use Rattle.crsm_law_epoch.proofs.Moved.{at, at_same, at_other, at_all}
use Rattle.crsm_law_epoch.proofs.Quiet.{IsNoEntry, strip, entered_more, sends_on, takes_on}
use Rattle.crsm_law_epoch.proofs.Drafts.{Good, outs, all_more, all_back, good_quiet, sender_of, receiver_of, fit_of, seat_fact, sender_more, receiver_more}

module _ (n k : ℕ) (v : ℕ → Seat) (sent : List Datagram) where
  abbrev G : Draft → Type 0
  G x = Good n k v sent x

  -- no new frame is among the datagrams
  abbrev pub Olds : Draft → List (ℕ × Datagram) → Type 0
  Olds x ds = (m j e i : ℕ) (p : InEpoch) → Among (map (λ s. s.1) ds) (Datagram.Frame m j e i p) → (m ≡ k) × Among (sent ++ outs x) (Datagram.Frame m j e i p)

  -- the seat stays
  pub good_same : (x y : Draft) (ds : List (ℕ × Datagram)) → G x → y.replica.me ≡ x.replica.me → y.replica.n ≡ x.replica.n → y.sends ≡ x.sends ++ ds → Olds x ds →
      seat_up x.replica ≡ seat_up y.replica → G y
  unfolding seat_up
  good_same x y ds g me size es old seat =
      let logs : x.replica.log ≡ y.replica.log = ap (λ s. s.log) seat in
      let more = all_more n k v sent x y ds es in
      let back = all_back n k v sent x y ds es (λ m j e i p h. (old m j e i p h).1) in
      good_quiet n k v sent x y ds g me size es old (subst (AllFit k n) logs (fit_of n k v sent x g)) (λ f h. subst (λ l. Logged l f) logs h) (λ f h. subst (λ l. Logged l f) (sym logs) h)
      (λ e h. subst (λ l. IsTrue (has_entered e l)) logs h)
      (λ a. sender_more n k v sent (seat_up y.replica) (sent ++ outs x) (sent ++ outs y) more back (subst (λ s. Sender n k s (sent ++ outs x)) seat (sender_of n k v sent x g (subst (λ l. IsTrue (active l)) (sym logs) a))))
      (λ a. receiver_more n k v sent (seat_up y.replica) (logs_of (at k (seat_up y.replica) v)) (sent ++ outs x) (sent ++ outs y) more back
      (subst (λ s. Receiver k s (logs_of (at k s v)) (sent ++ outs x)) seat (receiver_of n k v sent x g (subst (λ l. IsTrue (active l)) (sym logs) a))))

  -- fewer stamps are owed
  pub good_owed : (x y : Draft) → G x → y.replica.me ≡ x.replica.me → y.replica.n ≡ x.replica.n → y.sends ≡ x.sends → y.replica.log ≡ x.replica.log → y.replica.issued ≡ x.replica.issued → y.replica.received ≡ x.replica.received →
      y.replica.votes ≡ x.replica.votes → y.replica.pushed ≡ x.replica.pushed → y.replica.taken ≡ x.replica.taken → ((s : Stamp) → Among y.replica.owed s → Among x.replica.owed s) → G y
  unfolding seat_up
  good_owed x y g me size es log issued received votes pushed taken owed =
      let u = seat_up x.replica in
      let s = seat_up y.replica in
      let eo : outs y ≡ outs x = ap (map (λ s. s.1)) es in
      good_quiet n k v sent x y [] g me size (es ∙ sym (append-nil x.sends)) (λ m j e i p h. absurd h) (subst (AllFit k n) (sym log) (fit_of n k v sent x g)) (λ f h. subst (λ l. Logged l f) (sym log) h) (λ f h. subst (λ l. Logged l f) log h)
      (λ e h. subst (λ l. IsTrue (has_entered e l)) (sym log) h)
      (λ a. subst (λ l. Sender n k s (sent ++ l)) (sym eo) (sends (sender_of n k v sent x g (subst (λ l. IsTrue (active l)) log a))))
      (λ a. subst (λ l. Receiver k s (logs_of (at k s v)) (sent ++ l)) (sym eo) (takes (receiver_of n k v sent x g (subst (λ l. IsTrue (active l)) log a))))
    where
      seat : Seat
      seat = record { log = x.replica.log; running = active x.replica.log; issued = x.replica.issued; received = x.replica.received; votes = x.replica.votes; owed = y.replica.owed; pushed = x.replica.pushed; taken = x.replica.taken }

      is : seat ≡ seat_up y.replica
      is = cc

      sends : Sender n k (seat_up x.replica) (sent ++ outs x) → Sender n k (seat_up y.replica) (sent ++ outs x)
      sends o = subst (λ s. Sender n k s (sent ++ outs x)) is (record { own = o.own; top = o.top; told = o.told; rising = o.rising; times = o.times; peers = o.peers; only = o.only; sent = o.sent })

      there : (e j : ℕ) (t : Stamp) → HasStamp (logs_of (at k (seat_up x.replica) v)) e j t → HasStamp (logs_of (at k seat v)) e j t
      there e j t h = (
        h.0,
        at_all n k v seat (λ i w. Logged (at k (seat_up x.replica) v i).log h.0 → Logged w.log h.0)
            (λ q. subst (λ w. Logged w.log h.0) (at_same n k v (seat_up x.replica)) q) (λ i ne q. subst (λ w. Logged w.log h.0) (at_other n k v (seat_up x.replica) i ne) q) j h.1,
        h.2,
        h.3,
      )

      takes : Receiver k (seat_up x.replica) (logs_of (at k (seat_up x.replica) v)) (sent ++ outs x) → Receiver k (seat_up y.replica) (logs_of (at k (seat_up y.replica) v)) (sent ++ outs x)
      takes o = subst (λ s. Receiver k s (logs_of (at k s v)) (sent ++ outs x)) is (record {
        has_it = o.has_it;
        came = o.came;
        times = o.times;
        others = o.others;
        votes = λ t j h. there (known x.replica.log) j t (o.votes t j h);
        owed = λ t h. o.owed t (owed t h);
      })

  -- a record that is no entry, and the replica goes on in the epoch
  pub good_record : (rec : Rec) (x y : Draft) → G x → y.replica.me ≡ x.replica.me → y.replica.n ≡ x.replica.n → y.sends ≡ x.sends → IsNoEntry rec → y.replica.log ≡ rec ∷ x.replica.log → AllFit k n y.replica.log →
      known (rec ∷ x.replica.log) ≡ known x.replica.log → members n (rec ∷ x.replica.log) ≡ members n x.replica.log → active (rec ∷ x.replica.log) ≡ active x.replica.log →
      y.replica.issued ≡ x.replica.issued → y.replica.received ≡ x.replica.received → y.replica.votes ≡ x.replica.votes → y.replica.owed ≡ x.replica.owed → y.replica.pushed ≡ x.replica.pushed → y.replica.taken ≡ x.replica.taken → G y
  unfolding seat_up
  good_record rec x y g me size es no_entry log fit ks ms act issued received votes owed pushed taken =
      good_quiet n k v sent x y [] g me size (es ∙ sym (append-nil x.sends)) (λ m j e i p h. absurd h) fit (λ f h. subst (λ l. Logged l f) (sym log) (inr h)) (λ f h. strip rec x.replica.log f no_entry (subst (λ l. Logged l f) log h))
      (λ e h. subst (λ l. IsTrue (has_entered e l)) (sym log) (entered_more e rec x.replica.log h))
      (λ a. sends (sender_of n k v sent x g (was a))) (λ a. takes (receiver_of n k v sent x g (was a)))
    where
      l' : Log
      l' = rec ∷ x.replica.log

      u : Seat
      u = seat_up x.replica

      seat : Seat
      seat = record { log = l'; running = active x.replica.log; issued = x.replica.issued; received = x.replica.received; votes = x.replica.votes; owed = x.replica.owed; pushed = x.replica.pushed; taken = x.replica.taken }

      runs_same : active y.replica.log ≡ active x.replica.log
      runs_same = ap active log ∙ act

      is : seat ≡ seat_up y.replica
      is = cc

      was : IsTrue (active y.replica.log) → IsTrue (active x.replica.log)
      was a = sym runs_same ∙ a

      eo : outs y ≡ outs x
      eo = ap (map (λ s. s.1)) es

      sends : Sender n k (seat_up x.replica) (sent ++ outs x) → Sender n k (seat_up y.replica) (sent ++ outs y)
      sends o = subst (λ l. Sender n k (seat_up y.replica) (sent ++ l)) (sym eo) (subst (λ s. Sender n k s (sent ++ outs x)) is (sends_on n k u (sent ++ outs x) l' ks ms (λ f h. inr h) (λ f h. strip rec x.replica.log f no_entry h) o))

      there : (e j : ℕ) (t : Stamp) → HasStamp (logs_of (at k u v)) e j t → HasStamp (logs_of (at k seat v)) e j t
      there e j t h = (
        h.0,
        at_all n k v seat (λ i w. Logged (at k u v i).log h.0 → Logged w.log h.0)
            (λ q. inr (subst (λ w. Logged w.log h.0) (at_same n k v u) q)) (λ i ne q. subst (λ w. Logged w.log h.0) (at_other n k v u i ne) q) j h.1,
        h.2,
        h.3,
      )

      takes : Receiver k (seat_up x.replica) (logs_of (at k u v)) (sent ++ outs x) → Receiver k (seat_up y.replica) (logs_of (at k (seat_up y.replica) v)) (sent ++ outs y)
      takes o = subst (λ l. Receiver k (seat_up y.replica) (logs_of (at k (seat_up y.replica) v)) (sent ++ l)) (sym eo) (subst (λ s. Receiver k s (logs_of (at k s v)) (sent ++ outs x)) is
          (takes_on n k u (sent ++ outs x) l' ks ms (λ f h. inr h) (λ f h. strip rec x.replica.log f no_entry h) (logs_of (at k u v)) (logs_of (at k seat v)) there o))

  -- a record that is no entry, and the replica does not run behind it
  pub good_off : (rec : Rec) (x y : Draft) → G x → y.replica.me ≡ x.replica.me → y.replica.n ≡ x.replica.n → y.sends ≡ x.sends → IsNoEntry rec → y.replica.log ≡ rec ∷ x.replica.log → AllFit k n y.replica.log → active (rec ∷ x.replica.log) ≡ false → G y
  good_off rec x y g me size es no_entry log fit off =
      good_quiet n k v sent x y [] g me size (es ∙ sym (append-nil x.sends)) (λ m j e i p h. absurd h) fit (λ f h. subst (λ l. Logged l f) (sym log) (inr h)) (λ f h. strip rec x.replica.log f no_entry (subst (λ l. Logged l f) log h))
      (λ e h. subst (λ l. IsTrue (has_entered e l)) (sym log) (entered_more e rec x.replica.log h))
      (λ a. absurd (false≢true (sym off ∙ sym (ap active log) ∙ a))) (λ a. absurd (false≢true (sym off ∙ sym (ap active log) ∙ a)))

  none_taken : (m : ℕ) → taken_of m [] ≡ 0
  unfolding taken_of
  none_taken m = refl

  none_pushed : (j : ℕ) → pushed_to j [] ≡ []
  unfolding pushed_to
  none_pushed j = refl

  no_get : (j i : ℕ) (p : InEpoch) → slice_get (pushed_to j []) i ≡ Some p → ⊥
  no_get j i p h = none-some p (subst (λ l. slice_get l i ≡ Some p) (none_pushed j) h)

  -- the known epoch is entered: nothing was stamped or sent in it
  pub good_enter : (x y : Draft) → G x → y.replica.me ≡ x.replica.me → y.replica.n ≡ x.replica.n → y.sends ≡ x.sends → y.replica.log ≡ Rec.Enter (known x.replica.log) ∷ x.replica.log → AllFit k n y.replica.log →
      has_entered (known x.replica.log) x.replica.log ≡ false → y.replica.issued ≡ [] → y.replica.received ≡ [] → y.replica.votes ≡ [] → y.replica.owed ≡ [] → y.replica.pushed ≡ [] → y.replica.taken ≡ [] → G y
  unfolding seat_up known decision
  good_enter x y g me size es log fit new issued received votes owed pushed taken =
      good_quiet n k v sent x y [] g me size (es ∙ sym (append-nil x.sends)) (λ m j e i p h. absurd h) fit (λ f h. subst (λ l. Logged l f) (sym log) (inr h)) (λ f h. strip rec x.replica.log f (λ f q. absurd (cc)) (subst (λ l. Logged l f) log h))
      (λ e h. subst (λ l. IsTrue (has_entered e l)) (sym log) (entered_more e rec x.replica.log h))
      (λ a. subst (λ s. Sender n k s (sent ++ outs y)) is sends) (λ a. subst (λ s. Receiver k s (logs_of (at k (seat_up y.replica) v)) (sent ++ outs y)) is takes)
    where
      rec : Rec
      rec = Rec.Enter (known x.replica.log)

      l' : Log
      l' = rec ∷ x.replica.log

      seat : Seat
      seat = record { log = l'; running = active y.replica.log; issued = []; received = []; votes = []; owed = []; pushed = []; taken = [] }

      is : seat ≡ seat_up y.replica
      is = cc

      eo : outs y ≡ outs x
      eo = ap (map (λ s. s.1)) es

      u : Seat
      u = seat_up x.replica

      no_frame : (j i : ℕ) (p : InEpoch) → Among (sent ++ outs y) (Datagram.Frame k j (known l') i p) → ⊥
      no_frame j i p h = false≢true (sym new ∙ seat_fact n k v sent x (λ s. IsTrue (has_entered (known x.replica.log) s.log)) (g.facts.entered k j (known x.replica.log) i p (subst (λ l. Among (sent ++ l) (Datagram.Frame k j (known x.replica.log) i p)) eo h)))

      no_own : (f : Entry) → Logged l' f → f.stamp.origin ≡ k → f.epoch ≡ known l' → ⊥
      no_own f (inl q) o e = absurd (cc)
      no_own f (inr h) o e = false≢true (sym new ∙ subst (λ z. IsTrue (has_entered z x.replica.log)) e
          (seat_fact n k v sent x (λ s. IsTrue (has_entered f.epoch s.log)) (g.facts.stamped k f (subst (λ s. Logged s.log f) (sym (at_same n k v u)) h) o)))

      sends : Sender n k seat (sent ++ outs y)
      sends = record {
        own = λ f h o e. absurd (no_own f h o e);
        top = tt;
        told = λ f h o e j q. absurd (no_own f h o e);
        rising = λ j i i' p q a b le. absurd (no_get j i p a);
        times = λ j i p a. absurd (no_get j i p a);
        peers = λ j i p a. absurd (no_get j i p a);
        only = λ j i p h. absurd (no_frame j i p h);
        sent = λ j i p a. absurd (no_get j i p a);
      }

      takes : Receiver k seat (logs_of (at k (seat_up y.replica) v)) (sent ++ outs y)
      takes = record {
        has_it = λ m i f lt h. absurd (omega (arith, none_taken m));
        came = λ m i lt. absurd (omega (arith, none_taken m));
        times = λ m t h. absurd h;
        others = λ m t h. absurd h;
        votes = λ t j h. absurd h;
        owed = λ t h. absurd h;
      }
