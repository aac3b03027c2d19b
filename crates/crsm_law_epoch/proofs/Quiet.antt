-- Changes at one seat that log no entry and send no new frame.
use Rattle.std.proofs.Common.{◌≡◌, ℕ, List, ◌∷◌, length, refl, sym, ◌∙◌, subst, inl, inr, Bool, true, false}
use Rattle.std.specs.Prelude.{◌⊎◌, IsTrue, Some, ◌||◌}
use Rattle.std.specs.List.{list_any}
use Rattle.std.proofs.lemmas.Bool.{cases_eq}
use Rattle.crsm_spec.specs.Types.{Stamp, Entry, Rec, InEpoch, Datagram}
use Rattle.crsm_spec.specs.Lists.{Among, first_of, has}
use Rattle.crsm_spec.specs.Log.{Log, known, members, executed, unexecuted, has_entered, is_enter}
use Rattle.crsm_fact_log.specs.Logs.{Extends, same, more, AllFit, Logged}
use Rattle.crsm_law_collection.specs.Collecting.{CommitOf}
use Rattle.crsm_law_epoch.specs.Seats.{Seat, Sender, Receiver, HasStamp, IsOther, Facts, logs_of}
use Rattle.crsm_law_epoch.proofs.Moved.{at, at_same, at_other, at_case, moved}

-- ---- one more record

-- the record is no Prepare
abbrev pub IsNoEntry : Rec → Type 0
IsNoEntry rec = (f : Entry) → rec ≡ Rec.Prepare f → ⊥

pub strip : (rec : Rec) (log : Log) (f : Entry) → IsNoEntry rec → Logged (rec ∷ log) f → Logged log f
strip rec log f no_entry (inl e) = absurd (no_entry f e)
strip rec log f no_entry (inr h) = h

pub or_right : (a b : Bool) → IsTrue b → (a || b) ≡ true
or_right true b h = refl
or_right false b h = h

pub entered_more : (x : ℕ) (rec : Rec) (log : Log) → IsTrue (has_entered x log) → IsTrue (has_entered x (rec ∷ log))
unfolding has_entered
entered_more x rec log h = or_right (is_enter x rec) (list_any (is_enter x) log) h

-- what was committed by the time of one more record
pub record IsNewCommit (e : ℕ) (log : Log) (rec : Rec) (p : ℕ) (x : Entry) : Type 0 where
  pub is : rec ≡ Rec.Commit x.stamp
  pub epoch : known log ≡ e
  pub next : first_of (unexecuted log) ≡ Some x
  pub place : length (executed log) ≡ p

commit_end : (e p : ℕ) (x : Entry) (log : Log) (rec : Rec) (old : Log) → Extends (Rec.Commit x.stamp ∷ old) (rec ∷ log) → known old ≡ e → first_of (unexecuted old) ≡ Some x → length (executed old) ≡ p →
    IsNewCommit e log rec p x ⊎ Extends (Rec.Commit x.stamp ∷ old) log
commit_end e p x log rec old same k f l = inl (record { is = refl; epoch = k; next = f; place = l })
commit_end e p x log rec old (more r h) k f l = inr h

module _ (k : ℕ) (v : ℕ → Seat) (s : Seat) (rec : Rec) (is : s.log ≡ rec ∷ (v k).log) where
  pub commit_cases : (e p : ℕ) (x : Entry) → CommitOf e (logs_of (at k s v)) p x → CommitOf e (logs_of v) p x ⊎ IsNewCommit e (v k).log rec p x
  commit_cases e p x c = elim (at_case 0 k v s (λ w. Extends (Rec.Commit x.stamp ∷ c.log) w.log) c.by c.kept) [
    | inl w ↦ elim (commit_end e p x (v k).log rec c.log (subst (Extends (Rec.Commit x.stamp ∷ c.log)) is w.1) c.epoch c.next c.place_is) [
      | inl new ↦ inr new
      | inr old ↦ inl (record { by = k; log = c.log; kept = old; epoch = c.epoch; next = c.next; place_is = c.place_is })
    ]
    | inr w ↦ inl (record { by = c.by; log = c.log; kept = w.1; epoch = c.epoch; next = c.next; place_is = c.place_is })
  ]

  -- and a commit stays one
  pub commit_stays : (e p : ℕ) (x : Entry) → CommitOf e (logs_of v) p x → CommitOf e (logs_of (at k s v)) p x
  commit_stays e p x c = record {
    by = c.by;
    log = c.log;
    epoch = c.epoch;
    next = c.next;
    place_is = c.place_is;
    kept = elim (cases_eq c.by k) [
      | inl b ↦ subst (λ j. Extends (Rec.Commit x.stamp ∷ c.log) (at k s v j).log) (sym b)
          (subst (λ w. Extends (Rec.Commit x.stamp ∷ c.log) w.log) (sym (at_same 0 k v s))
          (subst (Extends (Rec.Commit x.stamp ∷ c.log)) (sym is) (more rec (subst (λ j. Extends (Rec.Commit x.stamp ∷ c.log) (v j).log) b c.kept))))
      | inr ne ↦ subst (λ w. Extends (Rec.Commit x.stamp ∷ c.log) w.log) (sym (at_other 0 k v s c.by ne)) c.kept
    ];
  }

-- where the log stays, so do the commits
pub commit_same : (k : ℕ) (v : ℕ → Seat) (s : Seat) → s.log ≡ (v k).log → (e p : ℕ) (x : Entry) → CommitOf e (logs_of (at k s v)) p x → CommitOf e (logs_of v) p x
commit_same k v s is e p x c = record {
  by = c.by;
  log = c.log;
  epoch = c.epoch;
  next = c.next;
  place_is = c.place_is;
  kept = elim (at_case 0 k v s (λ w. Extends (Rec.Commit x.stamp ∷ c.log) w.log) c.by c.kept) [
    | inl w ↦ subst (λ j. Extends (Rec.Commit x.stamp ∷ c.log) (v j).log) (sym w.0) (subst (Extends (Rec.Commit x.stamp ∷ c.log)) is w.1)
    | inr w ↦ w.1
  ];
}

-- ---- nothing is logged, nothing new is sent

module _ (n k : ℕ) (v : ℕ → Seat) (all after : List Datagram) (s : Seat) (i : Facts n v all) (keep_all : (d : Datagram) → Among all d → Among after d)
    (back : (m j e x : ℕ) (p : InEpoch) → Among after (Datagram.Frame m j e x p) → Among all (Datagram.Frame m j e x p)) where
  pub quiet : AllFit k n s.log → ((f : Entry) → Logged (v k).log f → Logged s.log f) → ((f : Entry) → Logged s.log f → Logged (v k).log f) →
      ((x : ℕ) → IsTrue (has_entered x (v k).log) → IsTrue (has_entered x s.log)) →
      (IsTrue s.running → Sender n k s after) → (IsTrue s.running → Receiver k s (logs_of (at k s v)) after) → Facts n (at k s v) after
  quiet fit keeps lose grows sends takes = moved n k v all s after i (record {
    fit = fit;
    keeps = keeps;
    source = λ f h. inr (i.own k f (lose f h));
    one = λ f g a b. i.one k f g (lose f a) (lose g b);
    more = keep_all;
    frames = λ m j e x p h. inl (back m j e x p h);
    says = λ j e x f h. let t = i.says k j e x f (back k j e x _ h) in (keeps f t.0, t.1, t.2);
    says_ok = λ j e x t u h. let w = i.says_ok k j e x t u (back k j e x _ h) in (w.0, keeps w.0 w.1, w.2, w.3);
    same = λ j e x p q g h. i.same k j e x p q (back k j e x p g) (back k j e x q h);
    low = λ j e x p y h lt. let t = i.low k j e x p y (back k j e x p h) lt in (t.0, keep_all _ t.1);
    first = λ f j x p g o h le. let t = i.first k f j x p (lose f g) o (back k j f.epoch x p h) le in (t.0, t.1, keep_all _ t.2);
    entered = λ j e x p h. grows e (i.entered k j e x p (back k j e x p h));
    stamped = λ f g o. grows f.epoch (i.stamped k f (lose f g) o);
    sender = sends;
    receiver = takes;
  })

  -- a seat that does not run
  pub stopped : AllFit k n s.log → ((f : Entry) → Logged (v k).log f → Logged s.log f) → ((f : Entry) → Logged s.log f → Logged (v k).log f) →
      ((x : ℕ) → IsTrue (has_entered x (v k).log) → IsTrue (has_entered x s.log)) → (IsTrue s.running → ⊥) → Facts n (at k s v) after
  stopped fit keeps lose grows off = quiet fit keeps lose grows (λ r. absurd (off r)) (λ r. absurd (off r))

-- ---- a running seat whose log gets a record

module _ (n k : ℕ) (s : Seat) (all : List Datagram) (log : Log) (known_is : known log ≡ known s.log) (members_are : members n log ≡ members n s.log)
    (keeps : (f : Entry) → Logged s.log f → Logged log f) (lose : (f : Entry) → Logged log f → Logged s.log f) where
  abbrev pub with_log : Seat
  with_log = record { log = log; running = s.running; issued = s.issued; received = s.received; votes = s.votes; owed = s.owed; pushed = s.pushed; taken = s.taken }

  peer : (j : ℕ) → IsOther n k log j → IsOther n k s.log j
  peer j h = (subst (λ ms. IsTrue (has ms j)) members_are h.0, h.1)

  pub sends_on : Sender n k s all → Sender n k with_log all
  sends_on o = record {
    own = λ f h w e. o.own f (lose f h) w (e ∙ known_is);
    top = o.top;
    told = λ f h w e j q. o.told f (lose f h) w (e ∙ known_is) j (peer j q);
    rising = o.rising;
    times = o.times;
    peers = λ j x p h. let t = o.peers j x p h in (subst (λ ms. IsTrue (has ms j)) (sym members_are) t.0, t.1);
    only = λ j x p h. o.only j x p (subst (λ e. Among all (Datagram.Frame k j e x p)) known_is h);
    sent = λ j x p h. subst (λ e. Among all (Datagram.Frame k j e x p)) (sym known_is) (o.sent j x p h);
  }

  pub takes_on : (logs later : ℕ → Log) → ((e j : ℕ) (t : Stamp) → HasStamp logs e j t → HasStamp later e j t) → Receiver k s logs all → Receiver k with_log later all
  takes_on logs later stays o = record {
    has_it = λ m x f lt h. keeps f (o.has_it m x f lt (subst (λ e. Among all (Datagram.Frame m k e x (InEpoch.Prepare f))) known_is h));
    came = λ m x lt. let c = o.came m x lt in (c.0, subst (λ e. Among all (Datagram.Frame m k e x c.0)) (sym known_is) c.1);
    times = λ m t h. let c = o.times m t h in (c.0, c.1, c.2, subst (λ e. Among all (Datagram.Frame m k e c.0 c.1)) (sym known_is) c.3, c.4);
    others = o.others;
    votes = λ t j h. stays (known log) j t (subst (λ e. HasStamp logs e j t) (sym known_is) (o.votes t j h));
    owed = λ t h. let w = o.owed t h in (w.0, keeps w.0 w.1, w.2 ∙ sym known_is, w.3);
  }
