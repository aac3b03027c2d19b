-- After a step the clients that wait are those from before and those whose requests it logged, and each is answered
-- once.
use Rattle.std.proofs.Common.{◌≡◌, ℕ, ◌+◌, ◌≤◌, List, [], ◌∷◌, ◌++◌, length, take, refl, sym, ◌∙◌, ap, subst, inl, inr, Bool, true, false, arith}
use Rattle.std.specs.Prelude.{◌⊎◌, ◌==◌, ◌&&◌, nat_le, nat_lt, IsTrue, Option, Some, None, slice_get}
use Rattle.std.proofs.lemmas.Bool.{and_parts, eqb-true, eq-eqb, leb-true, ltb-true, false≢true, cases_lt}
use Rattle.crsm_base.specs.Order.{stamp_eq}
use Rattle.crsm_base.specs.Spelling.{refusal_number}
use Rattle.crsm_base.specs.Store.{answer_after}
use Rattle.crsm_spec.specs.Choice.{when◌then◌otherwise◌}
use Rattle.crsm_spec.specs.Types.{Stamp, Entry, Command, Refusal, Outcome, Rec, Datagram, Line}
use Rattle.crsm_spec.specs.Lists.{Among}
use Rattle.crsm_spec.specs.Log.{Log, known, start, executed}
use Rattle.crsm_spec.specs.Replica.{Replica, Waiting}
use Rattle.crsm_spec.specs.Draft.{Draft, Reply, begun, keep, reply, count_vote, issued_at, push_to, push_to_members}
use Rattle.crsm_spec.specs.Clients.{submit, await, refuse, replies, answer_each, answer_found, reply_ok, reply_dropped, find_executed, is_dropped}
use Rattle.crsm_spec.specs.Step.{Input, step}
use Rattle.crsm_fact_log.specs.Logs.{same, Logged}
use Rattle.crsm_fact_log.proofs.Lists.{among_right, among_either}
use Rattle.crsm_fact_log.proofs.Sorted.{eq_self}
use Rattle.crsm_fact_log.proofs.Tests.{same_stamp}
use Rattle.crsm_fact_step.specs.Changes.{Changes, stay, and_then}
use Rattle.crsm_fact_step.proofs.Fitted.{step_changes}
use Rattle.crsm_law_agreement.proofs.Coordinators.{extends_among}
use Rattle.crsm_law_runs.proofs.Drafts.{find_at, find_none}
use Rattle.crsm_law_cluster.proofs.Effects.{Effect, effect}
use Rattle.crsm_law_cluster.proofs.Effects.Effect.{Submitted, Refused, Answered, Quiet}
use Rattle.crsm_law_cluster.proofs.Logging.{HasKey, key_later, fits_new, the_entry, Goes, is_stamped, goes, changes_log}
use Rattle.crsm_law_cluster.proofs.Replying.{IsDropped, IsOn, Told, told_then, told_later, count, count_none, count_then, count_one, count_is}
use Rattle.crsm_law_cluster.proofs.Replying.IsLineOn.{Answers, Drops}
use Rattle.crsm_law_cluster.proofs.Replying.Told.{nothing, refuses, answers}

is_found : (f : Waiting) (log : Log) (p : ℕ × Entry) → find_executed (executed log) f.entry ≡ Some p →
    (slice_get (executed log) p.0 ≡ Some p.1) × (p.1.epoch ≡ f.entry.epoch) × (p.1.stamp ≡ f.entry.stamp)
unfolding find_executed
is_found f log p h =
    let t = find_at (λ q. q.1.epoch == f.entry.epoch && stamp_eq q.1.stamp f.entry.stamp) 0 (executed log) p h in
    let b = and_parts (p.1.epoch == f.entry.epoch) (stamp_eq p.1.stamp f.entry.stamp) t.3 in
    let is = t.1 in
    let place : t.0 ≡ p.0 = omega (arith, is) in
    (subst (λ j. slice_get (executed log) j ≡ Some p.1) place t.2, eqb-true p.1.epoch f.entry.epoch b.0, same_stamp p.1.stamp f.entry.stamp b.1)

dropped_here : (r : Replica) (e : Entry) → IsTrue (is_dropped r e) → find_executed (executed r.log) e ≡ None → IsDropped r.log e
unfolding is_dropped find_executed
dropped_here r e h none =
    let t = and_parts (nat_le (start r.log) (length (executed r.log))) (nat_lt e.epoch (known r.log)) h in
    record {
      begun = leb-true _ _ t.0;
      later = ltb-true _ _ t.1;
      none = λ p f at ep st.
          let u = find_none (λ q. q.1.epoch == e.epoch && stamp_eq q.1.stamp e.stamp) 0 (executed r.log) none p f at in
          false≢true (sym u.1 ∙ both (f.epoch == e.epoch) (stamp_eq f.stamp e.stamp) (eq-eqb f.epoch e.epoch ep) (subst (λ z. IsTrue (stamp_eq f.stamp z)) st (eq_self f.stamp)));
    }
  where
    both : (a b : Bool) → a ≡ true → b ≡ true → (a && b) ≡ true
    both true b i j = j
    both false b i j = i

-- who waits after a submission, and what it keeps of before
record IsAwaited (a : ℕ) (c : Command) (t : ℕ) (x : Draft) : Type 0 where
  waiting : (submit a c t x).replica.waiting ≡ x.replica.waiting ++ record { address = a; entry = the_entry c t x } ∷ []
  replies : (submit a c t x).replies ≡ x.replies

is_awaited : (a : ℕ) (c : Command) (t : ℕ) (x : Draft) → IsAwaited a c t x
unfolding submit await push_to_members push_to count_vote issued_at keep
is_awaited a c t x = record { waiting = refl; replies = refl }

module _ (r : Replica) (Req : ℕ → Command → Type 0) (epoch : ℕ) (stamp : Stamp) (before most : ℕ) where
  -- the client waited before the step, or its request came now
  abbrev pub From : Draft → Waiting → Type 0
  From x f = Among r.waiting f ⊎ (Req f.address f.entry.command × Among x.batch (Rec.Prepare f.entry) × (f.entry.stamp.origin ≡ r.me))

  abbrev pub Waits : Draft → Waiting → Type 0
  Waits x f = From x f × Logged x.replica.log f.entry

  -- An upper bound of the replies for the entry of the key plus the clients that wait for it there; the entry is logged
  -- if the bound is reached. The other clients are still to be counted.
  pub record Balanced (x : Draft) (rest : List Waiting) : Type 0 where
    pub on : List Waiting
    pub told : Told Req x.replica.log x.replies on
    pub answered : (f : Waiting) → Among on f → Waits x f
    pub waits : (f : Waiting) → Among x.replica.waiting f → Waits x f
    pub others : (f : Waiting) → Among rest f → Waits x f
    pub few : before + (count epoch stamp on + (count epoch stamp x.replica.waiting + count epoch stamp rest)) ≤ most
    pub full : most ≤ before + (count epoch stamp on + (count epoch stamp x.replica.waiting + count epoch stamp rest)) → HasKey x.replica.log epoch stamp

  waits_later : (x y : Draft) → Goes x y → (f : Waiting) → Waits x f → Waits y f
  waits_later x y g f (inl a, l) = (inl a, extends_among g.grows (Rec.Prepare f.entry) l)
  waits_later x y g f (inr a, l) = (inr (a.0, g.batch (Rec.Prepare f.entry) a.1, a.2), extends_among g.grows (Rec.Prepare f.entry) l)

  -- nothing is new but records
  still : (x y : Draft) → Goes x y → y.replies ≡ x.replies → y.replica.waiting ≡ x.replica.waiting → Balanced x [] → Balanced y []
  still x y g rs ws h = record {
    on = h.on;
    told = subst (λ us. Told Req y.replica.log us h.on) (sym rs) (told_later g.grows h.told);
    answered = λ f a. waits_later x y g f (h.answered f a);
    waits = λ f a. waits_later x y g f (h.waits f (subst (λ l. Among l f) ws a));
    others = λ f a. absurd a;
    few = subst (λ l. before + (count epoch stamp h.on + (count epoch stamp l + count epoch stamp [])) ≤ most) (sym ws) h.few;
    full = λ le. key_later g.grows epoch stamp (h.full (subst (λ l. most ≤ before + (count epoch stamp h.on + (count epoch stamp l + count epoch stamp []))) ws le));
  }

  -- ---- a submission

  submits : (a : ℕ) (c : Command) (t : ℕ) (x : Draft) → x.replica.me ≡ r.me → Req a c → IsTrue (submit a c t x).fitting → Goes x (submit a c t x) → Balanced x [] → Balanced (submit a c t x) []
  submits a c t x me asked f g h =
      let y = submit a c t x in
      let e = the_entry c t x in
      let w : Waiting = record { address = a; entry = e } in
      let is = is_awaited a c t x in
      let s = is_stamped a c t x in
      let logged : Logged y.replica.log e = subst (λ l. Logged l e) (sym s.log) (inl refl) in
      let many : count epoch stamp y.replica.waiting ≡ count epoch stamp x.replica.waiting + count epoch stamp (w ∷ []) = ap (count epoch stamp) is.waiting ∙ count_then epoch stamp x.replica.waiting (w ∷ []) in
      let fresh = fits_new x.replica.me x.replica.n x.replica.log e (and_parts x.fitting _ (sym s.fitting ∙ f)).1 in
      record {
        on = h.on;
        told = subst (λ us. Told Req y.replica.log us h.on) (sym is.replies) (told_later g.grows h.told);
        answered = λ f b. waits_later x y g f (h.answered f b);
        waits = λ f b. elim (among_either x.replica.waiting (w ∷ []) f (subst (λ l. Among l f) is.waiting b)) [
          | inl o ↦ waits_later x y g f (h.waits f o)
          | inr o ↦ elim o [ inl q ↦ subst (Waits y) q (inr (asked, subst (λ l. Among l (Rec.Prepare e)) (sym s.batch) (among_right x.batch _ _ (inl refl)), me), logged) | inr q ↦ absurd q ]
        ];
        others = λ f b. absurd b;
        few = few_then (count epoch stamp h.on) (count epoch stamp x.replica.waiting) (count epoch stamp y.replica.waiting) (count epoch stamp []) w h.few many (λ ep st le. fresh (key_is e ep st (h.full le)));
        full = λ le. elim (count_is epoch stamp w) [
          | inl one ↦ record { entry = e; logged = logged; epoch_is = one.1; stamp_is = one.2 }
          | inr none ↦ key_later g.grows epoch stamp (h.full (omega (arith, le, many, none)))
        ];
      }
    where
      key_is : {log : Log} (e : Entry) → e.epoch ≡ epoch → e.stamp ≡ stamp → HasKey log epoch stamp → HasKey log e.epoch e.stamp
      key_is e ep st k = record { entry = k.entry; logged = k.logged; epoch_is = k.epoch_is ∙ sym ep; stamp_is = k.stamp_is ∙ sym st }

      few_then : (o u v z : ℕ) (w : Waiting) → before + (o + (u + z)) ≤ most → v ≡ u + count epoch stamp (w ∷ []) →
          (w.entry.epoch ≡ epoch → w.entry.stamp ≡ stamp → most ≤ before + (o + (u + z)) → ⊥) → before + (o + (v + z)) ≤ most
      few_then o u v z w few is new = elim (count_is epoch stamp w) [
        | inr none ↦ omega (arith, few, is, none)
        | inl one ↦ elim (cases_lt (before + (o + (u + z))) most) [
          | inl lt ↦ (let k = one.0 in omega (arith, lt, is, k))
          | inr le ↦ absurd (new one.1 one.2 le)
        ]
      ]

  -- ---- a refusal

  refuses_it : (a : ℕ) (c : Command) (why : Refusal) (x : Draft) → Req a c → Balanced x [] → Balanced (refuse a c why x) []
  unfolding refuse reply
  refuses_it a c why x asked h =
      let new : Reply = record { address = a; client = c.client; number = c.number; says = Outcome.Refused why; line = Line.ReplyNo x.replica.me c.client c.number (refusal_number why) } in
      let many = count_then epoch stamp h.on [] in
      let none = count_none epoch stamp in
      record {
        on = h.on ++ [];
        told = told_then h.told (refuses new (record { command = c; asked = asked; client = refl; number = refl; by = x.replica.me; why = refusal_number why; line = refl }) nothing);
        answered = λ f b. elim (among_either h.on [] f b) [ inl o ↦ h.answered f o | inr o ↦ absurd o ];
        waits = h.waits;
        others = h.others;
        few = (let t = h.few in omega (arith, t, many, none));
        full = λ le. h.full (omega (arith, le, many, none));
      }

  -- ---- answers

  -- a reply on the entry of the next client
  replied : (f : Waiting) (rest : List Waiting) (x : Draft) (new : Reply) → IsOn x.replica.log f new → Balanced x (f ∷ rest) → Balanced (reply new x) rest
  unfolding reply
  replied f rest x new is h =
      let many = count_then epoch stamp h.on (f ∷ []) in
      let one = count_one epoch stamp f rest in
      record {
        on = h.on ++ f ∷ [];
        told = told_then h.told (answers new f is nothing);
        answered = λ g b. elim (among_either h.on (f ∷ []) g b) [
          | inl o ↦ h.answered g o
          | inr o ↦ elim o [ inl q ↦ subst (Waits x) q (h.others f (inl refl)) | inr q ↦ absurd q ]
        ];
        waits = h.waits;
        others = λ g b. h.others g (inr b);
        few = (let t = h.few in omega (arith, t, many, one));
        full = λ le. h.full (omega (arith, le, many, one));
      }

  -- and one that waits on
  waits_on : (f : Waiting) (rest : List Waiting) (x : Draft) → Balanced x (f ∷ rest) → Balanced (record x { replica = record x.replica { waiting = x.replica.waiting ++ f ∷ [] } }) rest
  waits_on f rest x h =
      let many = count_then epoch stamp x.replica.waiting (f ∷ []) in
      let one = count_one epoch stamp f rest in
      record {
        on = h.on;
        told = h.told;
        answered = h.answered;
        waits = λ g b. elim (among_either x.replica.waiting (f ∷ []) g b) [
          | inl o ↦ h.waits g o
          | inr o ↦ elim o [ inl q ↦ subst (Waits x) q (h.others f (inl refl)) | inr q ↦ absurd q ]
        ];
        others = λ g b. h.others g (inr b);
        few = (let t = h.few in omega (arith, t, many, one));
        full = λ le. h.full (omega (arith, le, many, one));
      }

  found : (f : Waiting) (rest : List Waiting) (x : Draft) → Balanced x (f ∷ rest) → Balanced (answer_found f (find_executed (executed x.replica.log) f.entry) x) rest
  unfolding answer_found reply_ok reply_dropped when◌then◌otherwise◌
  found f rest x h = go (find_executed (executed x.replica.log) f.entry) refl
    where
      pick : (b : Bool) → is_dropped x.replica f.entry ≡ b → find_executed (executed x.replica.log) f.entry ≡ None →
          Balanced (when b then reply_dropped f x otherwise record x { replica = record x.replica { waiting = x.replica.waiting ++ f ∷ [] } }) rest
      pick true is none = replied f rest x _ (record {
        address = refl;
        client = refl;
        number = refl;
        line = Drops x.replica.me f.entry.command.client f.entry.command.number x.replica.log same (dropped_here x.replica f.entry is none);
      }) h
      pick false is none = waits_on f rest x h

      go : (o : Option (ℕ × Entry)) → find_executed (executed x.replica.log) f.entry ≡ o → Balanced (answer_found f o x) rest
      go None e = pick (is_dropped x.replica f.entry) refl e
      go (Some p) e = let t = is_found f x.replica.log p e in
          replied f rest x _ (record {
            address = refl;
            client = refl;
            number = refl;
            line = Answers x.replica.me f.entry.command.client f.entry.command.number p.0 (answer_after (take p.0 (executed x.replica.log)) p.1) p.1 (t.0, refl) t.1 t.2;
          }) h

  each : (fs : List Waiting) (x : Draft) → Balanced x fs → Balanced (answer_each fs x) []
  unfolding answer_each
  each [] x h = h
  each (f ∷ fs) x h = each fs (answer_found f (find_executed (executed x.replica.log) f.entry) x) (found f fs x h)

  answers_all : (x : Draft) → Balanced x [] → Balanced (replies x) []
  unfolding replies
  answers_all x h = each x.replica.waiting (record x { replica = record x.replica { waiting = [] } }) (record {
    on = h.on;
    told = h.told;
    answered = h.answered;
    waits = λ f b. absurd b;
    others = h.waits;
    few = (let t = h.few in let none = count_none epoch stamp in omega (arith, t, none));
    full = λ le. let none = count_none epoch stamp in h.full (omega (arith, le, none));
  })

  -- ---- a step

  pub begun_balanced : ((f : Waiting) → Among r.waiting f → Logged r.log f.entry) → before + count epoch stamp r.waiting ≤ most → (most ≤ before + count epoch stamp r.waiting → HasKey r.log epoch stamp) → Balanced (begun r) []
  unfolding begun
  begun_balanced logged few full = record {
    on = [];
    told = nothing;
    answered = λ f b. absurd b;
    waits = λ f b. (inl b, logged f b);
    others = λ f b. absurd b;
    few = (let none = count_none epoch stamp in omega (arith, few, none));
    full = λ le. let none = count_none epoch stamp in full (omega (arith, le, none));
  }

  module _ (input : Input) (t : ℕ) (req : (a : ℕ) (c : Command) → input ≡ Input.Came a (Datagram.Request c) → Req a c) where
    effect_balanced : (x y : Draft) → Effect r input x y → Goes x y → x.replica.me ≡ r.me → IsTrue y.fitting → Balanced x [] → Balanced y []
    effect_balanced x y (Submitted a c s i) g me f h = submits a c s x me (req a c i) f g h
    effect_balanced x y (Refused a c why i) g me f h = refuses_it a c why x (req a c i) h
    effect_balanced x y Answered g me f h = answers_all x h
    effect_balanced x y (Quiet q) g me f h = still x y g q.replies q.waiting h

    changes_balanced : {y : Draft} → Changes r input t (begun r) y → Balanced (begun r) [] → Balanced y []
    changes_balanced stay h = h
    changes_balanced (and_then {y = y} {z = z} p c f) h =
        effect_balanced y z (effect r input t y z c) (goes r input t Req req y z c) (changes_log r input t Req req p).me f (changes_balanced p h)

    pub step_balanced : Balanced (begun r) [] → Balanced (step r input t) []
    step_balanced = changes_balanced (step_changes r input t)
