-- The invariant of each draft of a step: which clients wait, what was replied and what was submitted.
use Rattle.std.proofs.Common.{◌≡◌, ◌≢◌, ℕ, suc, ◌+◌, List, [], ◌∷◌, ◌++◌, take, refl, sym, ◌∙◌, ap, subst, inl, inr, Bool, true, false, cond, arith}
use Rattle.std.specs.Prelude.{◌⊎◌, IsTrue, Option, Some, None, slice_get, find, ◌==◌, ◌&&◌, option_to_list}
use Rattle.std.specs.List.{enumerate_from}
use Rattle.std.proofs.lemmas.Bool.{eqb-true, and_parts}
use Rattle.std.proofs.lemmas.Option.{none-some, same_Some}
use Rattle.crsm_base.specs.Order.{stamp_eq}
use Rattle.crsm_base.specs.Spelling.{refusal_number}
use Rattle.crsm_base.specs.Store.{answer_after}
use Rattle.crsm_spec.specs.Choice.{when◌then◌otherwise◌}
use Rattle.crsm_spec.specs.Types.{Stamp, Entry, Command, Refusal, Outcome, Rec, Line}
use Rattle.crsm_spec.specs.Lists.{Among}
use Rattle.crsm_spec.specs.Log.{Log, executed, entry_of}
use Rattle.crsm_spec.specs.Lines.{lines_of, exec_lines, exec_line}
use Rattle.crsm_spec.specs.Replica.{Replica, Waiting}
use Rattle.crsm_spec.specs.Draft.{Draft, Reply, begun, keep, reply, count_vote, issued_at, push_to_members, push_to}
use Rattle.crsm_spec.specs.Clients.{refuse, submit, await, replies, answer_each, answer_found, reply_ok, reply_dropped, find_executed, is_dropped}
use Rattle.crsm_spec.specs.Step.{Input, step}
use Rattle.crsm_fact_log.specs.Logs.{Extends, same, more, Logged}
use Rattle.crsm_fact_log.proofs.Logged.{extends_trans}
use Rattle.crsm_fact_log.proofs.Tests.{same_stamp}
use Rattle.crsm_fact_step.specs.Changes.{Changes, stay, and_then, StepsAreChanges}
use Rattle.crsm_law_sheets.proofs.Effects.{Effect, Still, Kept, Submitted, Refused, Answered, IsSilent, effect, own_entry}

-- ---- logs

pub logged_in_more : (a b : Log) (e : Entry) → Extends a b → Logged a e → Logged b e
logged_in_more a b e same h = h
logged_in_more a b e (more {new = c} rec p) h = inr (logged_in_more a c e p h)

pub among_two : {A : Type 0} (xs ys : List A) (a : A) → Among (xs ++ ys) a → Among xs a ⊎ Among ys a
among_two [] ys a h = inr h
among_two (x ∷ xs) ys a (inl e) = inl (inl e)
among_two (x ∷ xs) ys a (inr h) = elim (among_two xs ys a h) [ inl i ↦ inl (inr i) | inr i ↦ inr i ]

-- ---- words

-- each client waits for an entry that the replica has logged under its own number
abbrev pub WaitForOwn : ℕ → Log → List Waiting → Type 0
WaitForOwn me log ws = (w : Waiting) → Among ws w → Logged log w.entry × (w.entry.stamp.origin ≡ me)

-- the line refuses a request
abbrev pub IsNo : Line → Type 0
IsNo l = (k : ℕ) × (c : ℕ) × (m : ℕ) × (code : ℕ) × (l ≡ Line.ReplyNo k c m code)

-- The reply is the store's answer at the place of an entry with the name of one that is logged here.
pub record IsAnswer (me : ℕ) (log : Log) (a : Reply) : Type 0 where
  pub before : Log
  pub grows : Extends before log
  pub own : Entry
  pub logged : Logged before own
  pub is_own : own.stamp.origin ≡ me
  pub place : ℕ
  pub entry : Entry
  pub there : slice_get (executed before) place ≡ Some entry
  pub epoch : entry.epoch ≡ own.epoch
  pub stamp : entry.stamp ≡ own.stamp
  pub says : a.says ≡ Outcome.Answered (answer_after (take place (executed before)) entry)
  pub line : a.line ≡ Line.ReplyOk me a.client a.number place (answer_after (take place (executed before)) entry)

pub data IsTold (me : ℕ) (log : Log) (a : Reply) : Type 0 where
  Denied : (why : Refusal) → a.says ≡ Outcome.Refused why → why ≢ Refusal.Dropped → IsNo a.line → IsTold me log a
  Told : IsAnswer me log a → IsTold me log a
  Lost : (epoch : ℕ) (stamp : Stamp) → a.says ≡ Outcome.Refused Refusal.Dropped → a.line ≡ Line.ReplyDropped me a.client a.number epoch stamp → IsTold me log a

-- A record of the log between these two has the entry that a line submits.
pub record IsSubmitted (me : ℕ) (start log : Log) (k epoch time : ℕ) : Type 0 where
  pub entry : Entry
  pub before : Log
  pub grows : Extends start before
  pub kept : Extends (Rec.Prepare entry ∷ before) log
  pub epoch_is : entry.epoch ≡ epoch
  pub stamp_is : entry.stamp ≡ record { time = time; origin = k }
  pub own : k ≡ me

pub record Good (me : ℕ) (start : Log) (x : Draft) : Type 0 where
  pub me_is : x.replica.me ≡ me
  pub grows : Extends start x.replica.log
  pub waits : WaitForOwn me x.replica.log x.replica.waiting
  pub told : (a : Reply) → Among x.replies a → IsTold me x.replica.log a
  pub submits : (k epoch time client number : ℕ) → Among x.lines (Line.Submit k epoch time client number) → IsSubmitted me start x.replica.log k epoch time

-- ---- a longer log

still_told : (me : ℕ) (a b : Log) → Extends a b → (y : Reply) → IsTold me a y → IsTold me b y
still_told me a b p y (Denied why s n l) = Denied why s n l
still_told me a b p y (Lost e s h l) = Lost e s h l
still_told me a b p y (Told t) = Told (record {
  before = t.before;
  grows = extends_trans t.grows p;
  own = t.own;
  logged = t.logged;
  is_own = t.is_own;
  place = t.place;
  entry = t.entry;
  there = t.there;
  epoch = t.epoch;
  stamp = t.stamp;
  says = t.says;
  line = t.line;
})

still_submitted : (me : ℕ) (start a b : Log) → Extends a b → (k epoch time : ℕ) → IsSubmitted me start a k epoch time → IsSubmitted me start b k epoch time
still_submitted me start a b p k epoch time s = record {
  entry = s.entry;
  before = s.before;
  grows = s.grows;
  kept = extends_trans s.kept p;
  epoch_is = s.epoch_is;
  stamp_is = s.stamp_is;
  own = s.own;
}

still_waits : (me : ℕ) (a b : Log) → Extends a b → (ws : List Waiting) → WaitForOwn me a ws → WaitForOwn me b ws
still_waits me a b p ws h = λ w m. (logged_in_more a b w.entry p (h w m).0, (h w m).1)

-- ---- lines of a record

-- a line that submits is that of an own entry
no_exec : (me : ℕ) (done es : List Entry) (k epoch time client number : ℕ) → Among (exec_lines me done es) (Line.Submit k epoch time client number) → ⊥
unfolding exec_lines exec_line
no_exec me done [] k epoch time client number h = h
no_exec me done (e ∷ es) k epoch time client number (inl q) = cc
no_exec me done (e ∷ es) k epoch time client number (inr h) = no_exec me (done ++ e ∷ []) es k epoch time client number h

pub record IsOwnRecord (me : ℕ) (rec : Rec) (k epoch time : ℕ) : Type 0 where
  pub entry : Entry
  pub is : rec ≡ Rec.Prepare entry
  pub epoch_is : entry.epoch ≡ epoch
  pub stamp_is : entry.stamp ≡ record { time = time; origin = k }
  pub own : k ≡ me

own_record : (me : ℕ) (log : Log) (rec : Rec) (k epoch time client number : ℕ) → Among (lines_of me log rec) (Line.Submit k epoch time client number) → IsOwnRecord me rec k epoch time
unfolding lines_of
own_record me log (Rec.Boot a b) k epoch time client number (inl q) = absurd (cc)
own_record me log (Rec.Boot a b) k epoch time client number (inr q) = absurd q
own_record me log (Rec.Prepare e) k epoch time client number (inr q) = absurd q
own_record me log (Rec.Prepare e) k epoch time client number (inl q) = go (e.stamp.origin == me) refl q
  where
    stamp_of : (s : Stamp) (t o : ℕ) → s.time ≡ t → s.origin ≡ o → s ≡ record { time = t; origin = o }
    stamp_of s t o p q = subst (λ z. s ≡ record { time = z; origin = o }) p (subst (λ z. s ≡ record { time = s.time; origin = z }) q refl)

    parts : (a b c d f : ℕ) → Line.Submit a b c d f ≡ Line.Submit k epoch time client number → (a ≡ k) × (b ≡ epoch) × (c ≡ time)
    parts a b c d f e = (cc, cc, cc)

    go : (c : Bool) → (e.stamp.origin == me) ≡ c → cond c (Line.Submit me e.epoch e.stamp.time e.command.client e.command.number) (Line.Log me e.epoch e.stamp) ≡ Line.Submit k epoch time client number →
        IsOwnRecord me (Rec.Prepare e) k epoch time
    go true o q =
        let p = parts me e.epoch e.stamp.time e.command.client e.command.number q in
        record { entry = e; is = refl; epoch_is = p.1; stamp_is = stamp_of e.stamp time k p.2 (eqb-true e.stamp.origin me o ∙ p.0); own = sym p.0 }
    go false o q = absurd (cc)
own_record me log (Rec.Commit s) k epoch time client number h = absurd (no_exec me (executed log) (option_to_list (entry_of log s)) k epoch time client number h)
own_record me log (Rec.Adopt p es) k epoch time client number h = absurd (no_exec me (executed log) es k epoch time client number h)
own_record me log (Rec.Suspend x) k epoch time client number (inl q) = absurd (cc)
own_record me log (Rec.Suspend x) k epoch time client number (inr q) = absurd q
own_record me log (Rec.Promise i b) k epoch time client number (inl q) = absurd (cc)
own_record me log (Rec.Promise i b) k epoch time client number (inr q) = absurd q
own_record me log (Rec.Accept i b d) k epoch time client number (inl q) = absurd (cc)
own_record me log (Rec.Accept i b d) k epoch time client number (inr q) = absurd q
own_record me log (Rec.Decide d) k epoch time client number (inl q) = absurd (cc)
own_record me log (Rec.Decide d) k epoch time client number (inr q) = absurd q
own_record me log (Rec.Enter x) k epoch time client number (inl q) = absurd (cc)
own_record me log (Rec.Enter x) k epoch time client number (inr q) = absurd q

-- ---- changes

module _ (me : ℕ) (start : Log) where
  still_good : (x y : Draft) → y.replica.log ≡ x.replica.log → y.lines ≡ x.lines → IsSilent x y → Good me start x → Good me start y
  still_good x y l s q g = record {
    me_is = q.me ∙ g.me_is;
    grows = subst (Extends start) (sym l) g.grows;
    waits = subst (λ z. WaitForOwn me z y.replica.waiting) (sym l) (subst (WaitForOwn me x.replica.log) (sym q.waiting) g.waits);
    told = λ a m. subst (λ z. IsTold me z a) (sym l) (g.told a (subst (λ z. Among z a) q.replies m));
    submits = λ k e t c i m. subst (λ z. IsSubmitted me start z k e t) (sym l) (g.submits k e t c i (subst (λ z. Among z (Line.Submit k e t c i)) s m));
  }

  -- a record is kept, and these wait
  pub kept_good : (rec : Rec) (x y : Draft) → y.replica.log ≡ rec ∷ x.replica.log → y.lines ≡ x.lines ++ lines_of x.replica.me x.replica.log rec → y.replies ≡ x.replies → y.replica.me ≡ x.replica.me →
      WaitForOwn me (rec ∷ x.replica.log) y.replica.waiting → Good me start x → Good me start y
  kept_good rec x y l s p m w g =
      let log = x.replica.log in
      let on : Extends log (rec ∷ log) = more rec same in
      record {
        me_is = m ∙ g.me_is;
        grows = subst (Extends start) (sym l) (more rec g.grows);
        waits = subst (λ z. WaitForOwn me z y.replica.waiting) (sym l) w;
        told = λ a h. subst (λ z. IsTold me z a) (sym l) (still_told me log (rec ∷ log) on a (g.told a (subst (λ z. Among z a) p h)));
        submits = λ k e t c i h. subst (λ z. IsSubmitted me start z k e t) (sym l)
            (elim (among_two x.lines (lines_of x.replica.me log rec) (Line.Submit k e t c i) (subst (λ z. Among z (Line.Submit k e t c i)) s h)) [
              | inl b ↦ still_submitted me start log (rec ∷ log) on k e t (g.submits k e t c i b)
              | inr b ↦ (let o = own_record x.replica.me log rec k e t c i b in
                  record { entry = o.entry; before = log; grows = g.grows; kept = subst (λ z. Extends (z ∷ log) (rec ∷ log)) o.is same; epoch_is = o.epoch_is; stamp_is = o.stamp_is; own = o.own ∙ g.me_is })
            ]);
      }

  submitted_good : (a : ℕ) (c : Command) (t : ℕ) (x : Draft) → Good me start x → Good me start (submit a c t x)
  unfolding submit await push_to_members push_to count_vote issued_at keep
  submitted_good a c t x g =
      let e = own_entry c t x in
      let log = x.replica.log in
      kept_good (Rec.Prepare e) x (submit a c t x) refl refl refl refl
      (λ w m. elim (among_two x.replica.waiting (record { address = a; entry = e } ∷ []) w m) [
        | inl b ↦ (inr (g.waits w b).0, (g.waits w b).1)
        | inr b ↦ elim b [ inl q ↦ subst (λ (v : Waiting). Logged (Rec.Prepare e ∷ log) v.entry × (v.entry.stamp.origin ≡ me)) q (inl refl, g.me_is) | inr q ↦ absurd q ]
      ]) g

  -- ---- replies

  replied_good : (a : Reply) (x : Draft) → IsTold me x.replica.log a → Good me start x → Good me start (reply a x)
  unfolding reply
  replied_good a x t g = record {
    me_is = g.me_is;
    grows = g.grows;
    waits = g.waits;
    told = λ b m. elim (among_two x.replies (a ∷ []) b m) [ inl o ↦ g.told b o | inr o ↦ elim o [ inl q ↦ subst (IsTold me x.replica.log) q t | inr q ↦ absurd q ] ];
    submits = g.submits;
  }

  refused_good : (a : ℕ) (c : Command) (why : Refusal) (x : Draft) → why ≢ Refusal.Dropped → Good me start x → Good me start (refuse a c why x)
  unfolding refuse
  refused_good a c why x ne g = replied_good _ x (Denied why refl ne (x.replica.me, c.client, c.number, refusal_number why, refl)) g

  -- the place of an entry that is found
  found_at : (test : ℕ × Entry → Bool) (i : ℕ) (xs : List Entry) (p : ℕ × Entry) → find test (enumerate_from i xs) ≡ Some p → (j : ℕ) × (p.0 ≡ i + j) × (slice_get xs j ≡ Some p.1) × IsTrue (test p)
  found_at test i [] p h = absurd (none-some p h)
  found_at test i (x ∷ xs) p h = go (test (i, x)) refl h (found_at test (i + 1) xs p)
    where
      here : (q : ℕ × Entry) → (i, x) ≡ q → IsTrue (test (i, x)) → (j : ℕ) × (q.0 ≡ i + j) × (slice_get (x ∷ xs) j ≡ Some q.1) × IsTrue (test q)
      here q e t = (0, (let is = ap (λ (z : ℕ × Entry). z.0) e in omega (arith, is)), ap (λ (z : ℕ × Entry). Some z.1) e, subst (λ z. IsTrue (test z)) e t)

      go : (b : Bool) → test (i, x) ≡ b → cond b (Some (i, x)) (find test (enumerate_from (i + 1) xs)) ≡ Some p →
          (find test (enumerate_from (i + 1) xs) ≡ Some p → (j : ℕ) × (p.0 ≡ i + 1 + j) × (slice_get xs j ≡ Some p.1) × IsTrue (test p)) →
          (j : ℕ) × (p.0 ≡ i + j) × (slice_get (x ∷ xs) j ≡ Some p.1) × IsTrue (test p)
      go true t q _ = here p (same_Some (i, x) p q) t
      go false t q others = let r = others q in (suc r.0, (let is = r.1 in omega (arith, is)), r.2, r.3)

  is_found : (own : Entry) (log : Log) (p : ℕ × Entry) → find_executed (executed log) own ≡ Some p → (slice_get (executed log) p.0 ≡ Some p.1) × (p.1.epoch ≡ own.epoch) × (p.1.stamp ≡ own.stamp)
  unfolding find_executed
  is_found own log p h =
      let t = found_at (λ q. q.1.epoch == own.epoch && stamp_eq q.1.stamp own.stamp) 0 (executed log) p h in
      let b = and_parts (p.1.epoch == own.epoch) (stamp_eq p.1.stamp own.stamp) t.3 in
      let is = t.1 in
      let place : t.0 ≡ p.0 = omega (arith, is) in
      (subst (λ j. slice_get (executed log) j ≡ Some p.1) place t.2, eqb-true p.1.epoch own.epoch b.0, same_stamp p.1.stamp own.stamp b.1)

  ok_good : (w : Waiting) (p : ℕ × Entry) (x : Draft) → Logged x.replica.log w.entry → w.entry.stamp.origin ≡ me → find_executed (executed x.replica.log) w.entry ≡ Some p → Good me start x →
      Good me start (reply_ok w p.0 (answer_after (take p.0 (executed x.replica.log)) p.1) x)
  unfolding reply_ok
  ok_good w p x logged own is g =
      let f = is_found w.entry x.replica.log p is in
      replied_good _ x
      (Told (record {
        before = x.replica.log;
        grows = same;
        own = w.entry;
        logged = logged;
        is_own = own;
        place = p.0;
        entry = p.1;
        there = f.0;
        epoch = f.1;
        stamp = f.2;
        says = refl;
        line = ap (λ k. Line.ReplyOk k w.entry.command.client w.entry.command.number p.0 (answer_after (take p.0 (executed x.replica.log)) p.1)) g.me_is;
      })) g

  lost_good : (w : Waiting) (x : Draft) → Good me start x → Good me start (reply_dropped w x)
  unfolding reply_dropped
  lost_good w x g = replied_good _ x (Lost w.entry.epoch w.entry.stamp refl (ap (λ k. Line.ReplyDropped k w.entry.command.client w.entry.command.number w.entry.epoch w.entry.stamp) g.me_is)) g

  waits_good : (w : Waiting) (x : Draft) → Logged x.replica.log w.entry → w.entry.stamp.origin ≡ me → Good me start x → Good me start (record x { replica = record x.replica { waiting = x.replica.waiting ++ w ∷ [] } })
  waits_good w x logged own g = record {
    me_is = g.me_is;
    grows = g.grows;
    waits = λ v m. elim (among_two x.replica.waiting (w ∷ []) v m) [
      | inl b ↦ g.waits v b
      | inr b ↦ elim b [ inl q ↦ subst (λ (z : Waiting). Logged x.replica.log z.entry × (z.entry.stamp.origin ≡ me)) q (logged, own) | inr q ↦ absurd q ]
    ];
    told = g.told;
    submits = g.submits;
  }

  found_good : (w : Waiting) (x : Draft) → Logged x.replica.log w.entry → w.entry.stamp.origin ≡ me → Good me start x → Good me start (answer_found w (find_executed (executed x.replica.log) w.entry) x)
  unfolding answer_found when◌then◌otherwise◌
  found_good w x logged own g = go (find_executed (executed x.replica.log) w.entry) refl
    where
      pick : (c : Bool) → Good me start (when c then reply_dropped w x otherwise record x { replica = record x.replica { waiting = x.replica.waiting ++ w ∷ [] } })
      pick true = lost_good w x g
      pick false = waits_good w x logged own g

      go : (o : Option (ℕ × Entry)) → find_executed (executed x.replica.log) w.entry ≡ o → Good me start (answer_found w o x)
      go (Some p) e = ok_good w p x logged own e g
      go None e = pick (is_dropped x.replica w.entry)

  found_log : (w : Waiting) (o : Option (ℕ × Entry)) (x : Draft) → (answer_found w o x).replica.log ≡ x.replica.log
  unfolding answer_found reply_ok reply_dropped reply when◌then◌otherwise◌
  found_log w (Some p) x = refl
  found_log w None x = go (is_dropped x.replica w.entry)
    where
      go : (c : Bool) → (when c then reply_dropped w x otherwise record x { replica = record x.replica { waiting = x.replica.waiting ++ w ∷ [] } }).replica.log ≡ x.replica.log
      go true = refl
      go false = refl

  each_good : (ws : List Waiting) (x : Draft) → WaitForOwn me x.replica.log ws → Good me start x → Good me start (answer_each ws x)
  unfolding answer_each
  each_good [] x h g = g
  each_good (w ∷ ws) x h g =
      let y = answer_found w (find_executed (executed x.replica.log) w.entry) x in
      let log = found_log w (find_executed (executed x.replica.log) w.entry) x in
      each_good ws y (subst (λ l. WaitForOwn me l ws) (sym log) (λ v m. h v (inr m))) (found_good w x (h w (inl refl)).0 (h w (inl refl)).1 g)

  answered_good : (x : Draft) → Good me start x → Good me start (replies x)
  unfolding replies
  answered_good x g =
      each_good x.replica.waiting (record x { replica = record x.replica { waiting = [] } }) g.waits
      (record { me_is = g.me_is; grows = g.grows; waits = λ w m. absurd m; told = g.told; submits = g.submits })

  -- ---- all changes

  effect_good : (x y : Draft) → Effect x y → Good me start x → Good me start y
  effect_good x y (Still l s q) g = still_good x y l s q g
  effect_good x y (Kept rec l s q) g =
      kept_good rec x y l s q.replies q.me (subst (WaitForOwn me (rec ∷ x.replica.log)) (sym q.waiting) (still_waits me x.replica.log (rec ∷ x.replica.log) (more rec same) x.replica.waiting g.waits)) g
  effect_good x _ (Submitted a c t) g = submitted_good a c t x g
  effect_good x _ (Refused a c why ne) g = refused_good a c why x ne g
  effect_good x _ Answered g = answered_good x g

  pub changes_good : (r : Replica) (input : Input) (reading : ℕ) {x y : Draft} → Changes r input reading x y → Good me start x → Good me start y
  changes_good r input reading stay g = g
  changes_good r input reading (and_then {y = y} {z = z} p c f) g = effect_good y z (effect r input reading y z c) (changes_good r input reading p g)

-- ---- the step

pub begun_good : (r : Replica) → WaitForOwn r.me r.log r.waiting → Good r.me r.log (begun r)
unfolding begun
begun_good r w = record { me_is = refl; grows = same; waits = w; told = λ a m. absurd m; submits = λ k e t c i m. absurd m }

pub step_good : StepsAreChanges → (r : Replica) (input : Input) (reading : ℕ) → WaitForOwn r.me r.log r.waiting → Good r.me r.log (step r input reading)
step_good law r input reading w = changes_good r.me r.log r input reading (law r input reading) (begun_good r w)
