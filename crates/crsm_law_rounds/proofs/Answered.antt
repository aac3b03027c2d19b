-- A client that waits in a calm round is answered, or keeps waiting.
use Rattle.std.proofs.Common.{◌≡◌, ℕ, ◌<◌, List, [], ◌∷◌, ◌++◌, length, refl, sym, ◌∙◌, ap, subst, inl, inr, Bool, true, false, cond, arith, map, take, append_assoc}
use Rattle.std.specs.Prelude.{◌⊎◌, ◌^◌, IsTrue, Option, Some, None, slice_get, flat_map, option_to_list, nat_le, nat_lt, ◌==◌, ◌&&◌}
use Rattle.std.proofs.lemmas.Bool.{cases_eq, and_parts, eqb-true, eq-eqb, false≢true, ltb-true}
use Rattle.std.proofs.lemmas.Option.{same_Some}
use Rattle.std.proofs.lemmas.List.{append-nil, map-append}
use Rattle.crsm_base.specs.Order.{stamp_eq}
use Rattle.crsm_base.specs.Store.{answer_after}
use Rattle.crsm_spec.specs.Types.{Entry, Line}
use Rattle.crsm_spec.specs.Lists.{Among}
use Rattle.crsm_spec.specs.Log.{Log, known, start, active, executed, entry_of}
use Rattle.crsm_spec.specs.Replica.{Replica, Waiting}
use Rattle.crsm_spec.specs.Draft.{Draft, Reply}
use Rattle.crsm_spec.specs.Clients.{find_executed, is_dropped}
use Rattle.crsm_spec.specs.Step.{Input, step}
use Rattle.crsm_spec.specs.World.{Site, Packet, World, Moment, is_full, send_lines, whole_step, after_step}
use Rattle.crsm_spec.specs.Acts.{Single, Act}
use Rattle.crsm_spec.specs.Moments.{use_up, begun_at, single, come, deliverable, go_each, moments_of, act, lines_of}
use Rattle.crsm_spec.specs.Run.{TraceLine, traced, told, after_acts}
use Rattle.crsm_fact_log.proofs.Tests.{same_stamp}
use Rattle.crsm_fact_log.proofs.Sorted.{eq_self}
use Rattle.crsm_fact_log.proofs.Lists.{among_left, among_right, get_left, get_inside, take-grown}
use Rattle.crsm_law_steps.specs.Laws.{LogsGoOn}
use Rattle.crsm_law_epoch.specs.Numbers.{Distinct}
use Rattle.crsm_law_runs.proofs.Drafts.{find_at, find_none}
use Rattle.crsm_law_active.specs.Staying.{GrowsBy, IsCalmInput}
use Rattle.crsm_law_active.specs.Answering.{answer_line, IsServed}
use Rattle.crsm_law_active.specs.Answering.IsServed.{Waits, Answered, Dropped}
use Rattle.crsm_law_active.proofs.Staying.{steps_stay}
use Rattle.crsm_law_active.proofs.Answering.{steps_answer}
use Rattle.crsm_law_rounds.specs.Rounds.{GoesCalmly}
use Rattle.crsm_law_rounds.proofs.Growing.{grows_known, grows_active}
use Rattle.crsm_law_rounds.proofs.Going.{IsAt, up_one, calm_at, site_after, other_site, mark_sites}
use Rattle.crsm_law_rounds.proofs.Ticks.{tick, tick_up, tick_other, ticks, step_up, AllActive, IsUpOrNot, Up, Off, up_or_not}
use Rattle.crsm_law_rounds.proofs.Settling.{after_go, go_up, go_off, mark_up, go_logs, logs_then, settled, settle_logs, go_calmly, room, on, off}

-- ---- executed lists go on

pub executed_on : (me : ℕ) {a b : Log} {xs : List Entry} → GrowsBy me a xs b → (more : List Entry) × (executed b ≡ executed a ++ more)
unfolding executed
executed_on me {a} GrowsBy.same = ([], sym (append-nil (executed a)))
executed_on me (GrowsBy.entry f ne p) = executed_on me p
executed_on me {a} (GrowsBy.commit {new = log} s p) =
    let t = executed_on me p in
    (t.0 ++ option_to_list (entry_of log s), ap (λ l. l ++ option_to_list (entry_of log s)) t.1 ∙ append_assoc (executed a) t.0 (option_to_list (entry_of log s)))

-- ---- one client

-- the line that tells a client of replica k the answer at a place
abbrev pub line_to : ℕ → Waiting → ℕ × Entry → List Entry → Line
line_to k c p es = Line.ReplyOk k c.entry.command.client c.entry.command.number p.0 (answer_after (take p.0 es) p.1)

-- The client was told, in one of these lines, the answer of the entry that has its epoch and stamp.
pub record WasTold (k : ℕ) (c : Waiting) (es : List Entry) (lines : List Line) : Type 0 where
  pub found : ℕ × Entry
  pub at : slice_get es found.0 ≡ Some found.1
  pub epoch : found.1.epoch ≡ c.entry.epoch
  pub stamp : found.1.stamp ≡ c.entry.stamp
  pub line : Among lines (line_to k c found es)

-- Client c of replica k, which is active in epoch e, waits still or was told.
pub record WaitsOrTold (k e : ℕ) (c : Waiting) (w : World) (lines : List Line) : Type 0 where
  pub replica : Replica
  pub up : slice_get w.sites k ≡ Some (Site.Up replica)
  pub me : replica.me ≡ k
  pub knows : known replica.log ≡ e
  pub runs : IsTrue (active replica.log)
  pub served : Among replica.waiting c ⊎ WasTold k c (executed replica.log) lines

more_lines : (k e : ℕ) (c : Waiting) (w : World) (lines more : List Line) → WaitsOrTold k e c w lines → WaitsOrTold k e c w (lines ++ more)
more_lines k e c w lines more h = record {
  replica = h.replica;
  up = h.up;
  me = h.me;
  knows = h.knows;
  runs = h.runs;
  served = elim h.served [
    | inl q ↦ inl q
    | inr q ↦ inr (record { found = q.found; at = q.at; epoch = q.epoch; stamp = q.stamp; line = among_left lines more _ q.line })
  ];
}

reply_lines : (w : World) (k : ℕ) (x : Draft) (l : Line) → Among (map (λ (a : Reply). a.line) x.replies) l → Among (whole_step w k x).lines l
unfolding whole_step after_step
reply_lines w k x l m = among_right ((x.lines ++ x.excess) ++ send_lines k (length w.packets) x.sends) (map (λ (a : Reply). a.line) x.replies) l m

pub is_found : (c : Waiting) (es : List Entry) (p : ℕ × Entry) → find_executed es c.entry ≡ Some p → (slice_get es p.0 ≡ Some p.1) × (p.1.epoch ≡ c.entry.epoch) × (p.1.stamp ≡ c.entry.stamp)
unfolding find_executed
is_found c es p h =
    let t = find_at (λ q. q.1.epoch == c.entry.epoch && stamp_eq q.1.stamp c.entry.stamp) 0 es p h in
    let b = and_parts (p.1.epoch == c.entry.epoch) (stamp_eq p.1.stamp c.entry.stamp) t.3 in
    let is = t.1 in
    let place : t.0 ≡ p.0 = omega (arith, is) in
    (subst (λ j. slice_get es j ≡ Some p.1) place t.2, eqb-true p.1.epoch c.entry.epoch b.0, same_stamp p.1.stamp c.entry.stamp b.1)

-- an executed entry is found
pub found_there : (c : Waiting) (es : List Entry) (p : ℕ) → find_executed es c.entry ≡ None → slice_get es p ≡ Some c.entry → ⊥
unfolding find_executed
found_there c es p h at =
    let t = find_none (λ q. q.1.epoch == c.entry.epoch && stamp_eq q.1.stamp c.entry.stamp) 0 es h p c.entry at in
    false≢true (sym t.1 ∙ both (c.entry.epoch == c.entry.epoch) (stamp_eq c.entry.stamp c.entry.stamp) (eq-eqb c.entry.epoch c.entry.epoch refl) (eq_self c.entry.stamp))
  where
    both : (a b : Bool) → a ≡ true → b ≡ true → (a && b) ≡ true
    both true b i j = j
    both false b i j = i

pub not_dropped : (r : Replica) (f : Entry) → f.epoch ≡ known r.log → IsTrue (is_dropped r f) → ⊥
unfolding is_dropped
not_dropped r f e h = (let t = and_parts (nat_le (start r.log) (length (executed r.log))) (nat_lt f.epoch (known r.log)) h in let lt = ltb-true f.epoch (known r.log) t.1 in absurd (omega (arith, lt, e)))

pub line_is : (x : Draft) (k : ℕ) (c : Waiting) (p : ℕ × Entry) → x.replica.me ≡ k → answer_line x c p ≡ line_to k c p (executed x.replica.log)
unfolding answer_line
line_is x k c p me = ap (λ i. Line.ReplyOk i c.entry.command.client c.entry.command.number p.0 (answer_after (take p.0 (executed x.replica.log)) p.1)) me

-- a step of a calm world
pub step_serves : (t k e : ℕ) (c : Waiting) (w : World) (lines : List Line) (j : ℕ) (q : Replica) (input : Input) → c.entry.epoch ≡ e → slice_get w.sites j ≡ Some (Site.Up q) → (j ≡ k → IsCalmInput q input) →
    WaitsOrTold k e c w lines → WaitsOrTold k e c (whole_step w j (step q input t)).after (lines ++ (whole_step w j (step q input t)).lines)
step_serves t k e c w lines j q input epoch up calm h = elim (cases_eq k j) [
  | inr ne ↦ (let m = more_lines k e c w lines (whole_step w j (step q input t)).lines h in
      record { replica = m.replica; up = other_site w j k (step q input t) ne ∙ m.up; me = m.me; knows = m.knows; runs = m.runs; served = m.served })
  | inl here ↦ mine here
]
  where
    mine : k ≡ j → WaitsOrTold k e c (whole_step w j (step q input t)).after (lines ++ (whole_step w j (step q input t)).lines)
    mine here =
        let x = step q input t in
        let one : h.replica ≡ q = up_one h.replica q (same_Some _ _ (sym h.up ∙ subst (λ z. slice_get w.sites z ≡ Some (Site.Up q)) (sym here) up)) in
        let is_calm = calm (sym here) in
        let s = steps_stay q input t is_calm in
        let knows : known x.replica.log ≡ e = grows_known q.me s.log ∙ ap (λ (z : Replica). known z.log) (sym one) ∙ h.knows in
        let me : x.replica.me ≡ k = s.me ∙ ap (λ (z : Replica). z.me) (sym one) ∙ h.me in
        let new = (whole_step w j x).lines in
        record {
          replica = x.replica;
          up = subst (λ z. slice_get (whole_step w j x).after.sites z ≡ Some (Site.Up x.replica)) (sym here) (site_after w j (Site.Up q) x up);
          me = me;
          knows = knows;
          runs = grows_active q.me s.log ∙ subst (λ (z : Replica). IsTrue (active z.log)) one h.runs;
          served = elim (subst (λ (z : Replica). Among z.waiting c ⊎ WasTold k c (executed z.log) lines) one h.served) [
            | inl waits ↦ served_now x me knows (steps_answer q input t is_calm c waits)
            | inr was ↦ inr (told_on q.me s.log was)
          ];
        }
      where
        served_now : (x : Draft) → x.replica.me ≡ k → known x.replica.log ≡ e → IsServed x c → Among x.replica.waiting c ⊎ WasTold k c (executed x.replica.log) (lines ++ (whole_step w j x).lines)
        served_now x me knows (Waits none m) = inl m
        served_now x me knows (Answered p found m) =
            let f = is_found c (executed x.replica.log) p found in
            inr (record {
              found = p;
              at = f.0;
              epoch = f.1;
              stamp = f.2;
              line = among_right lines (whole_step w j x).lines _ (reply_lines w j x _ (subst (Among (map (λ (a : Reply). a.line) x.replies)) (line_is x k c p me) m));
            })
        served_now x me knows (Dropped d) = absurd (not_dropped x.replica c.entry (epoch ∙ sym knows) d)

        told_on : (me : ℕ) {a b : Log} {xs : List Entry} → GrowsBy me a xs b → WasTold k c (executed a) lines → WasTold k c (executed b) (lines ++ (whole_step w j (step q input t)).lines)
        told_on me {a} {b} grows was =
            let more = executed_on me grows in
            let inside = get_inside (executed a) was.found.0 was.found.1 was.at in
            let taken : take was.found.0 (executed b) ≡ take was.found.0 (executed a) = ap (take was.found.0) more.1 ∙ take-grown (executed a) more.0 was.found.0 (omega (arith, inside)) in
            record {
              found = was.found;
              at = subst (λ l. slice_get l was.found.0 ≡ Some was.found.1) (sym more.1) (get_left (executed a) more.0 was.found.0 was.found.1 was.at);
              epoch = was.epoch;
              stamp = was.stamp;
              line = among_left lines _ _ (subst (λ l. Among lines (Line.ReplyOk k c.entry.command.client c.entry.command.number was.found.0 (answer_after l was.found.1))) (sym taken) was.line);
            }

-- ---- lines of acts

unfoldable pub lines_told : World → List Act → List Line
lines_told w acts = map (λ (z : TraceLine). z.line) (told w acts)

lines_of_traced : (a : Option Act) (ls : List Line) → map (λ (z : TraceLine). z.line) (map (traced a) ls) ≡ ls
unfolding traced
lines_of_traced a [] = refl
lines_of_traced a (l ∷ ls) = ap (λ z. l ∷ z) (lines_of_traced a ls)

pub lines_cons : (w : World) (a : Act) (acts : List Act) → lines_told w (a ∷ acts) ≡ (act w a).lines ++ lines_told (act w a).after acts
unfolding lines_told told
lines_cons w a acts =
    map-append (λ (z : TraceLine). z.line) (map (traced (Some a)) (act w a).lines) (told (act w a).after acts)
    ∙ ap (λ l. l ++ map (λ (z : TraceLine). z.line) (told (act w a).after acts)) (lines_of_traced (Some a) (act w a).lines)

pub lines_nil : (w : World) → lines_told w [] ≡ []
unfolding lines_told told
lines_nil w = refl

pub lines_then : (w : World) (xs ys : List Act) → lines_told w (xs ++ ys) ≡ lines_told w xs ++ lines_told (after_acts w xs) ys
unfolding after_acts
lines_then w [] ys = ap (λ l. l ++ lines_told w ys) (sym (lines_nil w))
lines_then w (x ∷ xs) ys =
    lines_cons w x (xs ++ ys) ∙ ap (λ l. (act w x).lines ++ l) (lines_then (act w x).after xs ys)
    ∙ sym (append_assoc (act w x).lines (lines_told (act w x).after xs) (lines_told (after_acts (act w x).after xs) ys))
    ∙ ap (λ l. l ++ lines_told (after_acts (act w x).after xs) ys) (sym (lines_cons w x xs))

-- ---- the ticks

tick_lines : (t k : ℕ) (w : World) (r : Replica) → slice_get w.sites k ≡ Some (Site.Up r) → (act w (Act.One (Single.Tick k t))).lines ≡ (whole_step w k (step r Input.Ticked t)).lines
unfolding act moments_of lines_of single
tick_lines t k w r e = append-nil _ ∙ ap (λ (m : Moment). m.lines) (step_up w k r Input.Ticked t e)

tick_is : (t k : ℕ) (w : World) → (act w (Act.One (Single.Tick k t))).after ≡ tick t k w
unfolding tick
tick_is t k w = refl

pub ticks_serve : (t k e : ℕ) (c : Waiting) (ks : List ℕ) (w : World) (lines : List Line) → c.entry.epoch ≡ e → Distinct ks → AllActive ks w → WaitsOrTold k e c w lines →
    WaitsOrTold k e c (ticks t ks w) (lines ++ lines_told w (map (λ j. Act.One (Single.Tick j t)) ks))
unfolding ticks
ticks_serve t k e c [] w lines epoch d a h = subst (WaitsOrTold k e c w) (sym (append-nil lines) ∙ ap (λ l. lines ++ l) (sym (lines_nil w))) h
ticks_serve t k e c (j ∷ ks) w lines epoch d a h =
    let o = a j (inl refl) in
    let is = tick_up t j w o.0 o.1 in
    let new = (whole_step w j (step o.0 Input.Ticked t)).lines in
    let one = step_serves t k e c w lines j o.0 Input.Ticked epoch o.1 (λ z. o.2) h in
    let rest = ticks_serve t k e c ks (tick t j w) (lines ++ new) epoch d.1
    (λ i m. let b = a i (inr m) in (b.0, tick_other t j w i (λ z. d.0 (subst (Among ks) z m)) ∙ b.1, b.2)) (subst (λ z. WaitsOrTold k e c z (lines ++ new)) (sym is) one) in
    let all = append_assoc lines new (lines_told (tick t j w) (map (λ i. Act.One (Single.Tick i t)) ks))
    ∙ ap (λ l. lines ++ l) (sym (lines_cons w (Act.One (Single.Tick j t)) (map (λ i. Act.One (Single.Tick i t)) ks)
    ∙ ap (λ l. l ++ lines_told (act w (Act.One (Single.Tick j t))).after (map (λ i. Act.One (Single.Tick i t)) ks)) (tick_lines t j w o.0 o.1)
    ∙ ap (λ z. new ++ lines_told z (map (λ i. Act.One (Single.Tick i t)) ks)) (tick_is t j w))) in
    subst (WaitsOrTold k e c (ticks t ks (tick t j w))) all rest

-- ---- the settle

go_lines_up : (t : ℕ) (v : World) (i : ℕ) (m : Packet) (r : Replica) → slice_get v.packets i ≡ Some m → slice_get v.sites m.to ≡ Some (Site.Up r) →
    (single whole_step v (Single.Go i t)).lines ≡ (whole_step (use_up i v) m.to (step r (Input.Came m.from m.datagram) t)).lines
unfolding single begun_at come
go_lines_up t v i m r e u =
    ap (λ (o : Option Packet). (come whole_step (use_up i v) t o).lines) e ∙ ap (λ (z : Moment). z.lines) (step_up (use_up i v) m.to r (Input.Came m.from m.datagram) t (mark_up i v m.to r u))

pub settle_lines : ℕ → List ℕ → World → List Line
settle_lines t is u = lines_of (go_each t is u)

pub settle_lines_are : (t : ℕ) (w : World) → (act w (Act.Settle t)).lines ≡ settle_lines t (deliverable w) w
unfolding act moments_of settle_lines
settle_lines_are t w = refl

lines_off : (t : ℕ) (u : World) → settle_lines t [] u ≡ []
unfolding settle_lines go_each lines_of
lines_off t u = refl

lines_on : (t i : ℕ) (is : List ℕ) (u : World) → is_full u ≡ false → settle_lines t (i ∷ is) u ≡ (single whole_step u (Single.Go i t)).lines ++ settle_lines t is (single whole_step u (Single.Go i t)).after
unfolding settle_lines go_each lines_of
lines_on t i is u f = ap (λ (b : Bool). flat_map (λ (m : Moment). m.lines) (cond b [] (single whole_step u (Single.Go i t) ∷ go_each t is (single whole_step u (Single.Go i t)).after))) f

go_is_after : (t i : ℕ) (u : World) → (single whole_step u (Single.Go i t)).after ≡ after_go t u i
unfolding after_go
go_is_after t i u = refl

marked_serves : (k e i : ℕ) (c : Waiting) (w : World) (lines : List Line) → WaitsOrTold k e c w lines → WaitsOrTold k e c (use_up i w) lines
marked_serves k e i c w lines h = record { replica = h.replica; up = ap (λ ss. slice_get ss k) (mark_sites i w) ∙ h.up; me = h.me; knows = h.knows; runs = h.runs; served = h.served }

module _ (t : ℕ) (C : ℕ → Type 0) (v end : World) (lt : t < 2 ^ 64) (all : List ℕ)
    (packets : (i : ℕ) → Among all i → (m : Packet) × (slice_get v.packets i ≡ Some m))
    (calm : (u : World) → GoesCalmly C v [] u → LogsGoOn u end → (i : ℕ) (m : Packet) → Among all i → slice_get v.packets i ≡ Some m → C m.to → (r : Replica) →
    slice_get u.sites m.to ≡ Some (Site.Up r) → IsCalmInput r (Input.Came m.from m.datagram)) (k e : ℕ) (c : Waiting) (epoch : c.entry.epoch ≡ e) (counted : C k) where
  go_serves : (u : World) → GoesCalmly C v [] u → LogsGoOn u end → (i : ℕ) → Among all i → (lines : List Line) → WaitsOrTold k e c u lines →
      WaitsOrTold k e c (after_go t u i) (lines ++ (single whole_step u (Single.Go i t)).lines)
  go_serves u g ends i a lines h = (let p = packets i a in go p.0 p.1 (calm_at C v g i p.0 p.1) (up_or_not u p.0.to))
    where
      go : (m : Packet) → slice_get v.packets i ≡ Some m → IsAt u.packets i m → IsUpOrNot u m.to → WaitsOrTold k e c (after_go t u i) (lines ++ (single whole_step u (Single.Go i t)).lines)
      go m e1 at (Off none) = subst (λ z. WaitsOrTold k e c z (lines ++ (single whole_step u (Single.Go i t)).lines)) (sym (go_off t u i (record m { used = at.0 }) at.1 none))
          (more_lines k e c (use_up i u) lines _ (marked_serves k e i c u lines h))
      go m e1 at (Up r up) =
          let is = go_up t u i (record m { used = at.0 }) r at.1 up in
          let ls = go_lines_up t u i (record m { used = at.0 }) r at.1 up in
          subst (λ l. WaitsOrTold k e c (after_go t u i) (lines ++ l)) (sym ls) (subst (λ z. WaitsOrTold k e c z (lines ++ (whole_step (use_up i u) m.to (step r (Input.Came m.from m.datagram) t)).lines)) (sym is)
          (step_serves t k e c (use_up i u) lines m.to r (Input.Came m.from m.datagram) epoch (mark_up i u m.to r up) (λ z. calm u g ends i m a e1 (subst C (sym z) counted) r up) (marked_serves k e i c u lines h)))

  pub settle_serves : (is : List ℕ) (u : World) → ((i : ℕ) → Among is i → Among all i) → GoesCalmly C v [] u → LogsGoOn (settled t is u) end → is_full (settled t is u) ≡ false → (lines : List Line) →
      WaitsOrTold k e c u lines → WaitsOrTold k e c (settled t is u) (lines ++ settle_lines t is u)
  settle_serves [] u sub g ends f lines h =
      subst (λ z. WaitsOrTold k e c z (lines ++ settle_lines t [] u)) (sym (off t u)) (subst (WaitsOrTold k e c u) (sym (append-nil lines) ∙ ap (λ l. lines ++ l) (sym (lines_off t u))) h)
  settle_serves (i ∷ is) u sub g ends f lines h =
      let free = room t (i ∷ is) u f in
      let o = on t i is u free in
      let ends2 = subst (λ z. LogsGoOn z end) o ends in
      let before_ends = logs_then u (after_go t u i) end (go_logs t lt u i) (logs_then (after_go t u i) (settled t is (after_go t u i)) end (settle_logs t lt is (after_go t u i)) ends2) in
      let here = sub i (inl refl) in
      let new = (single whole_step u (Single.Go i t)).lines in
      let one = go_serves u g before_ends i here lines h in
      let rest = settle_serves is (after_go t u i) (λ j m. sub j (inr m)) (go_calmly t C v end lt all packets calm u g before_ends i here) ends2 (ap is_full (sym o) ∙ f) (lines ++ new) one in
      let ls = append_assoc lines new (settle_lines t is (after_go t u i)) ∙ ap (λ l. lines ++ l) (sym (lines_on t i is u free ∙ ap (λ z. new ++ settle_lines t is z) (go_is_after t i u))) in
      subst (λ z. WaitsOrTold k e c z (lines ++ settle_lines t (i ∷ is) u)) (sym o) (subst (WaitsOrTold k e c (settled t is (after_go t u i))) ls rest)
