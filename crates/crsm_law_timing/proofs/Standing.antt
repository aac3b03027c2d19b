-- The state of a timeline after some events, and after one more.
use Rattle.std.proofs.Common.{◌≡◌, ◌≢◌, ℕ, zero, suc, ◌+◌, ◌<◌, ◌≤◌, List, [], ◌∷◌, ◌++◌, length, refl, sym, ◌∙◌, ap, subst, inl, inr, Bool, true, false, cond, arith, map, drop, length-append}
use Rattle.std.specs.Prelude.{◌⊎◌, Some, slice_get, slice_set, filter, ◌==◌}
use Rattle.std.proofs.lemmas.Bool.{cases_eq, eq-eqb, ne_eqb, false≢true}
use Rattle.std.proofs.lemmas.Option.{none-some, same_Some}
use Rattle.std.proofs.lemmas.List.{append-nil}
use Rattle.crsm_spec.specs.Types.{Rec, Datagram, Line}
use Rattle.crsm_spec.specs.Lists.{Among}
use Rattle.crsm_spec.specs.Lines.{exec_line}
use Rattle.crsm_spec.specs.Replica.{Replica}
use Rattle.crsm_spec.specs.Draft.{Draft}
use Rattle.crsm_spec.specs.Clients.{commits, replies}
use Rattle.crsm_spec.specs.World.{Site, Packet, World, packet_of, whole_step, after_step, body_size, packets_size}
use Rattle.crsm_spec.specs.Acts.{Single}
use Rattle.crsm_fact_log.proofs.Lists.{among_left, among_either, get_left}
use Rattle.crsm_law_epoch.proofs.Words.{among_unmap, get_among, set_same, set_other}
use Rattle.crsm_law_active.proofs.Ending.{ends_before}
use Rattle.crsm_spec_plan.specs.declared.Plan.{Plan}
use Rattle.crsm_spec_plan.specs.Plans.{FitsPlan, commit_at}
use Rattle.crsm_spec_plan.specs.Timelines.{Timed, Sent, sent, exec_moments, request, delivery, is_exec}
use Rattle.crsm_law_timing.proofs.Local.{Part, Plays, IsComplete, HasLogged, IsFirst, the_stamp, the_entry, issued_in}
use Rattle.crsm_law_timing.proofs.Closing.{Ended, ends}
use Rattle.crsm_law_timing.proofs.Turns.{Turned}
use Rattle.crsm_law_timing.proofs.Worlds.{at, done, sends_by, sent_more, execs_by, execs_more, IsStep}
use Rattle.crsm_law_timing.proofs.Letters.{IsFrame, letter, IsLetter, IsFrom, Facts, AreNumbered, tick_of, get_parts, get_right, facts_more, facts_done, old_new, Reason, commits_at}
use Rattle.crsm_law_timing.proofs.Weights.{weight_issued, sites_weight, packets_weight, out_weight, set_site, weight_more, commit_kept, packets_few}
use Rattle.crsm_law_timing.proofs.Quiet.{quiet_end, exec_line_of}

-- the moments at which a replica of this part has executed
abbrev pub execs_in : Plan → ℕ → Part → List ℕ
execs_in plan k Part.Bare = []
execs_in plan k Part.Owing = []
execs_in plan k (Part.Passed t) = []
execs_in plan k (Part.Done t) = commit_at plan k ∷ []

pub record Actor (plan : Plan) (before : List Timed) (w : World) (k : ℕ) : Type 0 where
  pub replica : Replica
  pub part : Part
  pub up : slice_get w.sites k ≡ Some (Site.Up replica)
  pub plays : Plays plan k part replica
  pub unfinished : (t : ℕ) → part ≡ Part.Passed t → IsComplete plan k replica → ⊥
  pub execs : exec_moments plan k before ≡ execs_in plan k part
  pub facts : Facts plan before k part replica.taken

-- a datagram that was sent is in the world, used if it was delivered
abbrev pub IsThere : Plan → List Timed → List Packet → ℕ → Sent → Type 0
IsThere plan before packets i s = (used : Bool) × (slice_get packets i ≡ Some (record s.packet { used = used })) × (used ≡ true → Among before (delivery plan i s))

pub record Stands (plan : Plan) (before : List Timed) (w : World) : Type 0 where
  pub size : length (sent plan before) ≡ length w.packets
  pub there : (i : ℕ) (s : Sent) → slice_get (sent plan before) i ≡ Some s → IsThere plan before w.packets i s
  pub letters : (i : ℕ) (s : Sent) → slice_get (sent plan before) i ≡ Some s → IsLetter plan s
  pub alone : (i j m k : ℕ) (s z : Sent) → slice_get (sent plan before) i ≡ Some s → slice_get (sent plan before) j ≡ Some z → IsFrom m k s → IsFrom m k z → i ≡ j
  pub numbered : AreNumbered plan before
  pub actors : (k : ℕ) → k < plan.n → Actor plan before w k
  pub few : length w.packets ≤ w.bytes
  pub weight : w.bytes + sites_weight w.sites + packets_weight w.packets ≤ 200000

-- what k sends at a moment
abbrev pub letters_of : ℕ → ℕ → List (ℕ × Datagram) → List Sent
letters_of moment k out = map (λ m. record { moment = moment; packet = m }) (map (packet_of k) out)

pub letter_is : (moment k : ℕ) (out : List (ℕ × Datagram)) (s : Sent) → Among (letters_of moment k out) s → (d : ℕ × Datagram) × Among out d × (s ≡ letter moment k d.0 d.1)
unfolding packet_of
letter_is moment k out s a =
    let t = among_unmap {B = Sent} (λ (m : Packet). record { moment = moment; packet = m }) (map (packet_of k) out) s a in
    let u = among_unmap (packet_of k) out t.0 t.1 in
    (u.0, u.1, sym t.2 ∙ ap (λ (m : Packet). record { moment = moment; packet = m }) (sym u.2))

-- The event is one of k.
pub record Acts (plan : Plan) (before : List Timed) (e : Timed) (k : ℕ) : Type 0 where
  pub request : e ≡ request plan → k ≡ plan.origin
  pub tick : (j : ℕ) → e ≡ tick_of plan j → j ≡ k
  pub delivery : (i : ℕ) (s : Sent) → slice_get (sent plan before) i ≡ Some s → e ≡ delivery plan i s → s.packet.to ≡ k
  pub number : (i t : ℕ) → e.does ≡ Single.Go i t → i < length (sent plan before)

-- another replica after an event of k
other_facts : (plan : Plan) (before : List Timed) (e : Timed) (new : List Sent) (is : sent plan (before ++ e ∷ []) ≡ sent plan before ++ new) (k j : ℕ) (p : Part) (tk : List ℕ) →
    j ≢ k → Acts plan before e k → AreNumbered plan before → ((s : Sent) → Among new s → s.packet.from ≡ k) → Facts plan before j p tk → Facts plan (before ++ e ∷ []) j p tk
other_facts plan before e new is k j p tk ne acts numbered from h = facts_more plan before e new is j p p tk tk h numbered acts.number
    (λ m a. a) (λ m a. inl a) (λ i s g to f q. absurd (ne (sym to ∙ acts.delivery i s g q)))
    (λ f. (f, λ s a q z. ne (sym q ∙ from s a))) (λ nf. inl nf)
    (λ q. let o = h.origin q in record {
      begun = λ l. among_left before (e ∷ []) _ (o.begun l);
      begins = λ a. elim (among_either before (e ∷ []) _ a) [
        | inl b ↦ o.begins b
        | inr b ↦ absurd (first q b)
      ];
      owes = o.owes;
    })
    (λ q. let o = h.other q in record {
      has = o.has;
      had = o.had;
      owes = λ r. ((o.owes r).0, λ a. elim (among_either before (e ∷ []) _ a) [ inl b ↦ (o.owes r).1 b | inr b ↦ ticks b ]);
      paid = λ nf le. among_left before (e ∷ []) _ (o.paid nf le);
      passed = λ nf. let f = o.passed nf in (f.0, among_left before (e ∷ []) f.0 f.1, f.2);
    })
  where
    first : j ≡ plan.origin → Among (e ∷ []) (request plan) → ⊥
    first q (inl r) = ne (q ∙ sym (acts.request r))
    first q (inr r) = r

    ticks : Among (e ∷ []) (tick_of plan j) → ⊥
    ticks (inl r) = ne (acts.tick j r)
    ticks (inr r) = r

-- ---- one event more

-- The obligations of an event at k: what it keeps and sends, the facts of k after it, and when the command commits if
-- it does.
pub record Shows (plan : Plan) (before : List Timed) (e : Timed) (w v : World) (k : ℕ) (a : Actor plan before w k) (x : Draft) (q : Part) (now : List ℕ) (kept : List Rec) (out : List (ℕ × Datagram)) : Type 0 where
  pub acts : Acts plan before e k
  pub step : IsStep w e v k a.replica x
  pub turned : Turned plan k q now kept out x
  pub there : (i : ℕ) (s : Sent) → slice_get (sent plan before) i ≡ Some s → IsThere plan (before ++ e ∷ []) v.packets i s
  pub facts : sent plan (before ++ e ∷ []) ≡ sent plan before ++ letters_of e.moment k out → Facts plan (before ++ e ∷ []) k q now
  pub letters : (s : Sent) → Among (letters_of e.moment k out) s → IsLetter plan s
  pub lone : (s : Sent) → Among (letters_of e.moment k out) s → IsFrame s.packet.datagram → IsFirst a.part
  pub apart : (i j m : ℕ) (s z : Sent) → slice_get (letters_of e.moment k out) i ≡ Some s → slice_get (letters_of e.moment k out) j ≡ Some z → IsFrom k m s → IsFrom k m z → i ≡ j
  pub same : execs_in plan k a.part ≡ execs_in plan k q
  pub why : (t : ℕ) → q ≡ Part.Passed t → IsComplete plan k x.replica → Reason plan k e.moment
  pub credit : ℕ
  pub gained : packets_weight v.packets + credit ≤ packets_weight w.packets
  pub spent : body_size kept + 100 + out_weight k out + weight_issued (issued_in q) ≤ weight_issued (issued_in a.part) + credit

drop_prefix : {A : Type 0} (xs ys : List A) (n : ℕ) → n ≡ length xs → drop n (xs ++ ys) ≡ ys
drop_prefix {A} xs ys n e = ap (λ m. drop m (xs ++ ys)) e ∙ go xs
  where
    go : (xs : List A) → drop (length xs) (xs ++ ys) ≡ ys
    go [] = refl
    go (x ∷ xs) = go xs

sends_are : (x : Draft) (y : Draft) → x ≡ replies (commits y) → x.sends ≡ y.sends
sends_are x y e = ap (λ (d : Draft). d.sends) e ∙ (ends_before y).sends

pub taken_are : (x : Draft) (y : Draft) → x ≡ replies (commits y) → x.replica.taken ≡ y.replica.taken
taken_are x y e = ap (λ (d : Draft). d.replica.taken) e ∙ (ends_before y).taken

packets_after : (v : World) (k : ℕ) (x : Draft) → (whole_step v k x).after.packets ≡ v.packets ++ map (packet_of k) x.sends
unfolding whole_step after_step
packets_after v k x = refl

sites_after : (v : World) (k : ℕ) (x : Draft) → (whole_step v k x).after.sites ≡ slice_set v.sites k (Site.Up x.replica)
unfolding whole_step after_step
sites_after v k x = refl

bytes_after : (v : World) (k : ℕ) (x : Draft) → (whole_step v k x).after.bytes ≡ v.bytes + body_size x.batch + packets_size x.sends
unfolding whole_step after_step
bytes_after v k x = refl

module _ (plan : Plan) (fit : FitsPlan plan) (before : List Timed) (e : Timed) (w v : World) (w_is : w ≡ at plan before) (stands : Stands plan before w)
    (until : (f : Timed) → Among before f → f.moment ≤ e.moment)
    (k : ℕ) (below : k < plan.n) (a : Actor plan before w k) (x : Draft) (q : Part) (now : List ℕ) (kept : List Rec) (out : List (ℕ × Datagram))
    (shows : Shows plan before e w v k a x q now kept out) where
  abbrev y : Draft
  y = shows.turned.draft

  abbrev then : List Timed
  then = before ++ e ∷ []

  abbrev u : World
  u = (done w e).after

  abbrev new : List Sent
  new = letters_of e.moment k out

  out_is : x.sends ≡ out
  out_is = sends_are x y shows.turned.is ∙ shows.turned.sends

  packets_now : u.packets ≡ v.packets ++ map (packet_of k) out
  packets_now = ap (λ (z : World). z.packets) shows.step.after ∙ packets_after v k x ∙ ap (λ l. v.packets ++ map (packet_of k) l) out_is

  sites_now : u.sites ≡ slice_set w.sites k (Site.Up x.replica)
  sites_now = ap (λ (z : World). z.sites) shows.step.after ∙ sites_after v k x ∙ ap (λ ss. slice_set ss k (Site.Up x.replica)) shows.step.sites

  sent_now : sent plan then ≡ sent plan before ++ new
  unfolding sends_by
  sent_now =
      sent_more plan before e ∙ ap (λ z. sent plan before ++ sends_by z e) (sym w_is)
      ∙ ap (λ ps. sent plan before ++ map (λ m. record { moment = e.moment; packet = m }) (drop (length w.packets) ps)) packets_now
      ∙ ap (λ ps. sent plan before ++ map (λ m. record { moment = e.moment; packet = m }) ps) (drop_prefix v.packets (map (packet_of k) out) (length w.packets) (sym shows.step.size))

  from_k : (s : Sent) → Among new s → s.packet.from ≡ k
  from_k s m = let t = letter_is e.moment k out s m in ap (λ (z : Sent). z.packet.from) t.2

  map_length : {A B : Type 0} (f : A → B) (xs : List A) → length (map f xs) ≡ length xs
  map_length f [] = refl
  map_length f (z ∷ zs) = ap suc (map_length f zs)

  size_now : length (sent plan then) ≡ length u.packets
  size_now =
      let l = ap length sent_now in
      let m = length-append (sent plan before) new in
      let n = ap length packets_now in
      let o = length-append v.packets (map (packet_of k) out) in
      let p = map_length {B = Sent} (λ (m : Packet). record { moment = e.moment; packet = m }) (map (packet_of k) out) in
      let s = stands.size in
      let z = shows.step.size in
      omega (arith, l, m, n, o, p, s, z)

  get_map : {A B : Type 0} (f : A → B) (xs : List A) (j : ℕ) (b : B) → slice_get (map f xs) j ≡ Some b → (c : A) × (slice_get xs j ≡ Some c) × (f c ≡ b)
  get_map f [] j b h = absurd (none-some b h)
  get_map f (z ∷ zs) zero b h = (z, refl, same_Some _ _ h)
  get_map f (z ∷ zs) (suc j) b h = get_map f zs j b h

  -- where a datagram of before and one of this event are
  old_there : (i : ℕ) (s : Sent) → slice_get (sent plan before) i ≡ Some s → IsThere plan then u.packets i s
  old_there i s g =
      let t = shows.there i s g in
      (t.0, ap (λ ps. slice_get ps i) packets_now ∙ get_left v.packets (map (packet_of k) out) i _ t.1, t.2)

  new_there : (i j : ℕ) (s : Sent) → i ≡ length (sent plan before) + j → slice_get new j ≡ Some s → IsThere plan then u.packets i s
  unfolding packet_of
  new_there i j s e' g =
      let m = get_map {B = Sent} (λ (m : Packet). record { moment = e.moment; packet = m }) (map (packet_of k) out) j s g in
      let d = get_map (packet_of k) out j m.0 m.1 in
      let z = stands.size in
      let y' = shows.step.size in
      let place : i ≡ length v.packets + j = omega (arith, e', z, y') in
      let fresh : record m.0 { used = false } ≡ m.0 = ap (λ (c : Packet). record c { used = false }) (sym d.2) ∙ d.2 in
      let same_packet : record s.packet { used = false } ≡ m.0 = ap (λ (c : Sent). record c.packet { used = false }) (sym m.2) ∙ fresh in (
        false,
        ap (λ ps. slice_get ps i) packets_now ∙ ap (λ c. slice_get (v.packets ++ map (packet_of k) out) c) place ∙ get_right v.packets (map (packet_of k) out) j m.0 m.1 ∙ ap Some (sym same_packet),
        λ h. absurd (false≢true h),
      )

  there_now : (i : ℕ) (s : Sent) → slice_get (sent plan then) i ≡ Some s → IsThere plan then u.packets i s
  there_now i s g = elim (get_parts (sent plan before) new i s (sym (ap (λ l. slice_get l i) sent_now) ∙ g)) [
    | inl o ↦ old_there i s o
    | inr n ↦ new_there i n.0 s n.1 n.2
  ]

  letters_now : (i : ℕ) (s : Sent) → slice_get (sent plan then) i ≡ Some s → IsLetter plan s
  letters_now i s g = elim (old_new plan before e new sent_now i s g) [ inl o ↦ stands.letters i s o | inr n ↦ shows.letters s n.1 ]

  mine : (m j : ℕ) (s : Sent) → Among new s → IsFrom m j s → m ≡ k
  mine m j s n f = sym f.from ∙ from_k s n

  in_new : (j : ℕ) (s : Sent) → slice_get new j ≡ Some s → Among new s
  in_new j s g = get_among new j s g

  alone_now : (i j m l : ℕ) (s z : Sent) → slice_get (sent plan then) i ≡ Some s → slice_get (sent plan then) j ≡ Some z → IsFrom m l s → IsFrom m l z → i ≡ j
  alone_now i j m l s z g h f f' =
      go (get_parts (sent plan before) new i s (sym (ap (λ c. slice_get c i) sent_now) ∙ g)) (get_parts (sent plan before) new j z (sym (ap (λ c. slice_get c j) sent_now) ∙ h))
    where
      go : (slice_get (sent plan before) i ≡ Some s) ⊎ ((a : ℕ) × (i ≡ length (sent plan before) + a) × (slice_get new a ≡ Some s)) →
          (slice_get (sent plan before) j ≡ Some z) ⊎ ((a : ℕ) × (j ≡ length (sent plan before) + a) × (slice_get new a ≡ Some z)) → i ≡ j
      go (inl p) (inl r) = stands.alone i j m l s z p r f f'
      go (inl p) (inr r) =
          let n = in_new r.0 z r.2 in
          absurd (a.facts.silent (shows.lone z n f'.frame) i s p (f.from ∙ mine m l z n f') f.frame)
      go (inr p) (inl r) =
          let n = in_new p.0 s p.2 in
          absurd (a.facts.silent (shows.lone s n f.frame) j z r (f'.from ∙ mine m l s n f) f'.frame)
      go (inr p) (inr r) =
          let c = mine m l s (in_new p.0 s p.2) f in
          let e' = shows.apart p.0 r.0 l s z p.2 r.2 (subst (λ b. IsFrom b l s) c f) (subst (λ b. IsFrom b l z) c f') in
          let a' = p.1 in
          let b' = r.1 in
          omega (arith, e', a', b')

  numbered_now : AreNumbered plan then
  numbered_now f i t m d =
      let l = ap length sent_now in
      let b = length-append (sent plan before) new in
      elim (among_either before (e ∷ []) f m) [
        | inl o ↦ (let lt = stands.numbered f i t o d in omega (arith, lt, l, b))
        | inr o ↦ (let lt = the_event o in omega (arith, lt, l, b))
      ]
    where
      the_event : Among (e ∷ []) f → i < length (sent plan before)
      the_event (inl q) = shows.acts.number i t (ap (λ (c : Timed). c.does) q ∙ d)
      the_event (inr q) = absurd q

  until_now : (f : Timed) → Among then f → f.moment ≤ e.moment
  until_now f m = elim (among_either before (e ∷ []) f m) [ inl o ↦ until f o | inr o ↦ the_event o ]
    where
      the_event : Among (e ∷ []) f → f.moment ≤ e.moment
      the_event (inl q) = subst (λ (c : Timed). c.moment ≤ e.moment) q (omega arith)
      the_event (inr q) = absurd q

  -- ---- k itself

  ended : Ended plan k q y x
  ended = subst (Ended plan k q y) (sym shows.turned.is) (ends plan k q y fit.some below shows.turned.plays)

  facts_now : Facts plan then k q now
  facts_now = shows.facts sent_now

  taken_now : x.replica.taken ≡ now
  taken_now = taken_are x y shows.turned.is ∙ shows.turned.taken

  commit_now : (t : ℕ) → q ≡ Part.Passed t → IsComplete plan k x.replica → commit_at plan k ≡ e.moment
  commit_now t eq c = commits_at plan then k e.moment q now below (subst HasLogged (sym eq) tt) (λ f. subst IsFirst eq f) facts_now
      (λ m lt ne. subst (λ l. Among l m) taken_now (c m lt ne)) letters_now until_now (shows.why t eq c)

  lines_now : (i : ℕ) → filter (is_exec i) (done w e).lines ≡ filter (is_exec i) x.lines
  lines_now i = ap (filter (is_exec i)) shows.step.lines ∙ quiet_end i v k x y shows.turned.is shows.turned.excess shows.turned.replies

  quiet_lines : x.lines ≡ y.lines → (i : ℕ) → filter (is_exec i) (done w e).lines ≡ []
  quiet_lines same i = lines_now i ∙ ap (filter (is_exec i)) same ∙ shows.turned.quiet i

  exec_lines_now : x.lines ≡ y.lines ++ exec_line k [] (the_entry plan) ∷ [] → (i : ℕ) → filter (is_exec i) (done w e).lines ≡ cond (k == i) (exec_line k [] (the_entry plan) ∷ []) []
  exec_lines_now is i = lines_now i ∙ ap (filter (is_exec i)) is ∙ exec_line_of i k (the_entry plan) y.lines (shows.turned.quiet i)

  execs_then : (i : ℕ) (ls : List Line) → filter (is_exec i) (done w e).lines ≡ ls → exec_moments plan i then ≡ exec_moments plan i before ++ map (λ l. e.moment) ls
  unfolding execs_by
  execs_then i ls h = execs_more plan i before e ∙ ap (λ z. exec_moments plan i before ++ execs_by i z e) (sym w_is) ∙ ap (λ l. exec_moments plan i before ++ map (λ (l : Line). e.moment) l) h

  up_now : slice_get u.sites k ≡ Some (Site.Up x.replica)
  up_now = ap (λ ss. slice_get ss k) sites_now ∙ set_same w.sites k (Site.Up a.replica) (Site.Up x.replica) a.up

  actor_from : Ended plan k q y x → Actor plan then u k
  actor_from (Ended.Stays lines batch plays not) = record {
    replica = x.replica;
    part = q;
    up = up_now;
    plays = plays;
    unfinished = not;
    execs = execs_then k [] (quiet_lines lines k) ∙ append-nil (exec_moments plan k before) ∙ a.execs ∙ shows.same;
    facts = subst (Facts plan then k q) (sym taken_now) facts_now;
  }
  actor_from (Ended.Executes t eq plays c lines batch) = record {
    replica = x.replica;
    part = Part.Done t;
    up = up_now;
    plays = plays;
    unfinished = λ s z. absurd (cc);
    execs = execs_then k (exec_line k [] (the_entry plan) ∷ []) (exec_lines_now lines k ∙ ap (λ (b : Bool). cond b (exec_line k [] (the_entry plan) ∷ []) []) (eq-eqb k k refl))
        ∙ ap (λ l. l ++ e.moment ∷ []) (a.execs ∙ shows.same ∙ ap (execs_in plan k) eq) ∙ ap (λ m. m ∷ []) (sym (commit_now t eq c));
    facts = subst (Facts plan then k (Part.Done t)) (sym taken_now) (facts_done plan then k t now (subst (λ p. Facts plan then k p now) eq facts_now));
  }

  -- ---- the others

  others_quiet : Ended plan k q y x → (j : ℕ) → j ≢ k → filter (is_exec j) (done w e).lines ≡ []
  others_quiet (Ended.Stays lines batch plays not) j ne = quiet_lines lines j
  others_quiet (Ended.Executes t eq plays c lines batch) j ne = exec_lines_now lines j ∙ ap (λ (b : Bool). cond b (exec_line k [] (the_entry plan) ∷ []) []) (ne_eqb k j (λ z. ne (sym z)))

  other_actor : (j : ℕ) → j < plan.n → j ≢ k → Actor plan then u j
  other_actor j lt ne =
      let o = stands.actors j lt in
      record {
        replica = o.replica;
        part = o.part;
        up = ap (λ ss. slice_get ss j) sites_now ∙ set_other w.sites k j (Site.Up x.replica) ne ∙ o.up;
        plays = o.plays;
        unfinished = o.unfinished;
        execs = execs_then j [] (others_quiet ended j ne) ∙ append-nil (exec_moments plan j before) ∙ o.execs;
        facts = other_facts plan before e new sent_now k j o.part o.replica.taken ne shows.acts stands.numbered from_k o.facts;
      }

  actors_now : (j : ℕ) → j < plan.n → Actor plan then u j
  actors_now j lt = elim (cases_eq j k) [
    | inl eq ↦ subst (λ i. Actor plan then u i) (sym eq) (actor_from ended)
    | inr ne ↦ other_actor j lt ne
  ]

  -- ---- bytes

  bytes_now : u.bytes ≡ w.bytes + body_size x.batch + packets_size out
  bytes_now = ap (λ (z : World). z.bytes) shows.step.after ∙ bytes_after v k x ∙ ap (λ b. b + body_size x.batch + packets_size x.sends) shows.step.bytes ∙ ap (λ l. w.bytes + body_size x.batch + packets_size l) out_is

  kept_now : Ended plan k q y x → body_size x.batch ≤ body_size kept + 100
  kept_now (Ended.Stays lines batch plays not) = let e' = ap body_size (batch ∙ shows.turned.batch) in omega (arith, e')
  kept_now (Ended.Executes t eq plays c lines batch) =
      let e' = ap body_size (batch ∙ ap (λ l. l ++ Rec.Commit (the_stamp plan) ∷ []) shows.turned.batch) in
      let s = commit_kept plan kept in
      omega (arith, e', s)

  issued_now : Ended plan k q y x → weight_issued x.replica.issued ≡ weight_issued (issued_in q)
  issued_now (Ended.Stays lines batch plays not) = ap weight_issued plays.issued
  issued_now (Ended.Executes t eq plays c lines batch) = ap weight_issued plays.issued ∙ ap (λ p. weight_issued (issued_in p)) (sym eq)

  few_now : length u.packets ≤ u.bytes
  few_now =
      let l = ap length packets_now in
      let m = length-append v.packets (map (packet_of k) out) in
      let n = map_length (packet_of k) out in
      let f = packets_few out in
      let b = bytes_now in
      let z = shows.step.size in
      let o = stands.few in
      omega (arith, l, m, n, f, b, z, o)

  weight_now : u.bytes + sites_weight u.sites + packets_weight u.packets ≤ 200000
  unfolding out_weight
  weight_now =
      let b = bytes_now in
      let s = ap sites_weight sites_now in
      let t = set_site w.sites k a.replica x.replica a.up in
      let i = ap weight_issued a.plays.issued in
      let j = issued_now ended in
      let p = ap packets_weight packets_now in
      let r = weight_more v.packets (map (packet_of k) out) in
      let g = shows.gained in
      let c = shows.spent in
      let h = kept_now ended in
      let o = stands.weight in
      omega (arith, b, s, t, i, j, p, r, g, c, h, o)

  pub stands_now : Stands plan then u
  stands_now = record {
    size = size_now;
    there = there_now;
    letters = letters_now;
    alone = alone_now;
    numbered = numbered_now;
    actors = actors_now;
    few = few_now;
    weight = weight_now;
  }
