-- Active replicas have counted what they received, in every world reached.
use Rattle.std.proofs.Common.{◌≡◌, ℕ, zero, suc, ◌<◌, List, [], ◌∷◌, ◌++◌, length, refl, sym, ◌∙◌, ap, subst, inl, inr, Bool, true, false, cond, arith, take, map}
use Rattle.std.specs.Prelude.{◌⊎◌, IsTrue, Option, Some, None, slice_get, slice_set, nat_lt, ◌==◌}
use Rattle.std.specs.Option.{option_map_or}
use Rattle.std.proofs.lemmas.Bool.{cases_eq, false≢true}
use Rattle.std.proofs.lemmas.Option.{none-some, same_Some}
use Rattle.std.proofs.lemmas.List.{append-nil, map-append}
use Rattle.crsm_spec.specs.Choice.{when◌then◌otherwise◌}
use Rattle.crsm_spec.specs.Types.{Entry, Rec, Datagram}
use Rattle.crsm_spec.specs.Lists.{Among, numbers_below}
use Rattle.crsm_spec.specs.Log.{Log, known, active, live, suspended, has_entered}
use Rattle.crsm_spec.specs.Replica.{Replica, fresh}
use Rattle.crsm_spec.specs.Draft.{Draft, begun, keep}
use Rattle.crsm_spec.specs.Step.{Input, step, boot, boot_again, founding_boot, first_boot}
use Rattle.crsm_spec.specs.World.{Site, World, Moment, begin, log_of, log_at, with_site, packet_of, whole_step, cut_step, lost_step, down, after_step, then_down}
use Rattle.crsm_spec.specs.Moments.{silent, begun_at, with_room, start_at}
use Rattle.crsm_fact_log.specs.Logs.{AllFit, Extends, same, Logged}
use Rattle.crsm_fact_log.proofs.Lists.{among_left, among_right, among_either, among_take}
use Rattle.crsm_fact_step.proofs.Fitted.{step_changes}
use Rattle.crsm_law_steps.specs.Laws.{LogsGoOn}
use Rattle.crsm_law_steps.specs.Happenings.{Marks, CanCome, Ends, Happens, IsReached}
use Rattle.crsm_law_steps.specs.Happenings.CanCome.{IsPacket, IsCommand, IsReply, IsTick, IsSuspicion}
use Rattle.crsm_law_steps.specs.Happenings.Ends.{IsWhole, IsCut, IsLost}
use Rattle.crsm_law_steps.specs.Happenings.Happens.{Nothing, Steps, Junk, Stops, Joins, Starts}
use Rattle.crsm_law_steps.specs.Happenings.IsReached.{first, next}
use Rattle.crsm_law_steps.proofs.Moments.{moment_goes_on}
use Rattle.crsm_law_epoch.specs.Worlds.{sent_in, IsWell}
use Rattle.crsm_law_epoch.specs.LogWorlds.{HasFewBoots}
use Rattle.crsm_law_epoch.proofs.Drafts.{outs}
use Rattle.crsm_law_epoch.proofs.LogBoots.{boots_grow}
use Rattle.crsm_law_epoch.proofs.LogWorlds.{is_well, up_numbers, get_range, from_zero}
use Rattle.crsm_law_epoch.proofs.Quiet.{entered_more}
use Rattle.crsm_law_epoch.proofs.Words.{among_map, set_same, set_other}
use Rattle.crsm_law_epoch.proofs.Worlds.{marked_sent, marked_sites, came_sent, packets_sent, map_take, up_same, set_nowhere, log_there, log_after, room_sent, room_seats, room_there, seat_log_at}
use Rattle.crsm_law_active.specs.Counted.{Counted, CountsHold, AcksAreEntered}
use Rattle.crsm_law_active.proofs.Replicas as of
use Rattle.crsm_law_active.proofs.Steps.{Mid, chain}

-- ---- what holds of a world

pub record HasCounted (w : World) : Type 0 where
  pub up : (k : ℕ) (r : Replica) → slice_get w.sites k ≡ Some (Site.Up r) → IsTrue (active r.log) → Counted k r (sent_in w)
  pub acks : (j m e a : ℕ) → Among (sent_in w) (Datagram.Ack j m e a) → IsTrue (has_entered e (log_at w j))

-- a world with other marks or with one more empty place is the same
alike : (w v : World) → ((k : ℕ) (r : Replica) → slice_get v.sites k ≡ Some (Site.Up r) → slice_get w.sites k ≡ Some (Site.Up r)) → ((k : ℕ) → log_at w k ≡ log_at v k) →
    sent_in w ≡ sent_in v → HasCounted w → HasCounted v
alike w v sites logs sent h = record {
  up = λ k r e a. subst (Counted k r) sent (h.up k r (sites k r e) a);
  acks = λ j m e a q. subst (λ l. IsTrue (has_entered e l)) (logs j) (h.acks j m e a (subst (λ l. Among l (Datagram.Ack j m e a)) (sym sent) q));
}

log_same : (w v : World) → v.sites ≡ w.sites → (k : ℕ) → log_at w k ≡ log_at v k
unfolding log_at
log_same w v e k = ap (λ ss. option_map_or log_of (slice_get ss k) []) (sym e)

marked : (w v : World) → Marks w v → HasCounted w → HasCounted v
marked w v p h = alike w v (λ k r e. subst (λ ss. slice_get ss k ≡ Some (Site.Up r)) (marked_sites p) e) (log_same w v (marked_sites p)) (sym (marked_sent p)) h

-- ---- one site changes

module _ (w u : World) (k : ℕ) (s t : Site) (there : slice_get w.sites k ≡ Some s) (is : u.sites ≡ slice_set w.sites k t) (h : HasCounted w)
    (more_is : (d : Datagram) → Among (sent_in w) d → Among (sent_in u) d)
    (new : (j m e a : ℕ) → Among (sent_in u) (Datagram.Ack j m e a) → Among (sent_in w) (Datagram.Ack j m e a) ⊎ (j ≡ k))
    (entered : (m e a : ℕ) → Among (sent_in u) (Datagram.Ack k m e a) → IsTrue (has_entered e (log_of t)))
    (here : (r : Replica) → t ≡ Site.Up r → IsTrue (active r.log) → Counted k r (sent_in u)) where
  site_here : slice_get u.sites k ≡ Some t
  site_here = ap (λ ss. slice_get ss k) is ∙ set_same w.sites k s t there

  site_other : (j : ℕ) → (j ≡ k → ⊥) → slice_get u.sites j ≡ slice_get w.sites j
  site_other j ne = ap (λ ss. slice_get ss j) is ∙ set_other w.sites k j t ne

  pub changed : HasCounted u
  unfolding log_at
  changed = record {
    up = λ j r e a. elim (cases_eq j k) [
      | inl q ↦ subst (λ i. Counted i r (sent_in u)) (sym q) (here r (same_Some t (Site.Up r) (sym site_here ∙ subst (λ i. slice_get u.sites i ≡ Some (Site.Up r)) q e)) a)
      | inr ne ↦ (let c = h.up j r (sym (site_other j ne) ∙ e) a in
          of.more_sent j r (sent_in w) (sent_in u) more_is (λ m b z. elim (new j m (known r.log) b z) [ inl old ↦ c.told m b old | inr q ↦ absurd (ne q) ]) c)
    ];
    acks = λ j m e a z. elim (cases_eq j k) [
      | inl q ↦ subst (λ i. IsTrue (has_entered e (option_map_or log_of (slice_get u.sites i) []))) (sym q)
          (subst (λ o. IsTrue (has_entered e (option_map_or log_of o []))) (sym site_here) (entered m e a (subst (λ i. Among (sent_in u) (Datagram.Ack i m e a)) q z)))
      | inr ne ↦ subst (λ o. IsTrue (has_entered e (option_map_or log_of o []))) (sym (site_other j ne))
          (h.acks j m e a (elim (new j m e a z) [ inl old ↦ old | inr q ↦ absurd (ne q) ]))
    ];
  }

pub down_up : (log : Log) (r : Replica) → Site.Down log ≡ Site.Up r → ⊥
down_up log r e = cc

down_log : (log : Log) → log_of (Site.Down log) ≡ log
unfolding log_of
down_log log = refl

up_log : (r : Replica) → log_of (Site.Up r) ≡ r.log
unfolding log_of
up_log r = refl

-- a replica that goes down with its log
went_down : (w : World) (k : ℕ) → HasCounted w → HasCounted (down w k).after
unfolding down with_site sent_in
went_down w k h = go (slice_get w.sites k) refl
  where
    go : (o : Option Site) → slice_get w.sites k ≡ o → HasCounted (down w k).after
    go (Some s) e = changed w (down w k).after k s (Site.Down (log_at w k)) e refl h (λ d q. q) (λ j m x a q. inl q)
        (λ m x a q. subst (λ l. IsTrue (has_entered x l)) (sym (down_log (log_at w k))) (h.acks k m x a q)) (λ r q. absurd (down_up (log_at w k) r q))
    go None e = let q = set_nowhere w.sites k (Site.Down (log_at w k)) e in
        alike w (down w k).after (λ j r z. subst (λ ss. slice_get ss j ≡ Some (Site.Up r)) q z) (log_same w (down w k).after q) refl h

-- ---- a step that ends

module _ (n : ℕ) (w : World) (h : HasCounted w) (k : ℕ) (s : Site) (there : slice_get w.sites k ≡ Some s) (x : Draft) (g : Mid n k (sent_in w) x) where
  part_new : (part : List Datagram) → ((d : Datagram) → Among part d → Among (outs x) d) → (j m e a : ℕ) → Among (sent_in w ++ part) (Datagram.Ack j m e a) →
      Among (sent_in w) (Datagram.Ack j m e a) ⊎ (j ≡ k)
  part_new part sub j m e a q = elim (among_either (sent_in w) part _ q) [ inl o ↦ inl o | inr o ↦ inr (g.own j m e a (sub _ o)) ]

  part_entered : (part : List Datagram) → ((d : Datagram) → Among part d → Among (outs x) d) → (m e a : ℕ) → Among (sent_in w ++ part) (Datagram.Ack k m e a) → IsTrue (has_entered e x.replica.log)
  part_entered part sub m e a q = g.entered m e a (elim (among_either (sent_in w) part _ q) [ inl o ↦ among_left (sent_in w) _ _ o | inr o ↦ among_right (sent_in w) _ _ (sub _ o) ])

  whole_sent : sent_in (whole_step w k x).after ≡ sent_in w ++ outs x
  unfolding whole_step after_step sent_in
  whole_sent = map-append (λ m. m.datagram) w.packets (map (packet_of k) x.sends) ∙ ap (λ l. map (λ m. m.datagram) w.packets ++ l) (packets_sent k x.sends)

  cut_sent : (count : ℕ) → sent_in (cut_step count w k x).after ≡ sent_in w ++ take count (outs x)
  unfolding cut_step then_down after_step sent_in
  cut_sent count = map-append (λ m. m.datagram) w.packets (map (packet_of k) (take count x.sends))
      ∙ ap (λ l. map (λ m. m.datagram) w.packets ++ l) (packets_sent k (take count x.sends) ∙ map_take count x.sends)

  lost_is : lost_step w k x ≡ down w k
  unfolding lost_step
  lost_is = refl

  pub ended : (m : Moment) → Ends w k x m → HasCounted m.after
  unfolding whole_step cut_step then_down after_step
  ended m IsWhole =
      let e = whole_sent in
      changed w m.after k s (Site.Up x.replica) there refl h (λ d q. subst (λ l. Among l d) (sym e) (among_left (sent_in w) _ d q))
      (λ j i p a q. part_new (outs x) (λ d z. z) j i p a (subst (λ l. Among l (Datagram.Ack j i p a)) e q))
      (λ i p a q. subst (λ l. IsTrue (has_entered p l)) (sym (up_log x.replica)) (part_entered (outs x) (λ d z. z) i p a (subst (λ l. Among l (Datagram.Ack k i p a)) e q)))
      (λ r q act. subst (λ z. Counted k z (sent_in m.after)) (up_same x.replica r q)
      (subst (Counted k x.replica) (sym e) (g.counts (subst (λ (z : Replica). IsTrue (active z.log)) (sym (up_same x.replica r q)) act))))
  ended m (IsCut count) =
      let e = cut_sent count in
      let sub : ((d : Datagram) → Among (take count (outs x)) d → Among (outs x) d) = λ d z. among_take count (outs x) d z in
      changed w m.after k s (Site.Down x.replica.log) there refl h (λ d q. subst (λ l. Among l d) (sym e) (among_left (sent_in w) _ d q))
      (λ j i p a q. part_new (take count (outs x)) sub j i p a (subst (λ l. Among l (Datagram.Ack j i p a)) e q))
      (λ i p a q. subst (λ l. IsTrue (has_entered p l)) (sym (down_log x.replica.log)) (part_entered (take count (outs x)) sub i p a (subst (λ l. Among l (Datagram.Ack k i p a)) e q)))
      (λ r q. absurd (down_up x.replica.log r q))
  ended m IsLost = subst (λ (z : Moment). HasCounted z.after) (sym lost_is) (went_down w k h)

-- ---- a step

mid_begun : (n : ℕ) (w : World) → HasCounted w → (k : ℕ) (r : Replica) → slice_get w.sites k ≡ Some (Site.Up r) → (r.me ≡ k) × (r.n ≡ n) → Mid n k (sent_in w) (begun r)
unfolding begun
mid_begun n w h k r e seat =
    let nil = append-nil (sent_in w) in
    record {
      me = seat.0;
      size = seat.1;
      counts = λ a. subst (Counted k r) (sym nil) (h.up k r e a);
      entered = λ m x a q. subst (λ l. IsTrue (has_entered x l)) (log_there w k r e) (h.acks k m x a (subst (λ l. Among l (Datagram.Ack k m x a)) nil q));
      own = λ j m x a q. absurd q;
    }

ack_sent : (w : World) (k : ℕ) (input : Input) → CanCome w k input → (a m j e i : ℕ) → input ≡ Input.Came a (Datagram.Ack m j e i) → Among (sent_in w) (Datagram.Ack m j e i)
unfolding sent_in
ack_sent w k input (IsPacket from d s) a m j e i q =
    let is : d ≡ Datagram.Ack m j e i = came_is from a d (Datagram.Ack m j e i) q in
    subst (λ z. Among (map (λ m. m.datagram) w.packets) z) is (among_map (λ m. m.datagram) w.packets _ s.1)
  where
    came_is : (a b : ℕ) (c d : Datagram) → Input.Came a c ≡ Input.Came b d → c ≡ d
    came_is a b c d h = cc
ack_sent w k input (IsCommand b c f) a m j e i q = absurd (cc)
ack_sent w k input (IsReply b c d t) a m j e i q = absurd (cc)
ack_sent w k input IsTick a m j e i q = absurd (cc)
ack_sent w k input (IsSuspicion ms f) a m j e i q = absurd (cc)

stepped : (n : ℕ) (w v : World) → Marks w v → HasCounted v → (k : ℕ) (r : Replica) → slice_get v.sites k ≡ Some (Site.Up r) → (r.me ≡ k) × (r.n ≡ n) → (input : Input) (reading : ℕ) →
    CanCome w k input → (m : Moment) → Ends v k (step r input reading) m → IsWell n m.after → HasCounted m.after
unfolding lost_step
stepped n w v p h k r e seat input reading c m ends well = elim (log_after v k r (step r input reading) e m ends) [
  | inr lost ↦ subst (λ (z : Moment). HasCounted z.after) (sym (lost ∙ lost_down v k (step r input reading))) (went_down v k h)
  | inl is ↦ (let z = step r input reading in
      let g = chain n k (sent_in v) r input reading seat.0
      (λ a j x i q inp. subst (λ l. Among l (Datagram.Frame j r.me x i q)) (sym (marked_sent p)) (came_sent w k input c a j r.me x i q inp))
      (λ a j x i inp. subst (λ l. Among l (Datagram.Ack j r.me x i)) (sym (marked_sent p)) (ack_sent w k input c a j r.me x i inp))
      z.replica.log (subst (AllFit k n) is (well.fit k)) (λ log x. well.distinct k log (subst (Extends log) (sym is) x))
      (step_changes r input reading) same (mid_begun n v h k r e seat) in
      ended n v h k (Site.Up r) e z g m ends)
]
  where
    lost_down : (w : World) (k : ℕ) (x : Draft) → lost_step w k x ≡ down w k
    lost_down w k x = refl

-- ---- starts

get_room : (ss : List Site) (i : ℕ) (r : Replica) → slice_get (ss ++ Site.Down [] ∷ []) i ≡ Some (Site.Up r) → slice_get ss i ≡ Some (Site.Up r)
get_room [] zero r h = absurd (down_up [] r (same_Some (Site.Down []) (Site.Up r) h))
get_room [] (suc i) r h = absurd (none-some _ h)
get_room (s ∷ ss) zero r h = h
get_room (s ∷ ss) (suc i) r h = get_room ss i r h

pub room_up : (w : World) (k j : ℕ) (r : Replica) → slice_get (with_room w k).sites j ≡ Some (Site.Up r) → slice_get w.sites j ≡ Some (Site.Up r)
unfolding with_room
room_up w k j r = go (k == length w.sites)
  where
    go : (c : Bool) → slice_get (cond c (record w { sites = w.sites ++ Site.Down [] ∷ [] }) w).sites j ≡ Some (Site.Up r) → slice_get w.sites j ≡ Some (Site.Up r)
    go true h = get_room w.sites j r h
    go false h = h

room : (w : World) (k : ℕ) → HasCounted w → HasCounted (with_room w k)
room w k h = alike w (with_room w k) (room_up w k) (λ j. sym (seat_log_at w j) ∙ ap (λ s. s.log) (room_seats w k j) ∙ seat_log_at (with_room w k) j) (room_sent w k) h

-- a replica that has just entered epoch 0 has counted nothing
founded : (k n : ℕ) (all : List Datagram) → ((m e a : ℕ) → Among all (Datagram.Ack k m e a) → ⊥) → Counted k (founding_boot k n).replica all
unfolding founding_boot boot_again keep begun fresh
founded k n all none = of.entered k all (founding_boot k n).replica refl refl refl refl refl refl refl (λ f h. no_first_entry k n f h.0) (λ m a h. none m _ a h)
  where
    no_first_entry : (k n : ℕ) (f : Entry) → Logged (founding_boot k n).replica.log f → ⊥
    no_first_entry k n f h = elim h [ inl e ↦ absurd (cc) | inr w ↦ elim w [ inl e ↦ absurd (cc) | inr z ↦ z ] ]

again : (n k : ℕ) (log : Log) (all : List Datagram) → ((m e a : ℕ) → Among all (Datagram.Ack k m e a) → IsTrue (has_entered e log)) → Mid n k all (boot_again k n log)
unfolding boot_again keep begun fresh active live suspended
again n k log all acks = record {
  me = refl;
  size = refl;
  counts = λ a. absurd (false≢true a);
  entered = λ m e a h. entered_more e (Rec.Boot k n) log (acks m e a (subst (λ l. Among l (Datagram.Ack k m e a)) (append-nil all) h));
  own = λ j m e a h. absurd h;
}

founding : (n k : ℕ) (all : List Datagram) → ((m e a : ℕ) → Among all (Datagram.Ack k m e a) → ⊥) → Mid n k all (founding_boot k n)
unfolding founding_boot boot_again keep begun fresh
founding n k all none = record {
  me = refl;
  size = refl;
  counts = λ a. subst (Counted k (founding_boot k n).replica) (sym (append-nil all)) (founded k n all none);
  entered = λ m e a h. absurd (none m e a (subst (λ l. Among l (Datagram.Ack k m e a)) (append-nil all) h));
  own = λ j m e a h. absurd h;
}

-- what a boot leaves, where `all` was sent
mid_boot : (n k : ℕ) (log : Log) (all : List Datagram) → ((m e a : ℕ) → Among all (Datagram.Ack k m e a) → IsTrue (has_entered e log)) → Mid n k all (boot k n log)
unfolding boot first_boot has_entered when◌then◌otherwise◌
mid_boot n k (rec ∷ log) all acks = again n k (rec ∷ log) all acks
mid_boot n k [] all acks = by_size (nat_lt k n) (founding n k all (λ m e a h. none_entered e (acks m e a h))) (again n k [] all acks)
  where
    none_entered : (e : ℕ) → IsTrue (has_entered e []) → ⊥
    none_entered e h = false≢true h

    by_size : (c : Bool) → Mid n k all (founding_boot k n) → Mid n k all (boot_again k n []) → Mid n k all (when c then founding_boot k n otherwise boot_again k n [])
    by_size true p q = p
    by_size false p q = q

started : (n : ℕ) (w : World) (k : ℕ) → w.n ≡ n → (k < length w.sites) ⊎ ((k ≡ length w.sites) × (k < 15)) → HasCounted w → HasCounted (start_at w k).after
unfolding start_at begun_at
started n w k size f h =
    let v = with_room w k in
    let t = room_there w k f in
    let hv = room w k h in
    ended v.n v hv k t.0 t.1 (boot k v.n (log_at v k)) (mid_boot v.n k (log_at v k) (sent_in v) (λ m e a q. hv.acks k m e a q)) (whole_step v k (boot k v.n (log_at v k))) IsWhole

moment_counted : (n : ℕ) (w : World) (m : Moment) → IsReached n w → Happens w m → IsWell n m.after → HasCounted w → HasCounted m.after
unfolding silent begun_at
moment_counted n w m r (Nothing v p) well h = marked w v p h
moment_counted n w m r (Steps v p k q e input reading lt c z ends) well h =
    stepped n w v p (marked w v p h) k q e (up_numbers n w r k q (subst (λ ss. slice_get ss k ≡ Some (Site.Up q)) (marked_sites p) e)) input reading c z ends well
moment_counted n w m r (Junk k q e z ends) well h = ended n w h k (Site.Up q) e (begun q) (mid_begun n w h k q e (up_numbers n w r k q e)) z ends
moment_counted n w m r (Stops k) well h = went_down w k h
moment_counted n w m r (Joins f) well h = room w (length w.sites) h
moment_counted n w m r (Starts k d f) well h = started w.n w k refl f h

-- ---- every world

first_counted : (n : ℕ) → HasCounted (begin n)
unfolding begin numbers_below sent_in
first_counted n = record {
  up = λ k r e a. (let t = get_range (λ k. Site.Up (founding_boot k n).replica) 0 n k (Site.Up r) e in
      subst (λ z. Counted k z []) (up_same (founding_boot k n).replica r (from_zero n k (Site.Up r) t.1)) (founded k n [] (λ m x b h. h)));
  acks = λ j m e a h. absurd h;
}

pub few_before : (w u : World) → LogsGoOn w u → HasFewBoots u → HasFewBoots w
few_before w u grows few k = let t = boots_grow (log_at w k) (log_at u k) (grows k) in let f = few k in omega (arith, t, f)

all_counted : (n : ℕ) (w : World) → IsReached n w → HasFewBoots w → HasCounted w
all_counted n w first few = first_counted n
all_counted n w (next {w = u} {m = m} r h) few =
    let few_u = few_before u m.after (moment_goes_on u m h) few in
    moment_counted n u m r h (is_well n m.after (next r h) few) (all_counted n u r few_u)

pub counts_hold : CountsHold
counts_hold n w q few k r e a = (all_counted n w q few).up k r e a

pub acks_are_entered : AcksAreEntered
acks_are_entered n w q few j m e a h = (all_counted n w q few).acks j m e a h
