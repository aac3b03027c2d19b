-- The ticks of a calm round.
use Rattle.std.proofs.Common.{◌≡◌, ℕ, suc, ◌+◌, ◌<◌, ◌≤◌, List, [], ◌∷◌, ◌++◌, length, refl, sym, ◌∙◌, ap, subst, inl, inr, Bool, true, false, cond, arith, map, append_assoc}
use Rattle.std.specs.Prelude.{◌^◌, IsTrue, Option, Some, None, slice_get, filter, not, ◌&&◌, ◌==◌}
use Rattle.std.specs.List.{enumerate_from}
use Rattle.std.proofs.lemmas.Bool.{cases_eq, eq-eqb, ne_eqb, false≢true}
use Rattle.std.proofs.lemmas.Option.{none-some, same_Some}
use Rattle.std.proofs.lemmas.List.{append-nil}
use Rattle.crsm_spec.specs.Types.{InEpoch, Datagram}
use Rattle.crsm_spec.specs.Lists.{Among}
use Rattle.crsm_spec.specs.Log.{active}
use Rattle.crsm_spec.specs.Replica.{Replica}
use Rattle.crsm_spec.specs.Step.{Input, step}
use Rattle.crsm_spec.specs.World.{Site, Packet, World, Moment, packet_of, is_up_at, whole_step}
use Rattle.crsm_spec.specs.Acts.{Single, Act}
use Rattle.crsm_spec.specs.Moments.{silent, step_at_site, step_at, single, deliverable, moments_of, world_after, act}
use Rattle.crsm_spec.specs.Run.{after_acts}
use Rattle.crsm_law_epoch.specs.Numbers.{Distinct}
use Rattle.crsm_law_active.specs.Again.{sent_to, frame_of}
use Rattle.crsm_law_rounds.specs.Rounds.{GoesCalmly, IsFrameAt, Carries}
use Rattle.crsm_law_rounds.specs.Rounds.GoesCalmly.{by_tick}
use Rattle.crsm_law_rounds.proofs.Going.{site_after, other_site, packets_after}

-- ---- one tick

unfoldable pub tick : ℕ → ℕ → World → World
tick t k w = (act w (Act.One (Single.Tick k t))).after

pub step_up : (w : World) (k : ℕ) (r : Replica) (input : Input) (t : ℕ) → slice_get w.sites k ≡ Some (Site.Up r) → step_at whole_step w k input t ≡ whole_step w k (step r input t)
unfolding step_at step_at_site
step_up w k r input t e = ap (step_at_site whole_step w k input t) e

pub tick_up : (t k : ℕ) (w : World) (r : Replica) → slice_get w.sites k ≡ Some (Site.Up r) → tick t k w ≡ (whole_step w k (step r Input.Ticked t)).after
unfolding tick act moments_of world_after single
tick_up t k w r e = ap (λ (m : Moment). m.after) (step_up w k r Input.Ticked t e)

-- a replica that is not there, or down, does nothing
step_off : (w : World) (k : ℕ) (input : Input) (t : ℕ) → ((r : Replica) → slice_get w.sites k ≡ Some (Site.Up r) → ⊥) → (step_at whole_step w k input t).after ≡ w
unfolding step_at step_at_site silent
step_off w k input t off = go (slice_get w.sites k) refl
  where
    go : (o : Option Site) → slice_get w.sites k ≡ o → (step_at_site whole_step w k input t o).after ≡ w
    go None e = refl
    go (Some (Site.Down log)) e = refl
    go (Some (Site.Up r)) e = absurd (off r e)

-- whether a replica is up
pub data IsUpOrNot (w : World) (k : ℕ) : Type 0 where
  Up : (r : Replica) → slice_get w.sites k ≡ Some (Site.Up r) → IsUpOrNot w k
  Off : ((r : Replica) → slice_get w.sites k ≡ Some (Site.Up r) → ⊥) → IsUpOrNot w k

pub up_or_not : (w : World) (k : ℕ) → IsUpOrNot w k
up_or_not w k = go (slice_get w.sites k) refl
  where
    down_up : (log : _) (r : Replica) → Site.Down log ≡ Site.Up r → ⊥
    down_up log r e = cc

    go : (o : Option Site) → slice_get w.sites k ≡ o → IsUpOrNot w k
    go None e = Off (λ r q. none-some _ (sym e ∙ q))
    go (Some (Site.Down log)) e = Off (λ r q. down_up log r (same_Some _ _ (sym e ∙ q)))
    go (Some (Site.Up r)) e = Up r e

tick_off : (t k : ℕ) (w : World) → ((r : Replica) → slice_get w.sites k ≡ Some (Site.Up r) → ⊥) → tick t k w ≡ w
unfolding tick act moments_of world_after single
tick_off t k w off = step_off w k Input.Ticked t off

pub tick_other : (t k : ℕ) (w : World) (j : ℕ) → (j ≡ k → ⊥) → slice_get (tick t k w).sites j ≡ slice_get w.sites j
tick_other t k w j ne = go (up_or_not w k)
  where
    go : IsUpOrNot w k → slice_get (tick t k w).sites j ≡ slice_get w.sites j
    go (Up r e) = ap (λ (u : World). slice_get u.sites j) (tick_up t k w r e) ∙ other_site w k j (step r Input.Ticked t) ne
    go (Off h) = ap (λ (u : World). slice_get u.sites j) (tick_off t k w h)

tick_packets : (t k : ℕ) (w : World) → (more : List Packet) × ((tick t k w).packets ≡ w.packets ++ more)
tick_packets t k w = go (up_or_not w k)
  where
    go : IsUpOrNot w k → (more : List Packet) × ((tick t k w).packets ≡ w.packets ++ more)
    go (Up r e) = (_, ap (λ (u : World). u.packets) (tick_up t k w r e) ∙ packets_after w k (step r Input.Ticked t))
    go (Off h) = ([], ap (λ (u : World). u.packets) (tick_off t k w h) ∙ sym (append-nil w.packets))

-- ---- all ticks

unfoldable pub ticks : ℕ → List ℕ → World → World
ticks t [] w = w
ticks t (k ∷ ks) w = ticks t ks (tick t k w)

pub acts_then : (w : World) (xs ys : List Act) → after_acts w (xs ++ ys) ≡ after_acts (after_acts w xs) ys
unfolding after_acts
acts_then w [] ys = refl
acts_then w (x ∷ xs) ys = acts_then (act w x).after xs ys

pub ticks_are : (t : ℕ) (ks : List ℕ) (w : World) → after_acts w (map (λ k. Act.One (Single.Tick k t)) ks) ≡ ticks t ks w
unfolding after_acts ticks tick
ticks_are t [] w = refl
ticks_are t (k ∷ ks) w = ticks_are t ks (tick t k w)

pub ticks_other : (t : ℕ) (ks : List ℕ) (w : World) (j : ℕ) → (Among ks j → ⊥) → slice_get (ticks t ks w).sites j ≡ slice_get w.sites j
unfolding ticks
ticks_other t [] w j n = refl
ticks_other t (k ∷ ks) w j n = ticks_other t ks (tick t k w) j (λ m. n (inr m)) ∙ tick_other t k w j (λ e. n (inl (sym e)))

pub ticks_packets : (t : ℕ) (ks : List ℕ) (w : World) → (more : List Packet) × ((ticks t ks w).packets ≡ w.packets ++ more)
unfolding ticks
ticks_packets t [] w = ([], sym (append-nil w.packets))
ticks_packets t (k ∷ ks) w =
    let a = tick_packets t k w in
    let b = ticks_packets t ks (tick t k w) in
    (a.0 ++ b.0, b.1 ∙ ap (λ l. l ++ b.0) a.1 ∙ append_assoc w.packets a.0 b.0)

-- what the tick of k has left when all have ticked: its datagrams stand together
pub record TickOf (t : ℕ) (ks : List ℕ) (w : World) (k : ℕ) (r : Replica) : Type 0 where
  pub before : List Packet
  pub more : List Packet
  pub packets : (ticks t ks w).packets ≡ before ++ (map (packet_of k) (step r Input.Ticked t).sends ++ more)
  pub up : slice_get (ticks t ks w).sites k ≡ Some (Site.Up (step r Input.Ticked t).replica)

pub tick_of : (t : ℕ) (ks : List ℕ) (w : World) (k : ℕ) (r : Replica) → Distinct ks → Among ks k → slice_get w.sites k ≡ Some (Site.Up r) → TickOf t ks w k r
unfolding ticks
tick_of t [] w k r d m e = absurd m
tick_of t (i ∷ ks) w k r d (inl q) e =
    let e' = subst (λ z. slice_get w.sites z ≡ Some (Site.Up r)) (sym q) e in
    let x = step r Input.Ticked t in
    let rest = ticks_packets t ks (tick t i w) in
    let is = tick_up t i w r e' in
    record {
      before = w.packets;
      more = rest.0;
      packets = rest.1 ∙ ap (λ l. l ++ rest.0) (ap (λ (u : World). u.packets) is ∙ packets_after w i x) ∙ append_assoc w.packets (map (packet_of i) x.sends) rest.0
          ∙ ap (λ z. w.packets ++ (map (packet_of z) x.sends ++ rest.0)) q;
      up = ticks_other t ks (tick t i w) k (λ h. d.0 (subst (Among ks) (sym q) h)) ∙ ap (λ (u : World). slice_get u.sites k) is
          ∙ subst (λ z. slice_get (whole_step w i x).after.sites z ≡ Some (Site.Up x.replica)) q (site_after w i (Site.Up r) x e');
    }
tick_of t (i ∷ ks) w k r d (inr m) e =
    let h = tick_of t ks (tick t i w) k r d.1 m (tick_other t i w k (λ q. d.0 (subst (Among ks) q m)) ∙ e) in
    record { before = h.before; more = h.more; packets = h.packets; up = h.up }

-- ---- the ticks as calm moments

pub record HaveTicked (t : ℕ) (C : ℕ → Type 0) (v : World) (ks : List ℕ) (w : World) : Type 0 where
  pub all : List ℕ
  pub goes : GoesCalmly C v all (ticks t ks w)

abbrev pub AllActive : List ℕ → World → Type 0
AllActive ks w = (k : ℕ) → Among ks k → (r : Replica) × (slice_get w.sites k ≡ Some (Site.Up r)) × IsTrue (active r.log)

pub have_ticked : (t : ℕ) (C : ℕ → Type 0) (v : World) (ks ts : List ℕ) (w : World) → t < 2 ^ 64 → Distinct ks → GoesCalmly C v ts w → AllActive ks w → HaveTicked t C v ks w
unfolding ticks
have_ticked t C v [] ts w lt d g a = record { all = ts; goes = g }
have_ticked t C v (k ∷ ks) ts w lt d g a =
    let one = a k (inl refl) in
    let is = tick_up t k w one.0 one.1 in
    let h = have_ticked t C v ks (k ∷ ts) (tick t k w) lt d.1 (subst (GoesCalmly C v (k ∷ ts)) (sym is) (by_tick k t one.0 lt g one.1 one.2))
    (λ j m. let b = a j (inr m) in (b.0, tick_other t k w j (λ e. d.0 (subst (Among ks) e m)) ∙ b.1, b.2)) in
    record { all = h.all; goes = h.goes }

-- ---- which numbers a settle delivers

-- the numbers, from a on, of those that pass the test
pub passing : (Packet → Bool) → ℕ → List Packet → List ℕ
passing P a ms = map (λ p. p.0) (filter (λ p. P p.1) (enumerate_from a ms))

unfoldable pub can_go : World → Packet → Bool
can_go w m = not m.used && is_up_at w m.to

pub deliverable_is : (w : World) → deliverable w ≡ passing (can_go w) 0 w.packets
unfolding deliverable passing can_go
deliverable_is w = refl

one_passing : (P : Packet → Bool) (a : ℕ) (m : Packet) (ms : List Packet) → passing P a (m ∷ ms) ≡ cond (P m) (a ∷ passing P (a + 1) ms) (passing P (a + 1) ms)
unfolding passing
one_passing P a m ms = go (P m)
  where
    go : (b : Bool) → map (λ (p : ℕ × Packet). p.0) (cond b ((a, m) ∷ filter (λ p. P p.1) (enumerate_from (a + 1) ms)) (filter (λ p. P p.1) (enumerate_from (a + 1) ms)))
        ≡ cond b (a ∷ map (λ (p : ℕ × Packet). p.0) (filter (λ p. P p.1) (enumerate_from (a + 1) ms))) (map (λ (p : ℕ × Packet). p.0) (filter (λ p. P p.1) (enumerate_from (a + 1) ms)))
    go true = refl
    go false = refl

pub passing_then : (P : Packet → Bool) (a : ℕ) (xs ys : List Packet) → passing P a (xs ++ ys) ≡ passing P a xs ++ passing P (a + length xs) ys
unfolding passing
passing_then P a [] ys = ap (λ i. passing P i ys) (omega arith) ∙ none P a (passing P (a + 0) ys)
  where
    none : (P : Packet → Bool) (a : ℕ) (zs : List ℕ) → zs ≡ passing P a [] ++ zs
    none P a zs = refl
passing_then P a (x ∷ xs) ys =
    one_passing P a x (xs ++ ys)
    ∙ ap (λ l. cond (P x) (a ∷ l) l) (passing_then P (a + 1) xs ys ∙ ap (λ i. passing P (a + 1) xs ++ passing P i ys) (omega arith))
    ∙ go (P x) (passing P (a + 1) xs) (passing P (a + length (x ∷ xs)) ys)
    ∙ ap (λ l. l ++ passing P (a + length (x ∷ xs)) ys) (sym (one_passing P a x xs))
  where
    go : (b : Bool) (l zs : List ℕ) → cond b (a ∷ l ++ zs) (l ++ zs) ≡ cond b (a ∷ l) l ++ zs
    go true l zs = refl
    go false l zs = refl

-- each number that passes is that of a datagram which does
pub passing_at : (P : Packet → Bool) (a : ℕ) (ms : List Packet) (i : ℕ) → Among (passing P a ms) i → (j : ℕ) × (m : Packet) × (a + j ≡ i) × (slice_get ms j ≡ Some m) × IsTrue (P m)
unfolding passing
passing_at P a [] i h = absurd (nothing P a i h)
  where
    nothing : (P : Packet → Bool) (a i : ℕ) → Among (passing P a []) i → ⊥
    nothing P a i h = h
passing_at P a (m ∷ ms) i h = go (P m) refl (subst (λ l. Among l i) (one_passing P a m ms) h) (λ q. passing_at P (a + 1) ms i q)
  where
    go : (b : Bool) → P m ≡ b → Among (cond b (a ∷ passing P (a + 1) ms) (passing P (a + 1) ms)) i →
        (Among (passing P (a + 1) ms) i → (j : ℕ) × (n : Packet) × (a + 1 + j ≡ i) × (slice_get ms j ≡ Some n) × IsTrue (P n)) →
        (j : ℕ) × (n : Packet) × (a + j ≡ i) × (slice_get (m ∷ ms) j ≡ Some n) × IsTrue (P n)
    go true e (inl q) k = (0, m, omega (arith, q), refl, e)
    go true e (inr q) k = let t = k q in (suc t.0, t.1, (let s = t.2 in omega (arith, s)), t.3, t.4)
    go false e q k = let t = k q in (suc t.0, t.1, (let s = t.2 in omega (arith, s)), t.3, t.4)

-- ---- the frames of a tick are carried in order

module _ (packets : List Packet) (k j e : ℕ) where
  pub carries_behind : (q : ℕ) (prefix is : List ℕ) (a : ℕ) → Carries packets k j e q is a → Carries packets k j e q (prefix ++ is) a
  carries_behind q [] is a h = h
  carries_behind q (i ∷ prefix) is a h = inr (inr (carries_behind q prefix is a h))

  pub carries_before : (q : ℕ) (is back : List ℕ) (a : ℕ) → Carries packets k j e q is a → Carries packets k j e q (is ++ back) a
  carries_before q [] [] a h = h
  carries_before q [] (i ∷ back) a h = inl h
  carries_before q (i ∷ is) back a (inl h) = inl h
  carries_before q (i ∷ is) back a (inr (inl h)) = inr (inl (h.0, carries_before q is back (a + 1) h.1))
  carries_before q (i ∷ is) back a (inr (inr h)) = inr (inr (carries_before q is back a h))

  module _ (P : Packet → Bool) (goes : (m : Packet) → m.used ≡ false → m.to ≡ j → P m ≡ true) where
    no_more : (a : ℕ) (fs : List InEpoch) → [] ≡ map (frame_of k e j) (enumerate_from a fs) → fs ≡ []
    no_more a [] h = refl
    no_more a (f ∷ fs) h = absurd (cc)

    head_same : (a b : Datagram) (ds es : List Datagram) → a ∷ ds ≡ b ∷ es → a ≡ b
    head_same a b ds es h = cc

    tail_same : (a b : Datagram) (ds es : List Datagram) → a ∷ ds ≡ b ∷ es → ds ≡ es
    tail_same a b ds es h = cc

    -- the next frame, and those behind it
    one_more : (a : ℕ) (d : Datagram) (ds : List Datagram) (fs : List InEpoch) → d ∷ ds ≡ map (frame_of k e j) (enumerate_from a fs) →
        (f : InEpoch) × (rest : List InEpoch) × (fs ≡ f ∷ rest) × (d ≡ frame_of k e j (a, f)) × (ds ≡ map (frame_of k e j) (enumerate_from (a + 1) rest))
    one_more a d ds [] h = absurd (cc)
    one_more a d ds (f ∷ fs) h = (f, fs, refl, head_same d _ ds _ h, tail_same d _ ds _ h)

    sent_here : (s : ℕ × Datagram) (ss : List (ℕ × Datagram)) → s.0 ≡ j → sent_to j (s ∷ ss) ≡ s.1 ∷ sent_to j ss
    unfolding sent_to
    sent_here s ss h = ap (λ (b : Bool). map (λ (z : ℕ × Datagram). z.1) (cond b (s ∷ filter (λ z. z.0 == j) ss) (filter (λ z. z.0 == j) ss))) (eq-eqb s.0 j h)

    sent_there : (s : ℕ × Datagram) (ss : List (ℕ × Datagram)) → (s.0 ≡ j → ⊥) → sent_to j (s ∷ ss) ≡ sent_to j ss
    unfolding sent_to
    sent_there s ss h = ap (λ (b : Bool). map (λ (z : ℕ × Datagram). z.1) (cond b (s ∷ filter (λ z. z.0 == j) ss) (filter (λ z. z.0 == j) ss))) (ne_eqb s.0 j h)

    none_sent : [] ≡ sent_to j []
    unfolding sent_to
    none_sent = refl

    at_prefix : (prefix rest : List Packet) (m : Packet) → slice_get (prefix ++ m ∷ rest) (length prefix) ≡ Some m
    at_prefix [] rest m = refl
    at_prefix (x ∷ prefix) rest m = at_prefix prefix rest m

    prefix_longer : (prefix : List Packet) (m : Packet) → length (prefix ++ m ∷ []) ≡ length prefix + 1
    prefix_longer [] m = omega arith
    prefix_longer (x ∷ prefix) m = let t = prefix_longer prefix m in omega (arith, t)

    -- the first datagram, and then the others
    step_on : (P : Packet → Bool) (q a : ℕ) (i : ℕ) (m : Packet) (rest : List ℕ) → (P m ≡ true → Carries packets k j e q (i ∷ rest) a) → (P m ≡ false → Carries packets k j e q rest a) →
        Carries packets k j e q (cond (P m) (i ∷ rest) rest) a
    step_on P q a i m rest passes out = go (P m) refl
      where
        go : (b : Bool) → P m ≡ b → Carries packets k j e q (cond b (i ∷ rest) rest) a
        go true h = passes h
        go false h = out h

    nothing_left : (a : ℕ) (fs : List InEpoch) → fs ≡ [] → a + length fs ≤ a
    nothing_left a fs h = subst (λ l. a + length l ≤ a) (sym h) (omega arith)

    to_frames : (me : ℕ) (s : ℕ × Datagram) → ((packet_of me s).used ≡ false) × ((packet_of me s).to ≡ s.0) × ((packet_of me s).datagram ≡ s.1)
    unfolding packet_of
    to_frames me s = (refl, refl, refl)

    framed : (a : ℕ) (f : InEpoch) → frame_of k e j (a, f) ≡ Datagram.Frame k j e a f
    unfolding frame_of
    framed a f = refl

    pub carries_sends : (me : ℕ) (sends : List (ℕ × Datagram)) (prefix more : List Packet) (a : ℕ) (fs : List InEpoch) →
        packets ≡ prefix ++ (map (packet_of me) sends ++ more) → sent_to j sends ≡ map (frame_of k e j) (enumerate_from a fs) →
        Carries packets k j e (a + length fs) (passing P (length prefix) (map (packet_of me) sends)) a
    unfolding passing
    carries_sends me [] prefix more a fs at is = no_numbers (length prefix) (nothing_left a fs (no_more a fs (none_sent ∙ is)))
      where
        no_numbers : (i : ℕ) → a + length fs ≤ a → Carries packets k j e (a + length fs) (passing P i []) a
        no_numbers i le = le
    carries_sends me (s ∷ ss) prefix more a fs at is =
        let m = packet_of me s in
        let rest = map (packet_of me) ss in
        let t = to_frames me s in
        let prefix2 = prefix ++ m ∷ [] in
        let at2 : packets ≡ prefix2 ++ (rest ++ more) = at ∙ sym (append_assoc prefix (m ∷ []) (rest ++ more)) in
        let numbers : passing P (length prefix2) rest ≡ passing P (length prefix + 1) rest = ap (λ i. passing P i rest) (prefix_longer prefix m) in
        elim (cases_eq s.0 j) [
          | inl to ↦ (let o = one_more a s.1 (sent_to j ss) fs (sym (sent_here s ss to) ∙ is) in
              let h = carries_sends me ss prefix2 more (a + 1) o.1 at2 o.4 in
              let size : a + 1 + length o.1 ≡ a + length fs = (let z = ap (λ (l : List InEpoch). length l) o.2 in omega (arith, z)) in
              let passes = goes m t.0 (t.1 ∙ to) in
              let found : IsFrameAt packets (length prefix) k j e a = (m, o.0, ap (λ l. slice_get l (length prefix)) at ∙ at_prefix prefix (rest ++ more) m, t.1 ∙ to, t.2 ∙ o.3 ∙ framed a o.0) in
              subst (λ l. Carries packets k j e (a + length fs) l a) (sym (one_passing P (length prefix) m rest))
              (step_on P (a + length fs) a (length prefix) m (passing P (length prefix + 1) rest)
              (λ w. inr (inl (found, subst (λ z. Carries packets k j e z (passing P (length prefix + 1) rest) (a + 1)) size (subst (λ l. Carries packets k j e (a + 1 + length o.1) l (a + 1)) numbers h))))
              (λ w. absurd (false≢true (sym w ∙ passes)))))
          | inr other ↦ (let h = carries_sends me ss prefix2 more a fs at2 (sym (sent_there s ss other) ∙ is) in
              let h2 = subst (λ l. Carries packets k j e (a + length fs) l a) numbers h in
              subst (λ l. Carries packets k j e (a + length fs) l a) (sym (one_passing P (length prefix) m rest))
              (step_on P (a + length fs) a (length prefix) m (passing P (length prefix + 1) rest) (λ w. inr (inr h2)) (λ w. h2)))
        ]
