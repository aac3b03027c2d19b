-- The properties that a world keeps through calm rounds.
use Rattle.std.proofs.Common.{◌≡◌, ℕ, ◌+◌, ◌<◌, List, ◌∷◌, ◌++◌, refl, sym, ◌∙◌, ap, subst, inl, inr, Bool, true, cond, arith, map}
use Rattle.std.specs.Prelude.{◌^◌, Option, Some, None, slice_get, slice_set, count_by, ◌==◌}
use Rattle.std.specs.Option.{option_map_or}
use Rattle.std.proofs.lemmas.Bool.{cases_eq, eq-eqb, ne_eqb}
use Rattle.std.proofs.lemmas.Option.{same_Some}
use Rattle.std.proofs.lemmas.List.{map-append}
use Rattle.crsm_spec.specs.Types.{Datagram}
use Rattle.crsm_spec.specs.Lists.{Among}
use Rattle.crsm_spec.specs.Replica.{Replica}
use Rattle.crsm_spec.specs.Draft.{Draft}
use Rattle.crsm_spec.specs.Step.{Input, step}
use Rattle.crsm_spec.specs.World.{Site, Packet, World, Moment, packet_of, whole_step, after_step}
use Rattle.crsm_spec.specs.Moments.{use_up, silent, begun_at}
use Rattle.crsm_fact_log.specs.Logs.{same}
use Rattle.crsm_fact_log.proofs.Logged.{extends_trans}
use Rattle.crsm_fact_log.proofs.Lists.{among_left, get_left}
use Rattle.crsm_law_steps.specs.Laws.{LogsGoOn}
use Rattle.crsm_law_steps.specs.Happenings.{Marks, CanCome, Ends, Happens, IsReached, WasSent}
use Rattle.crsm_law_steps.proofs.Moments.{moment_goes_on}
use Rattle.crsm_law_epoch.specs.Worlds.{sent_in}
use Rattle.crsm_law_epoch.proofs.Words.{set_same, set_other, count_same, count_other}
use Rattle.crsm_law_epoch.proofs.Worlds.{marked_sent}
use Rattle.crsm_law_active.specs.Staying.{Stays}
use Rattle.crsm_law_active.proofs.Staying.{steps_stay}
use Rattle.crsm_law_rounds.specs.Rounds.{GoesCalmly}
use Rattle.crsm_law_rounds.specs.Rounds.GoesCalmly.{stay, marks, by_tick, by_packet}
use Rattle.crsm_law_rounds.proofs.Growing.{IsLater, later_self, later_then}

-- ---- one step

pub site_after : (w : World) (k : ℕ) (s : Site) (x : Draft) → slice_get w.sites k ≡ Some s → slice_get (whole_step w k x).after.sites k ≡ Some (Site.Up x.replica)
unfolding whole_step after_step
site_after w k s x e = set_same w.sites k s (Site.Up x.replica) e

pub other_site : (w : World) (k j : ℕ) (x : Draft) → (j ≡ k → ⊥) → slice_get (whole_step w k x).after.sites j ≡ slice_get w.sites j
unfolding whole_step after_step
other_site w k j x ne = set_other w.sites k j (Site.Up x.replica) ne

pub packets_after : (w : World) (k : ℕ) (x : Draft) → (whole_step w k x).after.packets ≡ w.packets ++ map (packet_of k) x.sends
unfolding whole_step after_step
packets_after w k x = refl

pub mark_sites : (i : ℕ) (w : World) → (use_up i w).sites ≡ w.sites
unfolding use_up
mark_sites i w = refl

-- ---- moments

-- a step of a calm world is a moment that happens
pub tick_happens : (t : ℕ) (w : World) (k : ℕ) (r : Replica) → t < 2 ^ 64 → slice_get w.sites k ≡ Some (Site.Up r) → Happens w (begun_at w (whole_step w k (step r Input.Ticked t)))
tick_happens t w k r lt e = Happens.Steps w Marks.none k r e Input.Ticked t lt CanCome.IsTick (whole_step w k (step r Input.Ticked t)) Ends.IsWhole

pub packet_happens : (t : ℕ) (w : World) (k : ℕ) (r : Replica) (from : ℕ) (d : Datagram) → t < 2 ^ 64 → slice_get w.sites k ≡ Some (Site.Up r) → WasSent w from k d →
    Happens w (begun_at w (whole_step w k (step r (Input.Came from d) t)))
packet_happens t w k r from d lt e s = Happens.Steps w Marks.none k r e (Input.Came from d) t lt (CanCome.IsPacket from d s) (whole_step w k (step r (Input.Came from d) t)) Ends.IsWhole

begun_after : (w : World) (m : Moment) → (begun_at w m).after ≡ m.after
unfolding begun_at
begun_after w m = refl

silent_after : (w v : World) → (silent w v).after ≡ v
unfolding silent
silent_after w v = refl

-- the replica of k is up, later in its epoch
pub record StaysUp (ticks k : ℕ) (r : Replica) (w : World) : Type 0 where
  pub replica : Replica
  pub up : slice_get w.sites k ≡ Some (Site.Up replica)
  pub later : IsLater ticks r replica

-- the datagram stands at this number, used or not
abbrev pub IsAt : List Packet → ℕ → Packet → Type 0
IsAt ps i m = (used : Bool) × (slice_get ps i ≡ Some (record m { used = used }))

pub up_one : (a b : Replica) → Site.Up a ≡ Site.Up b → a ≡ b
up_one a b h = cc

-- a calm step leaves a replica later in its epoch
pub stays_later : (ticks : ℕ) (r : Replica) (x : Draft) → Stays r ticks x → IsLater ticks r x.replica
stays_later ticks r x s = record { me = s.me; n = s.n; entries = s.entries; log = s.log; taken = s.taken; acked = s.acked; issued = s.issued; times = s.times }

module _ (C : ℕ → Type 0) (v : World) where
  pub calm_reached : (n : ℕ) → IsReached n v → {ts : List ℕ} {w : World} → GoesCalmly C v ts w → IsReached n w
  calm_reached n q stay = q
  calm_reached n q (marks {w = w} i g) = subst (IsReached n) (silent_after w (use_up i w)) (IsReached.next (calm_reached n q g) (Happens.Nothing (use_up i w) (Marks.mark i Marks.none)))
  calm_reached n q (by_tick {w = w} k t r lt g e a) = subst (IsReached n) (begun_after w (whole_step w k (step r Input.Ticked t))) (IsReached.next (calm_reached n q g) (tick_happens t w k r lt e))
  calm_reached n q (by_packet {w = w} k t r from d lt g e s c) = subst (IsReached n) (begun_after w (whole_step w k (step r (Input.Came from d) t))) (IsReached.next (calm_reached n q g) (packet_happens t w k r from d lt e s))

  pub calm_logs : {ts : List ℕ} {w : World} → GoesCalmly C v ts w → LogsGoOn v w
  calm_logs stay = λ k. same
  calm_logs (marks {w = w} i g) = λ k. extends_trans (calm_logs g k) (subst (λ u. LogsGoOn w u) (silent_after w (use_up i w)) (moment_goes_on w _ (Happens.Nothing (use_up i w) (Marks.mark i Marks.none))) k)
  calm_logs (by_tick {w = w} k t r lt g e a) = λ j. extends_trans (calm_logs g j) (subst (λ u. LogsGoOn w u) (begun_after w _) (moment_goes_on w _ (tick_happens t w k r lt e)) j)
  calm_logs (by_packet {w = w} k t r from d lt g e s c) = λ j. extends_trans (calm_logs g j) (subst (λ u. LogsGoOn w u) (begun_after w _) (moment_goes_on w _ (packet_happens t w k r from d lt e s)) j)

  -- ---- what was sent

  sent_on : (w : World) (k : ℕ) (x : Draft) (d : Datagram) → Among (sent_in w) d → Among (sent_in (whole_step w k x).after) d
  unfolding whole_step after_step sent_in
  sent_on w k x d h = subst (λ l. Among l d) (sym (map-append (λ (m : Packet). m.datagram) w.packets (map (packet_of k) x.sends))) (among_left (map (λ (m : Packet). m.datagram) w.packets) _ d h)

  pub calm_sent : {ts : List ℕ} {w : World} → GoesCalmly C v ts w → (d : Datagram) → Among (sent_in v) d → Among (sent_in w) d
  calm_sent stay d h = h
  calm_sent (marks {w = w} i g) d h = subst (λ l. Among l d) (sym (marked_sent (Marks.mark i Marks.none))) (calm_sent g d h)
  calm_sent (by_tick {w = w} k t r lt g e a) d h = sent_on w k _ d (calm_sent g d h)
  calm_sent (by_packet {w = w} k t r from e lt g q s c) d h = sent_on w k _ d (calm_sent g d h)

  -- a datagram keeps its place

  set_at : (ps : List Packet) (i j : ℕ) (m : Packet) (n : Packet) → slice_get ps i ≡ Some n → IsAt ps j m → IsAt (slice_set ps i (record n { used = true })) j m
  set_at ps i j m n e h = elim (cases_eq j i) [
    | inl q ↦ (let is : n ≡ record m { used = h.0 } = same_Some n _ (sym e ∙ subst (λ z. slice_get ps z ≡ Some (record m { used = h.0 })) q h.1) in (
      true,
      subst (λ z. slice_get (slice_set ps i (record n { used = true })) z ≡ Some (record m { used = true })) (sym q)
          (subst (λ (z : Packet). slice_get (slice_set ps i (record n { used = true })) i ≡ Some (record z { used = true })) is (set_same ps i n (record n { used = true }) e)),
    ))
    | inr ne ↦ (h.0, set_other ps i j (record n { used = true }) ne ∙ h.1)
  ]

  mark_at : (i : ℕ) (w : World) (j : ℕ) (m : Packet) → IsAt w.packets j m → IsAt (use_up i w).packets j m
  unfolding use_up
  mark_at i w j m h = go (slice_get w.packets i) refl
    where
      go : (o : Option Packet) → slice_get w.packets i ≡ o → IsAt (option_map_or (λ n. slice_set w.packets i (record n { used = true })) o w.packets) j m
      go None e = h
      go (Some n) e = set_at w.packets i j m n e h

  step_keeps_at : (w : World) (k : ℕ) (x : Draft) (j : ℕ) (m : Packet) → IsAt w.packets j m → IsAt (whole_step w k x).after.packets j m
  unfolding whole_step after_step
  step_keeps_at w k x j m h = (h.0, get_left w.packets (map (packet_of k) x.sends) j _ h.1)

  pub calm_at : {ts : List ℕ} {w : World} → GoesCalmly C v ts w → (j : ℕ) (m : Packet) → slice_get v.packets j ≡ Some m → IsAt w.packets j m
  calm_at stay j m e = (m.used, e)
  calm_at (marks {w = w} i g) j m e = mark_at i w j m (calm_at g j m e)
  calm_at (by_tick {w = w} k t r lt g q a) j m e = step_keeps_at w k _ j m (calm_at g j m e)
  calm_at (by_packet {w = w} k t r from d lt g q s c) j m e = step_keeps_at w k _ j m (calm_at g j m e)

  -- ---- a replica that takes calm input

  moved : (ticks more k j : ℕ) (r : Replica) (w : World) (q : Replica) (x : Draft) → slice_get w.sites j ≡ Some (Site.Up q) → StaysUp ticks k r w →
      ((k ≡ j) → Stays q more x) → ((k ≡ j → ⊥) → ticks ≡ ticks + more) → StaysUp (more + ticks) k r (whole_step w j x).after
  moved ticks more k j r w q x e h here there = elim (cases_eq k j) [
    | inl is ↦ (let same_one : h.replica ≡ q = up_one h.replica q (same_Some _ _ (sym h.up ∙ subst (λ i. slice_get w.sites i ≡ Some (Site.Up q)) (sym is) e)) in
        record {
          replica = x.replica;
          up = subst (λ i. slice_get (whole_step w j x).after.sites i ≡ Some (Site.Up x.replica)) (sym is) (site_after w j (Site.Up q) x e);
          later = later_then h.later (subst (λ z. IsLater more z x.replica) (sym same_one) (stays_later more q x (here is)));
        })
    | inr ne ↦ record {
      replica = h.replica;
      up = other_site w j k x ne ∙ h.up;
      later = subst (λ i. IsLater i r h.replica) (let s = there ne in omega (arith, s)) h.later;
    }
  ]

  count_more : (k j : ℕ) (ts : List ℕ) → count_by (λ i. i == k) (j ∷ ts) ≡ cond (j == k) 1 0 + count_by (λ i. i == k) ts
  count_more k j ts = elim (cases_eq j k) [
    | inl e ↦ (let c = subst (λ i. count_by (λ z. z == k) (i ∷ ts) ≡ count_by (λ z. z == k) ts + 1) (sym e) (count_same k ts) in
        let t1 = ap {B = ℕ} (λ (b : Bool). cond b 1 0) (eq-eqb j k e) in omega (arith, c, t1))
    | inr ne ↦ (let c = count_other j k ts ne in let t0 = ap {B = ℕ} (λ (b : Bool). cond b 1 0) (ne_eqb j k ne) in omega (arith, c, t0))
  ]

  pub calm_later : (k : ℕ) (r : Replica) → C k → slice_get v.sites k ≡ Some (Site.Up r) → {ts : List ℕ} {w : World} → GoesCalmly C v ts w → StaysUp (count_by (λ j. j == k) ts) k r w
  calm_later k r c e stay = record { replica = r; up = e; later = later_self r }
  calm_later k r c e (marks {w = w} i g) = let h = calm_later k r c e g in record { replica = h.replica; up = ap (λ ss. slice_get ss k) (mark_sites i w) ∙ h.up; later = h.later }
  calm_later k r c e (by_tick {ticks = ts} {w = w} j t q lt g p a) =
      subst (λ i. StaysUp i k r (whole_step w j (step q Input.Ticked t)).after) (sym (count_more k j ts))
      (moved (count_by (λ i. i == k) ts) (cond (j == k) 1 0) k j r w q (step q Input.Ticked t) p (calm_later k r c e g)
      (λ is. subst (λ i. Stays q i (step q Input.Ticked t)) (sym (ap {B = ℕ} (λ (b : Bool). cond b 1 0) (eq-eqb j k (sym is)))) (steps_stay q Input.Ticked t a))
      (λ ne. let z = ap {B = ℕ} (λ (b : Bool). cond b 1 0) (ne_eqb j k (λ s. ne (sym s))) in omega (arith, z)))
  calm_later k r c e (by_packet {ticks = ts} {w = w} j t q from d lt g p s calm) =
      let count = count_by (λ i. i == k) ts in
      let none : 0 + count ≡ count = omega arith in
      subst (λ i. StaysUp i k r (whole_step w j (step q (Input.Came from d) t)).after) none
      (moved count 0 k j r w q (step q (Input.Came from d) t) p (calm_later k r c e g) (λ is. steps_stay q (Input.Came from d) t (calm (subst C is c))) (λ ne. omega arith))
