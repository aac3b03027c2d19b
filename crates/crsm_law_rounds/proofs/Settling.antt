-- The settle of a calm round: the frames that it delivers in order are received.
use Rattle.std.proofs.Common.{◌≡◌, ℕ, ◌+◌, ◌<◌, ◌≤◌, List, [], ◌∷◌, refl, sym, ◌∙◌, ap, subst, Bool, true, false, cond, arith, inl, inr}
use Rattle.std.specs.Prelude.{◌^◌, Option, Some, None, slice_get, slice_set}
use Rattle.std.specs.Option.{option_map_or}
use Rattle.std.proofs.lemmas.Bool.{false≢true}
use Rattle.crsm_spec.specs.Lists.{Among}
use Rattle.crsm_spec.specs.Replica.{Replica, next_from}
use Rattle.crsm_spec.specs.Step.{Input, step}
use Rattle.crsm_spec.specs.World.{Site, Packet, World, Moment, is_full, whole_step}
use Rattle.crsm_spec.specs.Acts.{Single, Act}
use Rattle.crsm_spec.specs.Moments.{use_up, begun_at, silent, come, single, step_at, step_at_site, deliverable, go_each, moments_of, world_after, act}
use Rattle.crsm_fact_log.specs.Logs.{same}
use Rattle.crsm_fact_log.proofs.Logged.{extends_trans}
use Rattle.crsm_law_steps.specs.Laws.{LogsGoOn}
use Rattle.crsm_law_steps.specs.Happenings.{WasSent}
use Rattle.crsm_law_steps.proofs.Happen.{got_among}
use Rattle.crsm_law_epoch.proofs.Words.{set_same}
use Rattle.crsm_law_active.specs.Staying.{IsCalmInput}
use Rattle.crsm_law_rounds.specs.Rounds.{GoesCalmly, IsFrameAt, Carries}
use Rattle.crsm_law_rounds.specs.Rounds.GoesCalmly.{stay, marks, by_packet}
use Rattle.crsm_law_rounds.proofs.Going.{IsAt, calm_at, calm_logs}
use Rattle.crsm_law_rounds.proofs.Ticks.{step_up, IsUpOrNot, Up, Off, up_or_not}

-- ---- one delivery

unfoldable pub after_go : ℕ → World → ℕ → World
after_go t v i = (single whole_step v (Single.Go i t)).after

go_is : (t : ℕ) (v : World) (i : ℕ) (m : Packet) → slice_get v.packets i ≡ Some m → after_go t v i ≡ (step_at whole_step (use_up i v) m.to (Input.Came m.from m.datagram) t).after
unfolding after_go single begun_at come
go_is t v i m e = ap (λ (o : Option Packet). (come whole_step (use_up i v) t o).after) e

pub mark_up : (i : ℕ) (w : World) (k : ℕ) (r : Replica) → slice_get w.sites k ≡ Some (Site.Up r) → slice_get (use_up i w).sites k ≡ Some (Site.Up r)
unfolding use_up
mark_up i w k r e = e

mark_off : (i : ℕ) (w : World) (k : ℕ) (r : Replica) → slice_get (use_up i w).sites k ≡ Some (Site.Up r) → slice_get w.sites k ≡ Some (Site.Up r)
unfolding use_up
mark_off i w k r e = e

-- the receiver makes a step
pub go_up : (t : ℕ) (v : World) (i : ℕ) (m : Packet) (r : Replica) → slice_get v.packets i ≡ Some m → slice_get v.sites m.to ≡ Some (Site.Up r) →
    after_go t v i ≡ (whole_step (use_up i v) m.to (step r (Input.Came m.from m.datagram) t)).after
go_up t v i m r e u = go_is t v i m e ∙ ap (λ (z : Moment). z.after) (step_up (use_up i v) m.to r (Input.Came m.from m.datagram) t (mark_up i v m.to r u))

-- or it is not up
step_off : (w : World) (k : ℕ) (input : Input) (t : ℕ) → ((r : Replica) → slice_get w.sites k ≡ Some (Site.Up r) → ⊥) → (step_at whole_step w k input t).after ≡ w
unfolding step_at step_at_site silent
step_off w k input t off = go (slice_get w.sites k) refl
  where
    go : (o : Option Site) → slice_get w.sites k ≡ o → (step_at_site whole_step w k input t o).after ≡ w
    go None e = refl
    go (Some (Site.Down log)) e = refl
    go (Some (Site.Up r)) e = absurd (off r e)

pub go_off : (t : ℕ) (v : World) (i : ℕ) (m : Packet) → slice_get v.packets i ≡ Some m → ((r : Replica) → slice_get v.sites m.to ≡ Some (Site.Up r) → ⊥) → after_go t v i ≡ use_up i v
go_off t v i m e off = go_is t v i m e ∙ step_off (use_up i v) m.to (Input.Came m.from m.datagram) t (λ r q. off r (mark_off i v m.to r q))

-- ---- the settle

pub settled : ℕ → List ℕ → World → World
settled t is v = world_after v (go_each t is v)

pub settle_is : (t : ℕ) (w : World) → (act w (Act.Settle t)).after ≡ settled t (deliverable w) w
unfolding act moments_of settled
settle_is t w = refl

settle_full : (t : ℕ) (is : List ℕ) (v : World) → is_full v ≡ true → is_full (settled t is v) ≡ true
unfolding go_each world_after settled after_go
settle_full t [] v f = f
settle_full t (i ∷ is) v f = subst (λ (b : Bool). is_full (world_after v (cond b [] (single whole_step v (Single.Go i t) ∷ go_each t is (after_go t v i)))) ≡ true) (sym f) f

pub room : (t : ℕ) (is : List ℕ) (v : World) → is_full (settled t is v) ≡ false → is_full v ≡ false
room t is v h = go (is_full v) refl
  where
    go : (b : Bool) → is_full v ≡ b → is_full v ≡ false
    go false f = f
    go true f = absurd (false≢true (sym h ∙ settle_full t is v f))

pub on : (t i : ℕ) (is : List ℕ) (v : World) → is_full v ≡ false → settled t (i ∷ is) v ≡ settled t is (after_go t v i)
unfolding go_each world_after settled after_go
on t i is v f = ap (λ (b : Bool). world_after v (cond b [] (single whole_step v (Single.Go i t) ∷ go_each t is (after_go t v i)))) f

pub off : (t : ℕ) (v : World) → settled t [] v ≡ v
unfolding go_each world_after settled
off t v = refl

-- ---- the number of the next frame from k at j

next_of : ℕ → Site → ℕ
next_of k (Site.Up r) = next_from r k
next_of k (Site.Down log) = 0

pub next_at : ℕ → ℕ → World → ℕ
next_at k j u = option_map_or (next_of k) (slice_get u.sites j) 0

pub next_is : (k j : ℕ) (u : World) (r : Replica) → slice_get u.sites j ≡ Some (Site.Up r) → next_at k j u ≡ next_from r k
unfolding next_at next_of
next_is k j u r e = ap (λ o. option_map_or (next_of k) o 0) e

pub next_same : (k j : ℕ) (u w : World) → slice_get w.sites j ≡ slice_get u.sites j → next_at k j w ≡ next_at k j u
unfolding next_at
next_same k j u w e = ap (λ o. option_map_or (next_of k) o 0) e

-- ---- logs go on

pub mark_sent : (u : World) (i : ℕ) (m : Packet) → (used : Bool) × (slice_get u.packets i ≡ Some (record m { used = used })) → WasSent (use_up i u) m.from m.to m.datagram
unfolding use_up
mark_sent u i m h = (
  true,
  subst (λ (o : Option Packet). Among (option_map_or (λ z. slice_set u.packets i (record z { used = true })) o u.packets) (record { from = m.from; to = m.to; datagram = m.datagram; used = true })) (sym h.1)
      (got_among _ i _ (set_same u.packets i (record m { used = h.0 }) (record m { used = true }) h.1)),
)

go_none : (t : ℕ) (v : World) (i : ℕ) → slice_get v.packets i ≡ None → after_go t v i ≡ use_up i v
unfolding after_go single begun_at come silent
go_none t v i e = ap (λ (o : Option Packet). (come whole_step (use_up i v) t o).after) e

pub go_logs : (t : ℕ) → t < 2 ^ 64 → (u : World) (i : ℕ) → LogsGoOn u (after_go t u i)
go_logs t lt u i = go (slice_get u.packets i) refl
  where
    nobody : ℕ → Type 0
    nobody k = ⊥

    by_receiver : (m : Packet) → slice_get u.packets i ≡ Some m → IsUpOrNot u m.to → LogsGoOn u (after_go t u i)
    by_receiver m e (Up r q) = subst (LogsGoOn u) (sym (go_up t u i m r e q))
        (calm_logs (λ k. ⊥) u (by_packet m.to t r m.from m.datagram lt (marks i stay) (mark_up i u m.to r q) (mark_sent u i m (m.used, e)) (λ c. absurd c)))
    by_receiver m e (Off n) = subst (LogsGoOn u) (sym (go_off t u i m e n)) (calm_logs (λ k. ⊥) u (marks i stay))

    go : (o : Option Packet) → slice_get u.packets i ≡ o → LogsGoOn u (after_go t u i)
    go None e = subst (LogsGoOn u) (sym (go_none t u i e)) (calm_logs (λ k. ⊥) u (marks i stay))
    go (Some m) e = by_receiver m e (up_or_not u m.to)

pub logs_then : (u v w : World) → LogsGoOn u v → LogsGoOn v w → LogsGoOn u w
logs_then u v w p q = λ k. extends_trans (p k) (q k)

full_stays : (t i : ℕ) (is : List ℕ) (u : World) → is_full u ≡ true → settled t (i ∷ is) u ≡ u
unfolding go_each world_after settled
full_stays t i is u f = ap (λ (b : Bool). world_after u (cond b [] (single whole_step u (Single.Go i t) ∷ go_each t is (single whole_step u (Single.Go i t)).after))) f

pub settle_logs : (t : ℕ) → t < 2 ^ 64 → (is : List ℕ) (u : World) → LogsGoOn u (settled t is u)
settle_logs t lt [] u = subst (LogsGoOn u) (sym (off t u)) (λ k. same)
settle_logs t lt (i ∷ is) u = go (is_full u) refl (settle_logs t lt is (after_go t u i))
  where
    go : (b : Bool) → is_full u ≡ b → LogsGoOn (after_go t u i) (settled t is (after_go t u i)) → LogsGoOn u (settled t (i ∷ is) u)
    go true f h = subst (LogsGoOn u) (sym (full_stays t i is u f)) (λ k. same)
    go false f h = subst (LogsGoOn u) (sym (on t i is u f)) (logs_then u (after_go t u i) (settled t is (after_go t u i)) (go_logs t lt u i) h)

-- ---- a settle from v, of which these are delivered

module _ (t : ℕ) (C : ℕ → Type 0) (v end : World) (lt : t < 2 ^ 64) (all : List ℕ)
    (packets : (i : ℕ) → Among all i → (m : Packet) × (slice_get v.packets i ≡ Some m))
    (calm : (u : World) → GoesCalmly C v [] u → LogsGoOn u end → (i : ℕ) (m : Packet) → Among all i → slice_get v.packets i ≡ Some m → C m.to → (r : Replica) →
    slice_get u.sites m.to ≡ Some (Site.Up r) → IsCalmInput r (Input.Came m.from m.datagram)) where
  abbrev G : World → Type 0
  G u = GoesCalmly C v [] u

  -- one of them goes
  pub go_calmly : (u : World) → G u → LogsGoOn u end → (i : ℕ) → Among all i → G (after_go t u i)
  go_calmly u g ends i a = (let p = packets i a in go p.0 p.1 (calm_at C v g i p.0 p.1) (up_or_not u p.0.to))
    where
      go : (m : Packet) → slice_get v.packets i ≡ Some m → IsAt u.packets i m → IsUpOrNot u m.to → G (after_go t u i)
      go m e h (Up r q) =
          subst G (sym (go_up t u i (record m { used = h.0 }) r h.1 q)) (by_packet m.to t r m.from m.datagram lt (marks i g) (mark_up i u m.to r q) (mark_sent u i m h)
          (λ c. calm u g ends i m a e c r q))
      go m e h (Off n) = subst G (sym (go_off t u i (record m { used = h.0 }) h.1 n)) (marks i g)

  abbrev Within : List ℕ → Type 0
  Within is = (i : ℕ) → Among is i → Among all i

  before_end : (is : List ℕ) (u : World) → LogsGoOn (settled t is u) end → LogsGoOn u end
  before_end is u h = logs_then u (settled t is u) end (settle_logs t lt is u) h

  pub settle_goes : (is : List ℕ) (u : World) → Within is → G u → LogsGoOn (settled t is u) end → is_full (settled t is u) ≡ false → G (settled t is u)
  settle_goes [] u sub g ends f = subst G (sym (off t u)) g
  settle_goes (i ∷ is) u sub g ends f =
      let o = on t i is u (room t (i ∷ is) u f) in
      subst G (sym o) (settle_goes is (after_go t u i) (λ j m. sub j (inr m)) (go_calmly u g (before_end (i ∷ is) u ends) i (sub i (inl refl)))
      (subst (λ z. LogsGoOn z end) o ends) (ap is_full (sym o) ∙ f))

  -- ---- a link

  module _ (k j e : ℕ)
      (never_back : (u : World) → G u → LogsGoOn u end → (i : ℕ) → Among all i → next_at k j u ≤ next_at k j (after_go t u i))
      (takes : (u : World) → G u → LogsGoOn u end → (i a : ℕ) → Among all i → IsFrameAt v.packets i k j e a → a ≤ next_at k j u → a + 1 ≤ next_at k j (after_go t u i)) where
    stays_ahead : (is : List ℕ) (u : World) → Within is → G u → LogsGoOn (settled t is u) end → is_full (settled t is u) ≡ false → next_at k j u ≤ next_at k j (settled t is u)
    stays_ahead [] u sub g ends f = subst (λ (z : World). next_at k j u ≤ next_at k j z) (sym (off t u)) (omega arith)
    stays_ahead (i ∷ is) u sub g ends f =
        let o = on t i is u (room t (i ∷ is) u f) in
        let before = before_end (i ∷ is) u ends in
        let here = sub i (inl refl) in
        let one = never_back u g before i here in
        let more = stays_ahead is (after_go t u i) (λ j m. sub j (inr m)) (go_calmly u g before i here) (subst (λ z. LogsGoOn z end) o ends) (ap is_full (sym o) ∙ f) in
        subst (λ (z : World). next_at k j u ≤ next_at k j z) (sym o) (omega (arith, one, more))

    -- all frames that are carried in order are taken
    pub all_come : (is : List ℕ) (u : World) (a q : ℕ) → Within is → G u → LogsGoOn (settled t is u) end → is_full (settled t is u) ≡ false → Carries v.packets k j e q is a →
        a ≤ next_at k j u → q ≤ next_at k j (settled t is u)
    all_come [] u a q sub g ends f c le = subst (λ (z : World). q ≤ next_at k j z) (sym (off t u)) (omega (arith, c, le))
    all_come (i ∷ is) u a q sub g ends f c le =
        let o = on t i is u (room t (i ∷ is) u f) in
        let before = before_end (i ∷ is) u ends in
        let here = sub i (inl refl) in
        let up = never_back u g before i here in
        let f' = ap is_full (sym o) ∙ f in
        let ends' = subst (λ z. LogsGoOn z end) o ends in
        let g' = go_calmly u g before i here in
        let rest : ((z : ℕ) → Among is z → Among all z) = λ z m. sub z (inr m) in
        elim c [
          | inl done ↦ (let b = stays_ahead (i ∷ is) u sub g ends f in omega (arith, done, le, b))
          | inr more ↦ elim more [
            | inl is_here ↦ (let n = takes u g before i a here is_here.0 le in
                subst (λ (z : World). q ≤ next_at k j z) (sym o) (all_come is (after_go t u i) (a + 1) q rest g' ends' f' is_here.1 n))
            | inr skip ↦ subst (λ (z : World). q ≤ next_at k j z) (sym o) (all_come is (after_go t u i) a q rest g' ends' f' skip (omega (arith, le, up)))
          ]
        ]
