-- Each delivery of a timeline is possible and extends it.
use Rattle.std.proofs.Common.{◌≡◌, ◌≢◌, ℕ, ◌+◌, ◌-◌, ◌<◌, ◌≤◌, List, [], ◌∷◌, ◌++◌, length, refl, sym, ◌∙◌, ap, subst, inl, inr, true, false, arith}
use Rattle.std.specs.Prelude.{◌^◌, Some, None, slice_get, slice_set}
use Rattle.std.proofs.lemmas.Bool.{cases_eq, cases_lt}
use Rattle.crsm_spec.specs.Types.{Datagram}
use Rattle.crsm_spec.specs.Lists.{Among}
use Rattle.crsm_spec.specs.Replica.{Replica}
use Rattle.crsm_spec.specs.Step.{Input, step}
use Rattle.crsm_spec.specs.World.{Site, Packet, World}
use Rattle.crsm_spec.specs.Acts.{Single, Act, FitsAct}
use Rattle.crsm_spec.specs.Possible.{possible}
use Rattle.crsm_fact_log.proofs.Lists.{among_left, among_either, get_inside}
use Rattle.crsm_spec_plan.specs.declared.Plan.{Plan}
use Rattle.crsm_spec_plan.specs.Plans.{delay_of, offset_of, reading, stamped, arrival}
use Rattle.crsm_spec_plan.specs.Timelines.{Timed, Sent, sent, request, tick, delivery, IsDue, Precedes}
use Rattle.crsm_law_timing.proofs.Local.{Part}
use Rattle.crsm_law_timing.proofs.Worlds.{at, IsStep, go_is}
use Rattle.crsm_law_timing.proofs.Letters.{IsFrame, letter, tick_of, latest}
use Rattle.crsm_law_timing.proofs.Weights.{packets_weight, set_used, packet_weight}
use Rattle.crsm_law_timing.proofs.Standing.{Actor, IsThere, Acts}
use Rattle.crsm_law_timing.proofs.Cases.{Here, not_yet, has_been, small, small_power, reading_small, happened, delivery_moment}
use Rattle.crsm_law_timing.proofs.Possible.{go_possible}
use Rattle.crsm_law_epoch.proofs.Words.{set_same, set_other}
use Rattle.std.proofs.lemmas.Option.{same_Some}

-- ---- deliveries are of their receiver

same_go : (i t j u : ℕ) → Single.Go i t ≡ Single.Go j u → j ≡ i
same_go i t j u q = cc

pub same_number : (plan : Plan) (i j : ℕ) (s z : Sent) → delivery plan i s ≡ delivery plan j z → j ≡ i
unfolding delivery
same_number plan i j s z q = same_go _ _ _ _ (ap (λ (f : Timed). f.does) q)

go_number : (plan : Plan) (i j t : ℕ) (s : Sent) → (delivery plan i s).does ≡ Single.Go j t → j ≡ i
unfolding delivery
go_number plan i j t s q = same_go _ _ _ _ q

pub no_request : (plan : Plan) (i : ℕ) (s : Sent) → delivery plan i s ≡ request plan → ⊥
unfolding delivery request
no_request plan i s q = other _ _ _ _ _ (ap (λ (f : Timed). f.does) q)
  where
    other : (j u k t : ℕ) (c : _) → Single.Go j u ≡ Single.Request k t c → ⊥
    other j u k t c q = cc

pub no_tick : (plan : Plan) (i j : ℕ) (s : Sent) → delivery plan i s ≡ tick_of plan j → ⊥
unfolding delivery tick_of tick
no_tick plan i j s q = other _ _ _ _ (ap (λ (f : Timed). f.does) q)
  where
    other : (j u k t : ℕ) → Single.Go j u ≡ Single.Tick k t → ⊥
    other j u k t q = cc

pub same_sent : (out : List Sent) (i j : ℕ) (s z : Sent) → slice_get out i ≡ Some s → slice_get out j ≡ Some z → j ≡ i → z ≡ s
same_sent out i j s z g h e = same_Some z s (sym h ∙ ap (λ n. slice_get out n) e ∙ g)

-- what has not happened so far has not happened by another event, and what has happened by then has happened before it
pub not_then : (before : List Timed) (e f : Timed) → (Among before f → ⊥) → (e ≡ f → ⊥) → Among (before ++ e ∷ []) f → ⊥
not_then before e f p q a = elim (among_either before (e ∷ []) f a) [ inl b ↦ p b | inr b ↦ here b ]
  where
    here : Among (e ∷ []) f → ⊥
    here (inl z) = q z
    here (inr z) = z

pub was_before : (before : List Timed) (e f : Timed) → (e ≡ f → ⊥) → Among (before ++ e ∷ []) f → Among before f
was_before before e f q a = elim (among_either before (e ∷ []) f a) [ inl b ↦ b | inr b ↦ here b ]
  where
    here : Among (e ∷ []) f → Among before f
    here (inl z) = absurd (q z)
    here (inr z) = absurd z

pub delivery_is : (plan : Plan) (i t m k : ℕ) (d : Datagram) → delivery plan i (letter t m k d) ≡ record { moment = t + delay_of plan m k; does = Single.Go i (reading plan k (t + delay_of plan m k)) }
unfolding delivery
delivery_is plan i t m k d = refl

pub tick_first : (plan : Plan) (k i : ℕ) (s : Sent) → (tick_of plan k).moment ≤ (delivery plan i s).moment → Precedes (tick_of plan k) (delivery plan i s)
unfolding tick_of tick delivery
tick_first plan k i s le = elim (cases_lt (tick_of plan k).moment (delivery plan i s).moment) [
  | inl lt ↦ inl lt
  | inr ge ↦ inr (omega (arith, le, ge), tt)
]

reads : (plan : Plan) (k : ℕ) → reading plan k (arrival plan k) ≤ stamped plan → reading plan k (stamped plan + 1 - offset_of plan k) ≡ stamped plan + 1
unfolding reading
reads plan k late = omega (arith, late)

pub later : (plan : Plan) (k : ℕ) → reading plan k (arrival plan k) ≤ stamped plan → arrival plan k < stamped plan + 1 - offset_of plan k
unfolding reading
later plan k late = omega (arith, late)

pub tick_due : (plan : Plan) (before : List Timed) (k : ℕ) → k < plan.n → k ≢ plan.origin → reading plan k (arrival plan k) ≤ stamped plan → IsDue plan before (tick_of plan k)
unfolding tick_of
tick_due plan before k lt ne late = IsDue.Ticks k (stamped plan + 1 - offset_of plan k) lt ne (reads plan k late) (later plan k late)

pub tick_moment_of : (plan : Plan) (k : ℕ) → (tick_of plan k).moment ≡ stamped plan + 1 - offset_of plan k
unfolding tick_of tick
tick_moment_of plan k = refl

beyond : (plan : Plan) (k moment : ℕ) → reading plan k (arrival plan k) ≤ stamped plan → stamped plan < reading plan k moment → stamped plan + 1 - offset_of plan k ≤ moment
unfolding reading
beyond plan k moment late lt = omega (arith, late, lt)

module _ (plan : Plan) (before : List Timed) (w : World) (i t m k : ℕ) (d : Datagram) (m_lt : m < plan.n) (k_lt : k < plan.n) (apart : m ≢ k) (t_le : t ≤ latest)
    (g : slice_get (sent plan before) i ≡ Some (letter t m k d)) (here : Here plan before (delivery plan i (letter t m k d)) w) where
  abbrev s : Sent
  s = letter t m k d

  abbrev moment : ℕ
  moment = t + delay_of plan m k

  abbrev e : Timed
  e = delivery plan i s

  pub actor : Actor plan before w k
  actor = here.stands.actors k k_lt

  abbrev packet : Packet
  packet = record { from = m; to = k; datagram = d; used = false }

  pub slot : slice_get w.packets i ≡ Some packet
  slot = go (here.stands.there i s g)
    where
      go : IsThere plan before w.packets i s → slice_get w.packets i ≡ Some packet
      go (true, at, used) = absurd (not_yet plan before e w here (used refl))
      go (false, at, used) = at

  abbrev v : World
  v = record w { packets = slice_set w.packets i (record packet { used = true }) }

  pub step_is : (r : Replica) → slice_get w.sites k ≡ Some (Site.Up r) → IsStep w e v k r (step r (Input.Came m d) (reading plan k moment))
  step_is r up = subst (λ f. IsStep w f v k r (step r (Input.Came m d) (reading plan k moment))) (sym (delivery_is plan i t m k d)) (go_is w moment i (reading plan k moment) packet r slot up)

  pub acts : Acts plan before e k
  acts = record {
    request = λ q. absurd (no_request plan i s q);
    tick = λ j q. absurd (no_tick plan i j s q);
    delivery = λ j z h q. ap (λ (c : Sent). c.packet.to) (same_sent (sent plan before) i j s z g h (same_number plan i j s z q));
    number = λ j u q. subst (λ c. c < length (sent plan before)) (sym (go_number plan i j u s q)) (inside (sent plan before) i s g);
  }
    where
      inside : (xs : List Sent) (i : ℕ) (a : Sent) → slice_get xs i ≡ Some a → i < length xs
      inside xs i a q = get_inside xs i a q

  pub there_then : (j : ℕ) (z : Sent) → slice_get (sent plan before) j ≡ Some z → IsThere plan (before ++ e ∷ []) v.packets j z
  there_then j z h = elim (cases_eq j i) [
    | inl q ↦ (let same : z ≡ s = same_sent (sent plan before) i j s z g h q in
        subst (λ c. IsThere plan (before ++ e ∷ []) v.packets j c) (sym same) (subst (λ c. IsThere plan (before ++ e ∷ []) v.packets c s) (sym q)
        (true, set_same w.packets i packet (record packet { used = true }) slot, λ u. happened before e)))
    | inr q ↦ (let o = here.stands.there j z h in (o.0, set_other w.packets i j (record packet { used = true }) q ∙ o.1, λ u. among_left before (e ∷ []) _ (o.2 u)))
  ]

  pub gained : packets_weight v.packets + packet_weight packet ≤ packets_weight w.packets
  gained = let h = set_used w.packets i packet slot in omega (arith, h)

  -- who still owes has a clock that is not past
  pub early : actor.part ≡ Part.Owing → reading plan k moment ≤ stamped plan
  early owing = elim (cases_eq k plan.origin) [
    | inl q ↦ absurd ((actor.facts.origin q).owes owing)
    | inr ne ↦ (let o = (actor.facts.other ne).owes owing in go ne o.0 o.1)
  ]
    where
      go : k ≢ plan.origin → reading plan k (arrival plan k) ≤ stamped plan → (Among before (tick_of plan k) → ⊥) → reading plan k moment ≤ stamped plan
      go ne late none = elim (cases_lt (stamped plan) (reading plan k moment)) [
        | inl lt ↦ absurd (none (has_been plan before e w here (tick_of plan k) (tick_due plan before k k_lt ne late)
            (tick_first plan k i s (let a = beyond plan k moment late lt in let b = tick_moment_of plan k in let c = delivery_moment plan i s in omega (arith, a, b, c)))))
        | inr le ↦ le
      ]

  -- a frame that is delivered was not taken before
  pub not_taken : IsFrame d → Among actor.replica.taken m → ⊥
  not_taken frame a =
      let c = actor.facts.came m a in
      let i' = c.0 in
      let s' = c.1 in
      let q : i' ≡ i = here.stands.alone i' i m k s' s c.2 g c.3 (record { frame = frame; from = refl; to = refl }) in
      let z : s' ≡ s = same_sent (sent plan before) i i' s s' g c.2 q in
      not_yet plan before e w here (subst (λ n. Among before (delivery plan n s)) q (subst (λ c. Among before (delivery plan i' c)) z c.4))

  moment_le : moment ≤ 2002000000001
  moment_le = let h = here.fit.delays m k in omega (arith, h, t_le)

  number_le : i < 2 ^ 64
  number_le =
      let h = get_inside w.packets i packet slot in
      let f = here.stands.few in
      let b = small plan before e w here in
      small_power i (omega (arith, h, f, b))

  pub fits : FitsAct (Act.One e.does)
  fits = subst (λ (f : Timed). FitsAct (Act.One f.does)) (sym (delivery_is plan i t m k d)) (number_le, reading_small plan k moment here.fit (let h = moment_le in omega (arith, h)))

  pub may : possible w (Act.One e.does) ≡ None
  may = subst (λ (f : Timed). possible w (Act.One f.does) ≡ None) (sym (delivery_is plan i t m k d)) (go_possible w i (reading plan k moment) packet actor.replica (small plan before e w here) slot refl actor.up)
