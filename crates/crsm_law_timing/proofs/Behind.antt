-- The events that have to happen are in one order, and the next one is after all that have happened.
use Rattle.std.proofs.Common.{◌≡◌, ℕ, ◌<◌, ◌≤◌, List, [], ◌∷◌, ◌++◌, length, refl, sym, ◌∙◌, ap, subst, inl, inr, arith}
use Rattle.std.specs.Prelude.{◌⊎◌, Some, slice_get}
use Rattle.std.proofs.lemmas.Bool.{cases_lt}
use Rattle.std.proofs.lemmas.Option.{same_Some}
use Rattle.crsm_spec.specs.Lists.{Among}
use Rattle.crsm_spec.specs.World.{Packet}
use Rattle.crsm_fact_log.proofs.Lists.{among_left, among_right, among_either, get_inside, get_left}
use Rattle.crsm_law_epoch.proofs.Words.{among_unmap, get_among}
use Rattle.crsm_spec_plan.specs.declared.Plan.{Plan}
use Rattle.crsm_spec_plan.specs.Timelines.{Timed, Sent, sent, request, tick, delivery, IsDue, Precedes}
use Rattle.crsm_law_timing.specs.SoFar.{IsNext, IsSoFar}
use Rattle.crsm_law_timing.proofs.Order.{no_later, precedes_then}
use Rattle.crsm_law_timing.proofs.Worlds.{at, sends_by, sent_more, sent_split}
use Rattle.crsm_law_timing.proofs.Letters.{get_parts}
use Rattle.crsm_law_timing.proofs.Cases.{delivery_moment}

-- ---- one order

IsEither : Timed → Timed → Type 0
IsEither f g = Precedes f g ⊎ (f ≡ g) ⊎ Precedes g f

three : (a b : ℕ) → (a < b) ⊎ (a ≡ b) ⊎ (b < a)
three a b = elim (cases_lt a b) [
  | inl lt ↦ inl lt
  | inr ge ↦ elim (cases_lt b a) [ inl gt ↦ inr (inr gt) | inr le ↦ inr (inl (omega (arith, ge, le))) ]
]

-- two events are in order if they are where they happen at one moment
by_moment : (f g : Timed) → (f.moment ≡ g.moment → IsEither f g) → IsEither f g
unfolding IsEither
by_moment f g same = elim (three f.moment g.moment) [
  | inl lt ↦ inl (inl lt)
  | inr (inl eq) ↦ same eq
  | inr (inr gt) ↦ inr (inr (inl gt))
]

turned : (f g : Timed) → IsEither f g → IsEither g f
unfolding IsEither
turned f g (inl p) = inr (inr p)
turned f g (inr (inl q)) = inr (inl (sym q))
turned f g (inr (inr p)) = inl p

request_tick : (plan : Plan) (k moment : ℕ) → IsEither (request plan) (tick plan k moment)
unfolding request tick IsEither
request_tick plan k moment = by_moment (request plan) (tick plan k moment) (λ e. inl (inr (e, tt)))

request_go : (plan : Plan) (i : ℕ) (s : Sent) → IsEither (request plan) (delivery plan i s)
unfolding request delivery IsEither
request_go plan i s = by_moment (request plan) (delivery plan i s) (λ e. inl (inr (e, tt)))

tick_go : (plan : Plan) (k moment i : ℕ) (s : Sent) → IsEither (tick plan k moment) (delivery plan i s)
unfolding tick delivery IsEither
tick_go plan k moment i s = by_moment (tick plan k moment) (delivery plan i s) (λ e. inl (inr (e, tt)))

tick_tick : (plan : Plan) (k moment j then : ℕ) → IsEither (tick plan k moment) (tick plan j then)
unfolding tick IsEither
tick_tick plan k moment j then = by_moment (tick plan k moment) (tick plan j then) (λ e. elim (three k j) [
  | inl lt ↦ inl (inr (e, lt))
  | inr (inl eq) ↦ inr (inl (ap (λ m. tick plan k m) e ∙ ap (λ i. tick plan i then) eq))
  | inr (inr gt) ↦ inr (inr (inr (sym e, gt)))
])

go_before : (plan : Plan) (i j : ℕ) (s z : Sent) → i < j → (delivery plan i s).moment ≡ (delivery plan j z).moment → Precedes (delivery plan i s) (delivery plan j z)
unfolding delivery
go_before plan i j s z lt e = inr (e, lt)

go_go : (plan : Plan) (es : List Timed) (i j : ℕ) (s z : Sent) → slice_get (sent plan es) i ≡ Some s → slice_get (sent plan es) j ≡ Some z → IsEither (delivery plan i s) (delivery plan j z)
unfolding IsEither
go_go plan es i j s z g h = elim (three i j) [
  | inl lt ↦ by_moment (delivery plan i s) (delivery plan j z) (λ e. inl (go_before plan i j s z lt e))
  | inr (inl eq) ↦ inr (inl (ap (delivery plan i) (same_Some s z (sym g ∙ ap (slice_get (sent plan es)) eq ∙ h)) ∙ ap (λ n. delivery plan n z) eq))
  | inr (inr gt) ↦ by_moment (delivery plan i s) (delivery plan j z) (λ e. inr (inr (go_before plan j i z s gt (sym e))))
]

-- two events that have to happen are one, or one of them happens before the other
due_in_order : (plan : Plan) (es : List Timed) (f g : Timed) → IsDue plan es f → IsDue plan es g → IsEither f g
unfolding IsEither
due_in_order plan es f g IsDue.Comes IsDue.Comes = inr (inl refl)
due_in_order plan es f g IsDue.Comes (IsDue.Ticks k m lt ne reads late) = request_tick plan k m
due_in_order plan es f g IsDue.Comes (IsDue.Arrives i s h) = request_go plan i s
due_in_order plan es f g (IsDue.Ticks k m lt ne reads late) IsDue.Comes = turned (request plan) (tick plan k m) (request_tick plan k m)
due_in_order plan es f g (IsDue.Ticks k m lt ne reads late) (IsDue.Ticks j n lt' ne' reads' late') = tick_tick plan k m j n
due_in_order plan es f g (IsDue.Ticks k m lt ne reads late) (IsDue.Arrives i s h) = tick_go plan k m i s
due_in_order plan es f g (IsDue.Arrives i s h) IsDue.Comes = turned (request plan) (delivery plan i s) (request_go plan i s)
due_in_order plan es f g (IsDue.Arrives i s h) (IsDue.Ticks k m lt ne reads late) = turned (tick plan k m) (delivery plan i s) (tick_go plan k m i s)
due_in_order plan es f g (IsDue.Arrives i s h) (IsDue.Arrives j z h') = go_go plan es i j s z h h'

pub due_either : (plan : Plan) (es : List Timed) (f g : Timed) → IsDue plan es f → IsDue plan es g → Precedes f g ⊎ (f ≡ g) ⊎ Precedes g f
unfolding IsEither
due_either plan es f g d d' = due_in_order plan es f g d d'

-- ---- what had to happen has to happen later too

pub due_later : (plan : Plan) (es more : List Timed) (f : Timed) → IsDue plan es f → IsDue plan (es ++ more) f
due_later plan es more f IsDue.Comes = IsDue.Comes
due_later plan es more f (IsDue.Ticks k moment lt ne reads late) = IsDue.Ticks k moment lt ne reads late
due_later plan es more f (IsDue.Arrives i s g) =
    let t = sent_split plan es more in
    IsDue.Arrives i s (ap (λ l. slice_get l i) t.1 ∙ get_left (sent plan es) t.0 i s g)

-- a datagram that an event sends
pub record IsNew (plan : Plan) (es : List Timed) (g e : Timed) : Type 0 where
  pub number : ℕ
  pub letter : Sent
  pub got : slice_get (sent plan (es ++ g ∷ [])) number ≡ Some letter
  pub new : length (sent plan es) ≤ number
  pub moment : letter.moment ≡ g.moment
  pub is : e ≡ delivery plan number letter

sent_then : (plan : Plan) (es : List Timed) (g : Timed) (s : Sent) → Among (sends_by (at plan es) g) s → s.moment ≡ g.moment
unfolding sends_by
sent_then plan es g s a = let t = among_unmap {B = Sent} (λ (m : Packet). record { moment = g.moment; packet = m }) _ s a in ap (λ (z : Sent). z.moment) (sym t.2)

-- what has to happen after an event had to before, or is the delivery of what it sends
pub due_then : (plan : Plan) (es : List Timed) (g e : Timed) → IsDue plan (es ++ g ∷ []) e → IsDue plan es e ⊎ IsNew plan es g e
due_then plan es g e IsDue.Comes = inl IsDue.Comes
due_then plan es g e (IsDue.Ticks k moment lt ne reads late) = inl (IsDue.Ticks k moment lt ne reads late)
due_then plan es g e (IsDue.Arrives i s h) = elim (get_parts (sent plan es) (sends_by (at plan es) g) i s (sym (ap (λ l. slice_get l i) (sent_more plan es g)) ∙ h)) [
  | inl old ↦ inl (IsDue.Arrives i s old)
  | inr new ↦ inr (record {
    number = i;
    letter = s;
    got = h;
    new = (let q = new.1 in omega (arith, q));
    moment = sent_then plan es g s (get_among (sends_by (at plan es) g) new.0 s new.2);
    is = refl;
  })
]

-- ---- the next event is behind all that has happened

go_first : (plan : Plan) (es : List Timed) (i : ℕ) (s : Sent) (g : Timed) → IsDue plan es g → length (sent plan es) ≤ i → (delivery plan i s).moment ≡ g.moment → Precedes (delivery plan i s) g → ⊥
unfolding request tick delivery
go_first plan es i s g IsDue.Comes le m (inl p) = absurd (omega (arith, m, p))
go_first plan es i s g IsDue.Comes le m (inr p) = p.1
go_first plan es i s g (IsDue.Ticks k moment lt ne reads late) le m (inl p) = absurd (omega (arith, m, p))
go_first plan es i s g (IsDue.Ticks k moment lt ne reads late) le m (inr p) = p.1
go_first plan es i s g (IsDue.Arrives j z h) le m (inl p) = absurd (omega (arith, m, p))
go_first plan es i s g (IsDue.Arrives j z h) le m (inr p) = let q = p.1 in let b = get_inside (sent plan es) j z h in absurd (omega (arith, q, b, le))

-- the delivery of what an event sends is behind it
new_not_before : (plan : Plan) (es : List Timed) (g e : Timed) → IsDue plan es g → IsNew plan es g e → Precedes e g → ⊥
new_not_before plan es g e due n p = go (subst (λ f. Precedes f g) n.is p)
  where
    go : Precedes (delivery plan n.number n.letter) g → ⊥
    go p =
        let le = no_later (delivery plan n.number n.letter) g p in
        let m = n.moment in
        let i = delivery_moment plan n.number n.letter in
        go_first plan es n.number n.letter g due n.new (omega (arith, le, m, i)) p

pub behind : (plan : Plan) (es : List Timed) (e : Timed) → IsSoFar plan es → IsNext plan es e → (f : Timed) → Among es f → Precedes f e
behind plan es e IsSoFar.nothing next f a = absurd a
behind plan es e (IsSoFar.more {es = before} g so was) next f a = elim (among_either before (g ∷ []) f a) [
  | inl b ↦ precedes_then f g e (behind plan before g so was f b) last
  | inr b ↦ here b
]
  where
    not_before : Precedes e g → ⊥
    not_before p = elim (due_then plan before g e next.due) [
      | inl d ↦ next.not_yet (among_left before (g ∷ []) e (was.earliest e d p))
      | inr n ↦ new_not_before plan before g e was.due n p
    ]

    last : Precedes g e
    last = elim (due_either plan (before ++ g ∷ []) g e (due_later plan before (g ∷ []) g was.due) next.due) [
      | inl p ↦ p
      | inr (inl q) ↦ absurd (next.not_yet (subst (Among (before ++ g ∷ [])) q (among_right before (g ∷ []) g (inl refl))))
      | inr (inr p) ↦ absurd (not_before p)
    ]

    here : Among (g ∷ []) f → Precedes f e
    here (inl q) = subst (λ h. Precedes h e) q last
    here (inr n) = absurd n
