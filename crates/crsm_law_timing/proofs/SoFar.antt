-- The events that have happened were possible and leave the replicas as a timeline does; and timelines arise so.
use Rattle.std.proofs.Common.{◌≡◌, ◌≤◌, List, [], ◌∷◌, ◌++◌, refl, sym, ◌∙◌, ap, subst, inl, inr, arith, append_assoc, append-nil}
use Rattle.std.specs.Prelude.{◌⊎◌, None}
use Rattle.crsm_spec.specs.Lists.{Among}
use Rattle.crsm_spec.specs.World.{World, begin}
use Rattle.crsm_spec.specs.Acts.{Act, FitsAct}
use Rattle.crsm_spec.specs.Possible.{possible}
use Rattle.crsm_spec.specs.Moments.{act}
use Rattle.crsm_spec.specs.Run.{ArePossible, after_acts}
use Rattle.crsm_fact_log.proofs.Lists.{map-push}
use Rattle.crsm_spec_plan.specs.declared.Plan.{Plan}
use Rattle.crsm_spec_plan.specs.Plans.{FitsPlan, reading}
use Rattle.crsm_spec_plan.specs.Timelines.{Timed, Sent, acts_of, request, tick, delivery, IsDue, InOrder, IsTimeline}
use Rattle.crsm_law_timing.specs.SoFar.{IsNext, IsSoFar, CanHappen, EventsCanHappen, EventsEndWhole, world_after}
use Rattle.crsm_law_timing.proofs.Order.{not_itself, comes_before, earlier, in_order_more}
use Rattle.crsm_law_timing.proofs.Worlds.{at, at_more}
use Rattle.crsm_law_timing.proofs.Letters.{IsLetter, latest}
use Rattle.crsm_law_timing.proofs.Standing.{Stands}
use Rattle.crsm_law_timing.proofs.Cases.{Goes, stamped_small, ok_small}
use Rattle.crsm_law_timing.proofs.Goes.{goes}
use Rattle.crsm_law_timing.proofs.Beginning.{at_first, begins}
use Rattle.crsm_law_timing.proofs.Behind.{behind, due_later}

-- ---- each event goes

it_goes : (plan : Plan) (es : List Timed) (e : Timed) → FitsPlan plan → IsSoFar plan es → Stands plan es (at plan es) → IsNext plan es e → Goes plan es e (at plan es)
it_goes plan es e fit so stands next = goes plan es (at plan es) e next.due (record { fit = fit; next = next; behind = behind plan es e so next; w_is = refl; stands = stands })

pub reached : (plan : Plan) (es : List Timed) → FitsPlan plan → IsSoFar plan es → Stands plan es (at plan es)
reached plan es fit IsSoFar.nothing = subst (Stands plan []) (at_first plan) (begins plan fit)
reached plan es fit (IsSoFar.more {es = before} e so next) =
    subst (Stands plan (before ++ e ∷ [])) (sym (at_more plan before e)) (it_goes plan before e fit so (reached plan before fit so) next).stands

-- ---- what is possible

one_more : (w : World) (acts : List Act) (a : Act) → ArePossible w acts → FitsAct a → possible (after_acts w acts) a ≡ None → ArePossible w (acts ++ a ∷ [])
unfolding after_acts
one_more w [] a p fits can = (fits, can, tt)
one_more w (b ∷ acts) a p fits can = (p.0, p.1, one_more (act w b).after acts a p.2 fits can)

acts_more : (es : List Timed) (e : Timed) → acts_of (es ++ e ∷ []) ≡ acts_of es ++ Act.One e.does ∷ []
unfolding acts_of
acts_more es e = map-push (λ (f : Timed). Act.One f.does) es e

possible_so_far : (plan : Plan) (es : List Timed) → FitsPlan plan → IsSoFar plan es → ArePossible (begin plan.n) (acts_of es)
unfolding acts_of at
possible_so_far plan es fit IsSoFar.nothing = tt
possible_so_far plan es fit (IsSoFar.more {es = before} e so next) =
    let g = it_goes plan before e fit so (reached plan before fit so) next in
    subst (ArePossible (begin plan.n)) (sym (acts_more before e)) (one_more (begin plan.n) (acts_of before) (Act.One e.does) (possible_so_far plan before fit so) g.fits g.may)

-- ---- moments

letter_soon : (plan : Plan) (s : Sent) → FitsPlan plan → IsLetter plan s → s.moment ≤ latest
letter_soon plan s fit (IsLetter.IsCommand k lt ne e) = let q = ap (λ (z : Sent). z.moment) e in let a = fit.at in omega (arith, q, a)
letter_soon plan s fit (IsLetter.IsOk m k u m_lt k_lt far ne le e) = let q = ap (λ (z : Sent). z.moment) e in let a = ok_small plan m fit in omega (arith, q, a)
letter_soon plan s fit (IsLetter.IsAck m k a t m_lt k_lt ne le e) = let q = ap (λ (z : Sent). z.moment) e in omega (arith, q, le)

soon : (plan : Plan) (es : List Timed) (e : Timed) → FitsPlan plan → Stands plan es (at plan es) → IsDue plan es e → e.moment ≤ 3000000000000
unfolding request tick delivery reading
soon plan es e fit stands IsDue.Comes = let a = fit.at in omega (arith, a)
soon plan es e fit stands (IsDue.Ticks k moment lt ne reads late) = let s = stamped_small plan fit in omega (arith, s, reads)
soon plan es e fit stands (IsDue.Arrives i s g) =
    let m = letter_soon plan s fit (stands.letters i s g) in
    let d = fit.delays s.packet.from s.packet.to in
    omega (arith, m, d)

next_can : (plan : Plan) (es : List Timed) (e : Timed) → FitsPlan plan → IsSoFar plan es → IsNext plan es e → CanHappen (world_after plan es) e
unfolding world_after at
next_can plan es e fit so next =
    let stands = reached plan es fit so in
    let g = it_goes plan es e fit so stands next in
    record { fits = g.fits; possible_here = g.may; moment = soon plan es e fit stands next.due }

pub events_can_happen : EventsCanHappen
events_can_happen = record { so_far = possible_so_far; next = next_can }

-- ---- timelines

from_there : (plan : Plan) (es : List Timed) → IsTimeline plan es → (after before : List Timed) → es ≡ before ++ after → IsSoFar plan before → IsSoFar plan es
from_there plan es line [] before is so = subst (IsSoFar plan) (sym (is ∙ append-nil before)) so
from_there plan es line (e ∷ after) before is so =
    from_there plan es line after (before ++ e ∷ []) (is ∙ sym (append_assoc before (e ∷ []) after)) (IsSoFar.more e so next)
  where
    ordered : InOrder (before ++ e ∷ after)
    ordered = subst InOrder is line.ordered

    next : IsNext plan before e
    next = record {
      due = line.caused before after e is;
      not_yet = λ m. not_itself e (comes_before e after before ordered e m);
      earliest = λ f d p. earlier e after before ordered f (subst (λ l. Among l f) is (line.complete f (subst (λ l. IsDue plan l f) (sym is) (due_later plan before (e ∷ after) f d)))) p;
    }

pub timeline_so_far : (plan : Plan) (es : List Timed) → IsTimeline plan es → IsSoFar plan es
timeline_so_far plan es line = from_there plan es line es [] refl IsSoFar.nothing

-- ---- the end

cons_head : (x y : Timed) (xs ys : List Timed) → (x ∷ xs) ≡ (y ∷ ys) → x ≡ y
cons_head x y xs ys e = cc

cons_tail : (x y : Timed) (xs ys : List Timed) → (x ∷ xs) ≡ (y ∷ ys) → xs ≡ ys
cons_tail x y xs ys e = cc

nil_cons : (x : Timed) (xs : List Timed) → [] ≡ x ∷ xs → ⊥
nil_cons x xs e = cc

nil_split : (before : List Timed) (e : Timed) (after : List Timed) → [] ≡ before ++ e ∷ after → ⊥
nil_split [] e after q = nil_cons e after q
nil_split (b ∷ bs) e after q = nil_cons b (bs ++ e ∷ after) q

-- an event of a list with one more is the last one, or an event of the list
last_or_not : (fs : List Timed) (f : Timed) (before : List Timed) (e : Timed) (after : List Timed) → fs ++ f ∷ [] ≡ before ++ e ∷ after →
    ((fs ≡ before) × (f ≡ e)) ⊎ ((rest : List Timed) × (fs ≡ before ++ e ∷ rest))
last_or_not [] f [] e after q = inl (refl, cons_head f e [] after q)
last_or_not [] f (b ∷ bs) e after q = absurd (nil_split bs e after (cons_tail f b [] (bs ++ e ∷ after) q))
last_or_not (g ∷ fs) f [] e after q = inr (fs, ap (λ z. z ∷ fs) (cons_head g e (fs ++ f ∷ []) after q))
last_or_not (g ∷ fs) f (b ∷ bs) e after q = elim (last_or_not fs f bs e after (cons_tail g b (fs ++ f ∷ []) (bs ++ e ∷ after) q)) [
  | inl h ↦ inl (ap (λ z. z ∷ fs) (cons_head g b (fs ++ f ∷ []) (bs ++ e ∷ after) q) ∙ ap (λ z. b ∷ z) h.0, h.1)
  | inr h ↦ inr (h.0, ap (λ z. z ∷ fs) (cons_head g b (fs ++ f ∷ []) (bs ++ e ∷ after) q) ∙ ap (λ z. b ∷ z) h.1)
]

caused : (plan : Plan) (es : List Timed) → IsSoFar plan es → (before after : List Timed) (e : Timed) → es ≡ before ++ e ∷ after → IsDue plan before e
caused plan es IsSoFar.nothing before after e q = absurd (nil_split before e after q)
caused plan es (IsSoFar.more {es = fs} f so next) before after e q = elim (last_or_not fs f before e after q) [
  | inl h ↦ subst (IsDue plan before) h.1 (subst (λ l. IsDue plan l f) h.0 next.due)
  | inr h ↦ caused plan fs so before h.0 e h.1
]

in_order : (plan : Plan) (es : List Timed) → IsSoFar plan es → InOrder es
in_order plan es IsSoFar.nothing = tt
in_order plan es (IsSoFar.more {es = fs} f so next) = in_order_more fs f (in_order plan fs so) (behind plan fs f so next)

pub events_end_whole : EventsEndWhole
events_end_whole = record {
  whole = λ plan es fit so all. record { caused = caused plan es so; complete = all; ordered = in_order plan es so };
  so_far = timeline_so_far;
}
