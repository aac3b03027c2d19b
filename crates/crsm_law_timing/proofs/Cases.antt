-- Each event of a timeline is possible and extends it: the command's arrival and the ticks.
use Rattle.std.proofs.Common.{◌≡◌, ◌≢◌, ℕ, ◌+◌, ◌-◌, ◌<◌, ◌≤◌, List, [], ◌∷◌, ◌++◌, refl, sym, ◌∙◌, ap, subst, inl, inr, arith}
use Rattle.std.specs.Prelude.{◌^◌, Some, None, slice_get}
use Rattle.crsm_base.specs.Records.{body_bytes}
use Rattle.crsm_spec.specs.Types.{Rec, InEpoch, Datagram}
use Rattle.crsm_spec.specs.Lists.{Among}
use Rattle.crsm_spec.specs.Replica.{Replica}
use Rattle.crsm_spec.specs.Step.{Input, step}
use Rattle.crsm_spec.specs.World.{Site, World, body_size}
use Rattle.crsm_spec.specs.Acts.{Single, Act, FitsAct}
use Rattle.crsm_spec.specs.Possible.{possible}
use Rattle.crsm_fact_log.proofs.Lists.{among_left, among_right}
use Rattle.crsm_spec_plan.specs.declared.Plan.{Plan}
use Rattle.crsm_spec_plan.specs.Plans.{FitsPlan, delay_of, offset_of, reading, stamped, arrival, ok_at}
use Rattle.crsm_spec_plan.specs.Timelines.{Timed, Sent, sent, the_command, request, tick, delivery, IsDue, Precedes}
use Rattle.crsm_law_timing.specs.SoFar.{IsNext}
use Rattle.crsm_law_timing.proofs.Local.{Part, Plays, HasLogged, IsFirst, the_stamp, the_entry, issued_in}
use Rattle.crsm_law_timing.proofs.Paying.{frames}
use Rattle.crsm_law_timing.proofs.MoreTurns.{turn_request, turn_tick}
use Rattle.crsm_law_timing.proofs.Order.{asymmetric, no_later}
use Rattle.crsm_law_timing.proofs.Worlds.{at, done, IsStep, request_is, tick_is}
use Rattle.crsm_law_timing.proofs.Letters.{letter, IsLetter, Elsewhere, tick_of, facts_more, Reason, no_delay, command_moment}
use Rattle.crsm_law_timing.proofs.Weights.{weight_issued, frames_out, command_short, ok_short, entry_kept}
use Rattle.crsm_law_timing.proofs.Standing.{execs_in, Actor, IsThere, Stands, Acts, Shows, stands_now}
use Rattle.crsm_law_timing.proofs.Pushed.{pushed_is, is_pushed, pushed_apart}
use Rattle.crsm_law_timing.proofs.Possible.{command_can_be_spelt, request_possible, tick_possible}

-- ---- parts

pub is_bare : (p : Part) → (HasLogged p → ⊥) → p ≡ Part.Bare
is_bare Part.Bare h = refl
is_bare Part.Owing h = absurd (h tt)
is_bare (Part.Passed t) h = absurd (h tt)
is_bare (Part.Done t) h = absurd (h tt)

is_owing : (p : Part) → HasLogged p → ((IsFirst p → ⊥) → ⊥) → p ≡ Part.Owing
is_owing Part.Bare l h = absurd l
is_owing Part.Owing l h = refl
is_owing (Part.Passed t) l h = absurd (h (λ f. f))
is_owing (Part.Done t) l h = absurd (h (λ f. f))

pub not_first : (p : Part) → HasLogged p → (p ≡ Part.Owing → ⊥) → IsFirst p → ⊥
not_first Part.Bare l h f = l
not_first Part.Owing l h f = h refl
not_first (Part.Passed t) l h f = f
not_first (Part.Done t) l h f = f

-- ---- the place of the event

-- the events so far, and the next one
pub record Here (plan : Plan) (before : List Timed) (e : Timed) (w : World) : Type 0 where
  pub fit : FitsPlan plan
  pub next : IsNext plan before e
  pub behind : (f : Timed) → Among before f → Precedes f e
  pub w_is : w ≡ at plan before
  pub stands : Stands plan before w

-- what is to show of the event
pub record Goes (plan : Plan) (before : List Timed) (e : Timed) (w : World) : Type 0 where
  pub fits : FitsAct (Act.One e.does)
  pub may : possible w (Act.One e.does) ≡ None
  pub stands : Stands plan (before ++ e ∷ []) (done w e).after

module _ (plan : Plan) (before : List Timed) (e : Timed) (w : World) (here : Here plan before e w) where
  pub until : (f : Timed) → Among before f → f.moment ≤ e.moment
  until f m = no_later f e (here.behind f m)

  pub not_yet : Among before e → ⊥
  not_yet = here.next.not_yet

  pub not_after : (f : Timed) → Precedes e f → Among before f → ⊥
  not_after f p m = asymmetric e f p (here.behind f m)

  -- what had to happen before it has happened
  pub has_been : (f : Timed) → IsDue plan before f → Precedes f e → Among before f
  has_been f d p = here.next.earliest f d p

  pub small : w.bytes ≤ 200000
  small = let h = here.stands.weight in omega (arith, h)

-- ---- readings

pub stamped_small : (plan : Plan) → FitsPlan plan → stamped plan ≤ 2000000000000
unfolding stamped reading
stamped_small plan fit = let a = fit.at in let o = fit.offsets plan.origin in omega (arith, a, o)

pub ok_small : (plan : Plan) (k : ℕ) → FitsPlan plan → ok_at plan k ≤ 2000000000001
unfolding ok_at arrival
ok_small plan k fit =
    let s = stamped_small plan fit in
    let a = fit.at in
    let d = fit.delays plan.origin k in
    omega (arith, s, a, d)

pub small_power : (n : ℕ) → n ≤ 10000000000000 → n < 2 ^ 64
small_power n le = omega (arith, le)

pub reading_small : (plan : Plan) (k moment : ℕ) → FitsPlan plan → moment ≤ 3000000000000 → reading plan k moment < 2 ^ 64
unfolding reading
reading_small plan k moment fit le = let o = fit.offsets k in small_power (moment + offset_of plan k) (omega (arith, le, o))

pub replica_small : (plan : Plan) (k : ℕ) → FitsPlan plan → k < plan.n → k < 2 ^ 64
replica_small plan k fit lt = let m = fit.most in small_power k (omega (arith, lt, m))

pub stays_there : (plan : Plan) (before : List Timed) (e : Timed) (w : World) → Stands plan before w → (i : ℕ) (s : Sent) → slice_get (sent plan before) i ≡ Some s → IsThere plan (before ++ e ∷ []) w.packets i s
stays_there plan before e w h i s g = let t = h.there i s g in (t.0, t.1, λ u. among_left before (e ∷ []) _ (t.2 u))

pub happened : (before : List Timed) (e : Timed) → Among (before ++ e ∷ []) e
happened before e = among_right before (e ∷ []) e (inl refl)

-- ---- the command

request_acts : (plan : Plan) (before : List Timed) → Acts plan before (request plan) plan.origin
unfolding request tick delivery tick_of
request_acts plan before = record {
  request = λ q. refl;
  tick = λ j q. absurd (other_tick _ _ _ _ _ (ap (λ (f : Timed). f.does) q));
  delivery = λ i s g q. absurd (other_go _ _ _ _ _ (ap (λ (f : Timed). f.does) q));
  number = λ i t q. absurd (other_go _ _ _ _ _ q);
}
  where
    other_tick : (k t : ℕ) (c : _) (j u : ℕ) → Single.Request k t c ≡ Single.Tick j u → ⊥
    other_tick k t c j u q = cc

    other_go : (k t : ℕ) (c : _) (j u : ℕ) → Single.Request k t c ≡ Single.Go j u → ⊥
    other_go k t c j u q = cc

request_no_delivery : (plan : Plan) (i : ℕ) (s : Sent) → request plan ≡ delivery plan i s → ⊥
unfolding request delivery
request_no_delivery plan i s q = other_go _ _ _ _ _ (ap (λ (f : Timed). f.does) q)
  where
    other_go : (k t : ℕ) (c : _) (j u : ℕ) → Single.Request k t c ≡ Single.Go j u → ⊥
    other_go k t c j u q = cc

request_no_go : (plan : Plan) (i t : ℕ) → (request plan).does ≡ Single.Go i t → ⊥
unfolding request
request_no_go plan i t q = cc

request_step : (plan : Plan) (w : World) (r : Replica) → slice_get w.sites plan.origin ≡ Some (Site.Up r) →
    IsStep w (request plan) w plan.origin r (step r (Input.Came 7 (Datagram.Request the_command)) (stamped plan))
unfolding request the_command
request_step plan w r e = request_is w plan.at plan.origin (stamped plan) the_command r e

request_moment : (plan : Plan) → (request plan).moment ≡ plan.at
unfolding request
request_moment plan = refl

request_fits : (plan : Plan) → FitsPlan plan → FitsAct (Act.One (request plan).does)
unfolding request
request_fits plan fit = (replica_small plan plan.origin fit fit.origin, (let s = stamped_small plan fit in small_power (stamped plan) (omega (arith, s))), command_can_be_spelt)

request_may : (plan : Plan) (w : World) (r : Replica) → w.bytes ≤ 200000 → slice_get w.sites plan.origin ≡ Some (Site.Up r) → possible w (Act.One (request plan).does) ≡ None
unfolding request
request_may plan w r le e = request_possible w plan.origin (stamped plan) the_command r le e

pub comes : (plan : Plan) (before : List Timed) (w : World) → Here plan before (request plan) w → Goes plan before (request plan) w
comes plan before w here =
    let fit = here.fit in
    let a = here.stands.actors plan.origin fit.origin in
    let bare = is_bare a.part (λ l. not_yet plan before (request plan) w here ((a.facts.origin refl).begun l)) in
    let shows = shows_it a bare in
    record {
      fits = request_fits plan fit;
      may = request_may plan w a.replica (small plan before (request plan) w here) a.up;
      stands = stands_now plan fit before (request plan) w w here.w_is here.stands (until plan before (request plan) w here) plan.origin fit.origin a _ _ _ _ _ shows;
    }
  where
    shows_it : (a : Actor plan before w plan.origin) → a.part ≡ Part.Bare →
        Shows plan before (request plan) w w plan.origin a (step a.replica (Input.Came 7 (Datagram.Request the_command)) (stamped plan)) (Part.Passed (stamped plan)) a.replica.taken
        (Rec.Prepare (the_entry plan) ∷ []) (frames plan plan.origin (InEpoch.Prepare (the_entry plan)))
    shows_it a bare = record {
      acts = request_acts plan before;
      step = request_step plan w a.replica a.up;
      turned = turn_request plan a.replica here.fit (subst (λ p. Plays plan plan.origin p a.replica) bare a.plays);
      there = stays_there plan before (request plan) w here.stands;
      facts = λ is. facts_more plan before (request plan) _ is plan.origin a.part (Part.Passed (stamped plan)) a.replica.taken a.replica.taken a.facts here.stands.numbered
          (λ i t q. absurd (request_no_go plan i t q)) (λ m x. x) (λ m x. inl x) (λ i s g to f q. absurd (request_no_delivery plan i s q))
          (λ f. absurd f) (λ nf. inr (λ j lt ne. is_pushed plan (request plan).moment plan.origin (InEpoch.Prepare (the_entry plan)) j lt ne))
          (λ q. record { begun = λ l. happened before (request plan); begins = λ x. tt; owes = λ z. absurd (cc) }) (λ ne. absurd (ne refl));
      letters = λ s x. (let t = pushed_is plan (request plan).moment plan.origin (InEpoch.Prepare (the_entry plan)) s x in
          IsLetter.IsCommand t.0 t.1 t.2 (t.3 ∙ ap (λ m. letter m plan.origin t.0 (Datagram.Frame plan.origin t.0 0 0 (InEpoch.Prepare (the_entry plan)))) (request_moment plan)));
      lone = λ s x f. subst IsFirst (sym bare) tt;
      apart = pushed_apart plan (request plan).moment plan.origin (InEpoch.Prepare (the_entry plan));
      same = ap (execs_in plan plan.origin) bare;
      why = λ t q c. Reason.AtOnce (request_moment plan);
      credit = 0;
      gained = omega arith;
      spent = (let k = entry_kept plan in
          let o = frames_out plan plan.origin (InEpoch.Prepare (the_entry plan)) here.fit.most (λ j. command_short plan plan.origin j) in
          let i = ap (λ p. weight_issued (issued_in p)) bare in
          omega (arith, k, o, i));
    }

-- ---- a tick

tick_acts : (plan : Plan) (before : List Timed) (k moment : ℕ) → Acts plan before (tick plan k moment) k
unfolding request tick delivery tick_of
tick_acts plan before k moment = record {
  request = λ q. absurd (other_request _ _ _ _ _ (ap (λ (f : Timed). f.does) q));
  tick = λ j q. other_tick _ _ _ _ (ap (λ (f : Timed). f.does) q);
  delivery = λ i s g q. absurd (other_go _ _ _ _ (ap (λ (f : Timed). f.does) q));
  number = λ i t q. absurd (other_go _ _ _ _ q);
}
  where
    other_request : (j u k t : ℕ) (c : _) → Single.Tick j u ≡ Single.Request k t c → ⊥
    other_request j u k t c q = cc

    other_go : (k t : ℕ) (j u : ℕ) → Single.Tick k t ≡ Single.Go j u → ⊥
    other_go k t j u q = cc

    other_tick : (k t j u : ℕ) → Single.Tick k t ≡ Single.Tick j u → j ≡ k
    other_tick k t j u q = cc

tick_no_delivery : (plan : Plan) (k moment i : ℕ) (s : Sent) → tick plan k moment ≡ delivery plan i s → ⊥
unfolding tick delivery
tick_no_delivery plan k moment i s q = other_go _ _ _ _ (ap (λ (f : Timed). f.does) q)
  where
    other_go : (k t j u : ℕ) → Single.Tick k t ≡ Single.Go j u → ⊥
    other_go k t j u q = cc

tick_no_go : (plan : Plan) (k moment i t : ℕ) → (tick plan k moment).does ≡ Single.Go i t → ⊥
unfolding tick
tick_no_go plan k moment i t q = cc

tick_step : (plan : Plan) (w : World) (k moment : ℕ) (r : Replica) → slice_get w.sites k ≡ Some (Site.Up r) →
    IsStep w (tick plan k moment) w k r (step r Input.Ticked (reading plan k moment))
unfolding tick
tick_step plan w k moment r e = tick_is w moment k (reading plan k moment) r e

tick_moment : (plan : Plan) (k moment : ℕ) → (tick plan k moment).moment ≡ moment
unfolding tick
tick_moment plan k moment = refl

pub delivery_moment : (plan : Plan) (i : ℕ) (s : Sent) → (delivery plan i s).moment ≡ s.moment + delay_of plan s.packet.from s.packet.to
unfolding delivery
delivery_moment plan i s = refl

its_tick : (plan : Plan) (k moment : ℕ) → reading plan k moment ≡ stamped plan + 1 → tick plan k moment ≡ tick_of plan k
unfolding reading tick_of
its_tick plan k moment e = let same : moment ≡ stamped plan + 1 - offset_of plan k = omega (arith, e) in ap (tick plan k) same

tick_ok : (plan : Plan) (k moment : ℕ) → reading plan k moment ≡ stamped plan + 1 → arrival plan k < moment → ok_at plan k ≡ moment
unfolding reading ok_at
tick_ok plan k moment e lt = omega (arith, e, lt)

late_before : (plan : Plan) (k moment : ℕ) → reading plan k moment ≡ stamped plan + 1 → arrival plan k < moment → reading plan k (arrival plan k) ≤ stamped plan
unfolding reading
late_before plan k moment e lt = omega (arith, e, lt)

pub at_arrival : (plan : Plan) (k : ℕ) → plan.at ≤ arrival plan k
unfolding arrival
at_arrival plan k = omega arith

pub the_arrival : (plan : Plan) (k x y : ℕ) → x ≡ plan.at → y ≡ delay_of plan plan.origin k → x + y ≡ arrival plan k
unfolding arrival
the_arrival plan k x y p q = omega (arith, p, q)

pub none_kept : body_size [] ≡ 0
unfolding body_size body_bytes
none_kept = refl

tick_fits : (plan : Plan) (k moment : ℕ) → FitsPlan plan → k < plan.n → reading plan k moment ≡ stamped plan + 1 → FitsAct (Act.One (tick plan k moment).does)
unfolding tick
tick_fits plan k moment fit lt e = (replica_small plan k fit lt, (let s = stamped_small plan fit in small_power (reading plan k moment) (omega (arith, s, e))))

tick_may : (plan : Plan) (w : World) (k moment : ℕ) (r : Replica) → w.bytes ≤ 200000 → slice_get w.sites k ≡ Some (Site.Up r) → possible w (Act.One (tick plan k moment).does) ≡ None
unfolding tick
tick_may plan w k moment r le e = tick_possible w k (reading plan k moment) r le e

pub sooner : (e f : Timed) → e.moment < f.moment → Precedes e f
sooner e f lt = inl lt

module _ (plan : Plan) (before : List Timed) (w : World) (k moment : ℕ) (lt : k < plan.n) (ne : k ≢ plan.origin)
    (reads : reading plan k moment ≡ stamped plan + 1) (late : arrival plan k < moment) (here : Here plan before (tick plan k moment) w) where
  a : Actor plan before w k
  a = here.stands.actors k lt

  o : Actor plan before w plan.origin
  o = here.stands.actors plan.origin here.fit.origin

  place : Elsewhere plan before k a.part a.replica.taken
  place = a.facts.other ne

  come_already : Among before (request plan)
  come_already = has_been plan before (tick plan k moment) w here (request plan) IsDue.Comes
      (sooner (request plan) (tick plan k moment) (let m = request_moment plan in let n = tick_moment plan k moment in let p = at_arrival plan k in omega (arith, m, n, p, late)))

  has_logged : HasLogged a.part
  has_logged =
      let at = o.facts.origin refl in
      let sent_it = o.facts.spoke (not_first o.part (at.begins come_already) at.owes) k lt ne in
      let i = sent_it.0 in
      let s = sent_it.1 in
      let g = sent_it.2 in
      let f = sent_it.3 in
      let m = command_moment plan k s (here.stands.letters i s g) f in
      let d : delay_of plan s.packet.from s.packet.to ≡ delay_of plan plan.origin k = ap (λ j. delay_of plan j s.packet.to) f.from ∙ ap (delay_of plan plan.origin) f.to in
      let came : (delivery plan i s).moment ≡ arrival plan k = delivery_moment plan i s ∙ arrives_then m d in
      let b = has_been plan before (tick plan k moment) w here (delivery plan i s) (IsDue.Arrives i s g)
      (sooner (delivery plan i s) (tick plan k moment) (let n = tick_moment plan k moment in omega (arith, came, n, late))) in
      place.had (subst (λ j. Among a.replica.taken j) f.from (a.facts.took i s g f.to f.frame b))
    where
      arrives_then : {x y : ℕ} → x ≡ plan.at → y ≡ delay_of plan plan.origin k → x + y ≡ arrival plan k
      arrives_then {x} {y} p q = the_arrival plan k x y p q

  owing : a.part ≡ Part.Owing
  owing = is_owing a.part has_logged (λ nf. not_yet plan before (tick plan k moment) w here
      (subst (λ f. Among before f) (sym (its_tick plan k moment reads)) (place.paid nf (late_before plan k moment reads late))))

  passes : stamped plan < reading plan k moment
  passes = omega (arith, reads)

  shown : Shows plan before (tick plan k moment) w w k a (step a.replica Input.Ticked (reading plan k moment)) (Part.Passed (reading plan k moment)) a.replica.taken [] (frames plan k (InEpoch.PrepareOk (the_stamp plan) (reading plan k moment)))
  shown = record {
    acts = tick_acts plan before k moment;
    step = tick_step plan w k moment a.replica a.up;
    turned = turn_tick plan k (reading plan k moment) a.replica here.fit (subst (λ p. Plays plan k p a.replica) owing a.plays) passes;
    there = stays_there plan before (tick plan k moment) w here.stands;
    facts = λ is. facts_more plan before (tick plan k moment) _ is k a.part (Part.Passed (reading plan k moment)) a.replica.taken a.replica.taken a.facts here.stands.numbered
        (λ i t q. absurd (tick_no_go plan k moment i t q)) (λ m x. x) (λ m x. inl x) (λ i s g to f q. absurd (tick_no_delivery plan k moment i s q))
        (λ f. absurd f) (λ nf. inr (λ j below other. is_pushed plan (tick plan k moment).moment k (InEpoch.PrepareOk (the_stamp plan) (reading plan k moment)) j below other))
        (λ q. absurd (ne q)) (λ q. record {
          has = λ l. place.has has_logged;
          had = λ x. tt;
          owes = λ z. absurd (cc);
          paid = λ nf le. subst (λ f. Among (before ++ tick plan k moment ∷ []) f) (its_tick plan k moment reads) (happened before (tick plan k moment));
          passed = λ nf. (tick plan k moment, happened before (tick plan k moment), (let m = tick_moment plan k moment in let n = tick_ok plan k moment reads late in omega (arith, m, n)));
        });
    letters = λ s x. (let t = pushed_is plan (tick plan k moment).moment k (InEpoch.PrepareOk (the_stamp plan) (reading plan k moment)) s x in
        IsLetter.IsOk k t.0 (reading plan k moment) lt t.1 ne (λ q. t.2 (sym q)) (omega (arith, passes))
        (t.3 ∙ ap (λ m. letter m k t.0 (Datagram.Frame k t.0 0 0 (InEpoch.PrepareOk (the_stamp plan) (reading plan k moment)))) (tick_moment plan k moment ∙ sym (tick_ok plan k moment reads late))));
    lone = λ s x f. subst IsFirst (sym owing) tt;
    apart = pushed_apart plan (tick plan k moment).moment k (InEpoch.PrepareOk (the_stamp plan) (reading plan k moment));
    same = ap (execs_in plan k) owing;
    why = λ t q c. Reason.ByOk k lt ne (let m = tick_moment plan k moment in let n = tick_ok plan k moment reads late in let z = no_delay plan k in omega (arith, m, n, z));
    credit = 0;
    gained = omega arith;
    spent = (let z = none_kept in
        let f = frames_out plan k (InEpoch.PrepareOk (the_stamp plan) (reading plan k moment)) here.fit.most (λ j. ok_short plan k j (reading plan k moment)) in
        let i = ap (λ p. weight_issued (issued_in p)) owing in
        omega (arith, z, f, i));
  }

  pub ticks : Goes plan before (tick plan k moment) w
  ticks = record {
    fits = tick_fits plan k moment here.fit lt reads;
    may = tick_may plan w k moment a.replica (small plan before (tick plan k moment) w here) a.up;
    stands = stands_now plan here.fit before (tick plan k moment) w w here.w_is here.stands (until plan before (tick plan k moment) w here) k lt a _ _ _ _ _ shown;
  }
