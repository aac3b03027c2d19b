-- The delivery of the command's entry.
use Rattle.std.proofs.Common.{◌≡◌, ◌≢◌, ℕ, ◌+◌, ◌<◌, ◌≤◌, List, [], ◌∷◌, ◌++◌, length, refl, sym, ◌∙◌, ap, subst, inl, inr, true, arith}
use Rattle.std.specs.Prelude.{◌⊎◌, Some, slice_get, slice_set}
use Rattle.std.proofs.lemmas.Bool.{cases_lt}
use Rattle.crsm_spec.specs.Types.{Rec, InEpoch, Datagram}
use Rattle.crsm_spec.specs.Lists.{Among}
use Rattle.crsm_spec.specs.Draft.{Draft}
use Rattle.crsm_spec.specs.Step.{Input, step}
use Rattle.crsm_spec.specs.World.{World}
use Rattle.crsm_spec.specs.Acts.{Single}
use Rattle.crsm_spec_plan.specs.declared.Plan.{Plan}
use Rattle.crsm_spec_plan.specs.Plans.{delay_of, reading, stamped, arrival, ok_at}
use Rattle.crsm_spec_plan.specs.Timelines.{Timed, Sent, sent, delivery}
use Rattle.crsm_law_timing.proofs.Local.{Part, Plays, IsFirst, the_stamp, the_entry, issued_in}
use Rattle.crsm_law_timing.proofs.Paying.{frames}
use Rattle.crsm_law_timing.proofs.Turns.{Turned}
use Rattle.crsm_law_timing.proofs.MoreTurns.{turn_early, turn_late}
use Rattle.crsm_law_timing.proofs.Letters.{IsFrame, letter, IsLetter, IsFrom, Elsewhere, tick_of, facts_more, Reason, no_delay, no_frame, latest, Delivers}
use Rattle.crsm_law_timing.proofs.Weights.{weight_issued, frames_out, ok_short, entry_kept, ack_out, nothing_out}
use Rattle.crsm_law_timing.proofs.Standing.{execs_in, Actor, letters_of, Shows, stands_now}
use Rattle.crsm_law_timing.proofs.Pushed.{pushed_is, is_pushed, acked_apart, one_ack, ack_then}
use Rattle.crsm_law_timing.proofs.Cases.{is_bare, Here, Goes, until, not_after, happened, delivery_moment, the_arrival}
use Rattle.crsm_law_epoch.proofs.Words.{get_among}
use Rattle.crsm_law_timing.proofs.Deliveries.{same_number, no_tick, same_sent, not_then, later, tick_moment_of, actor, step_is, acts, there_then, gained, not_taken, fits, may}

ok_late : (plan : Plan) (k : ℕ) → stamped plan < reading plan k (arrival plan k) → ok_at plan k ≡ arrival plan k
unfolding reading ok_at
ok_late plan k lt = omega (arith, lt)

module _ (plan : Plan) (before : List Timed) (w : World) (i k : ℕ) (k_lt : k < plan.n) (apart : k ≢ plan.origin) (t_le : plan.at ≤ latest)
    (g : slice_get (sent plan before) i ≡ Some (letter plan.at plan.origin k (Datagram.Frame plan.origin k 0 0 (InEpoch.Prepare (the_entry plan)))))
    (here : Here plan before (delivery plan i (letter plan.at plan.origin k (Datagram.Frame plan.origin k 0 0 (InEpoch.Prepare (the_entry plan))))) w) where
  abbrev d : Datagram
  d = Datagram.Frame plan.origin k 0 0 (InEpoch.Prepare (the_entry plan))

  abbrev s : Sent
  s = letter plan.at plan.origin k d

  abbrev e : Timed
  e = delivery plan i s

  turned_away : plan.origin ≢ k
  turned_away q = apart (sym q)

  abbrev who : Actor plan before w k
  who = actor plan before w i plan.at plan.origin k d here.fit.origin k_lt turned_away t_le g here

  abbrev t : ℕ
  t = reading plan k (plan.at + delay_of plan plan.origin k)

  abbrev x : Draft
  x = step who.replica (Input.Came plan.origin d) t

  abbrev v : World
  v = record w { packets = slice_set w.packets i (record s.packet { used = true }) }

  abbrev now : List ℕ
  now = plan.origin ∷ who.replica.taken

  moment_is : e.moment ≡ arrival plan k
  moment_is = delivery_moment plan i s ∙ the_arrival plan k plan.at (delay_of plan plan.origin k) refl refl

  t_is : t ≡ reading plan k (arrival plan k)
  t_is = ap (reading plan k) (the_arrival plan k plan.at (delay_of plan plan.origin k) refl refl)

  new_here : Among who.replica.taken plan.origin → ⊥
  new_here = not_taken plan before w i plan.at plan.origin k d here.fit.origin k_lt turned_away t_le g here tt

  place : Elsewhere plan before k who.part who.replica.taken
  place = who.facts.other apart

  bare : who.part ≡ Part.Bare
  bare = is_bare who.part (λ l. new_here (place.has l))

  plays_bare : Plays plan k Part.Bare who.replica
  plays_bare = subst (λ p. Plays plan k p who.replica) bare who.plays

  came_or_comes : (j : ℕ) → Among now j → Among who.replica.taken j ⊎ Delivers plan before e j k
  came_or_comes j (inl q) = inr (i, s, g, record { frame = tt; from = q; to = refl }, refl)
  came_or_comes j (inr a) = inl a

  -- the tick is still to come
  tick_later : reading plan k (arrival plan k) ≤ stamped plan → Among (before ++ e ∷ []) (tick_of plan k) → ⊥
  tick_later late = not_then before e (tick_of plan k)
      (λ m. not_after plan before e w here (tick_of plan k) (inl (let a = later plan k late in let b = tick_moment_of plan k in let c = moment_is in omega (arith, a, b, c))) m) (no_tick plan i k s)

  number : (j u : ℕ) → e.does ≡ Single.Go j u → j < length (sent plan before)
  number = (acts plan before w i plan.at plan.origin k d here.fit.origin k_lt turned_away t_le g here).number

  from_it : (j : ℕ) (z : Sent) → slice_get (sent plan before) j ≡ Some z → z.packet.to ≡ k → IsFrame z.packet.datagram → e ≡ delivery plan j z → Among now z.packet.from
  from_it j z h to f q = inl (sym (ap (λ (c : Sent). c.packet.from) (same_sent (sent plan before) i j s z g h (same_number plan i j s z q))))

  -- ---- it comes before the clock is past its timestamp

  early_turn : t ≤ stamped plan → (a : ℕ) × Turned plan k Part.Owing now (Rec.Prepare (the_entry plan) ∷ []) ((plan.origin, Datagram.Ack k plan.origin 0 a) ∷ []) x
  early_turn le = turn_early plan k t who.replica here.fit plays_bare turned_away new_here le

  early_shown : (le : t ≤ stamped plan) → Shows plan before e w v k who x Part.Owing now (Rec.Prepare (the_entry plan) ∷ []) ((plan.origin, Datagram.Ack k plan.origin 0 (early_turn le).0) ∷ [])
  early_shown le = record {
    acts = acts plan before w i plan.at plan.origin k d here.fit.origin k_lt turned_away t_le g here;
    step = step_is plan before w i plan.at plan.origin k d here.fit.origin k_lt turned_away t_le g here who.replica who.up;
    turned = (early_turn le).1;
    there = there_then plan before w i plan.at plan.origin k d here.fit.origin k_lt turned_away t_le g here;
    facts = λ is. facts_more plan before e _ is k who.part Part.Owing who.replica.taken now who.facts here.stands.numbered number (λ j a. inr a) came_or_comes from_it
        (λ f. (subst IsFirst (sym bare) tt, λ z n q r. no_frame e.moment k plan.origin (early_turn le).0 z (one_ack e.moment k (early_turn le).0 plan.origin z n) r)) (λ nf. absurd (nf tt))
        (λ q. absurd (apart q)) (λ q. record {
          has = λ l. inl refl;
          had = λ a. tt;
          owes = λ z. (subst (λ c. c ≤ stamped plan) t_is le, tick_later (subst (λ c. c ≤ stamped plan) t_is le));
          paid = λ nf z. absurd (nf tt);
          passed = λ nf. absurd (nf tt);
        });
    letters = λ z n. IsLetter.IsAck k plan.origin (early_turn le).0 e.moment k_lt here.fit.origin apart (let h = here.fit.delays plan.origin k in let o = here.fit.at in let q = delivery_moment plan i s in omega (arith, h, o, q)) (one_ack e.moment k (early_turn le).0 plan.origin z n);
    lone = λ z n f. subst IsFirst (sym bare) tt;
    apart = λ b c n z y p q r r'. absurd (no_frame e.moment k plan.origin (early_turn le).0 z (one_ack e.moment k (early_turn le).0 plan.origin z (get_among (letters_of e.moment k ((plan.origin, Datagram.Ack k plan.origin 0 (early_turn le).0) ∷ [])) b z p)) r.frame);
    same = ap (execs_in plan k) bare;
    why = λ u q c. absurd (cc);
    credit = 400;
    gained = gained plan before w i plan.at plan.origin k d here.fit.origin k_lt turned_away t_le g here;
    spent = (let z = entry_kept plan in let n = nothing_out k in let o = ack_out k plan.origin (early_turn le).0 [] in let b = ap (λ p. weight_issued (issued_in p)) bare in omega (arith, z, n, o, b));
  }

  -- ---- it comes when the clock is

  late_turn : stamped plan < t → (a : ℕ) × Turned plan k (Part.Passed t) now (Rec.Prepare (the_entry plan) ∷ [])
      (((plan.origin, Datagram.Ack k plan.origin 0 a) ∷ []) ++ frames plan k (InEpoch.PrepareOk (the_stamp plan) t)) x
  late_turn lt = turn_late plan k t who.replica here.fit plays_bare turned_away new_here lt

  ok_now : stamped plan < t → ok_at plan k ≡ e.moment
  ok_now lt = ok_late plan k (subst (λ c. stamped plan < c) t_is lt) ∙ sym moment_is

  abbrev ok : InEpoch
  ok = InEpoch.PrepareOk (the_stamp plan) t

  abbrev late_out : ℕ → List (ℕ × Datagram)
  late_out a = (plan.origin, Datagram.Ack k plan.origin 0 a) ∷ frames plan k ok

  late_letter : (a : ℕ) → stamped plan < t → (z : Sent) → Among (letters_of e.moment k (late_out a)) z → IsLetter plan z
  late_letter a lt z n = elim (ack_then plan e.moment k a plan.origin ok z n) [
    | inl q ↦ IsLetter.IsAck k plan.origin a e.moment k_lt here.fit.origin apart (let h = here.fit.delays plan.origin k in let o = here.fit.at in let q' = delivery_moment plan i s in omega (arith, h, o, q')) q
    | inr p ↦ (let u = pushed_is plan e.moment k ok z p in IsLetter.IsOk k u.0 t k_lt u.1 apart (λ q. u.2 (sym q)) (omega (arith, lt)) (u.3 ∙ ap (λ m. letter m k u.0 (Datagram.Frame k u.0 0 0 ok)) (sym (ok_now lt))))
  ]

  is_made : (a j : ℕ) → j < plan.n → j ≢ k → (z : Sent) × Among (letters_of e.moment k (late_out a)) z × IsFrom k j z
  is_made a j lt ne = let p = is_pushed plan e.moment k ok j lt ne in (p.0, inr p.1, p.2)

  late_shown : (lt : stamped plan < t) → Shows plan before e w v k who x (Part.Passed t) now (Rec.Prepare (the_entry plan) ∷ []) (late_out (late_turn lt).0)
  late_shown lt = record {
    acts = acts plan before w i plan.at plan.origin k d here.fit.origin k_lt turned_away t_le g here;
    step = step_is plan before w i plan.at plan.origin k d here.fit.origin k_lt turned_away t_le g here who.replica who.up;
    turned = (late_turn lt).1;
    there = there_then plan before w i plan.at plan.origin k d here.fit.origin k_lt turned_away t_le g here;
    facts = λ is. facts_more plan before e _ is k who.part (Part.Passed t) who.replica.taken now who.facts here.stands.numbered number (λ j a. inr a) came_or_comes from_it
        (λ f. absurd f) (λ nf. inr (is_made (late_turn lt).0))
        (λ q. absurd (apart q)) (λ q. record {
          has = λ l. inl refl;
          had = λ a. tt;
          owes = λ z. absurd (cc);
          paid = λ nf z. absurd (let p = t_is in omega (arith, lt, z, p));
          passed = λ nf. (e, happened before e, (let p = ok_now lt in omega (arith, p)));
        });
    letters = late_letter (late_turn lt).0 lt;
    lone = λ z n f. subst IsFirst (sym bare) tt;
    apart = acked_apart plan e.moment k (late_turn lt).0 plan.origin ok;
    same = ap (execs_in plan k) bare;
    why = λ u q c. Reason.ByOk k k_lt apart (let p = ok_now lt in let z = no_delay plan k in omega (arith, p, z));
    credit = 400;
    gained = gained plan before w i plan.at plan.origin k d here.fit.origin k_lt turned_away t_le g here;
    spent = (let z = entry_kept plan in
        let o = ack_out k plan.origin (late_turn lt).0 (frames plan k ok) in
        let f = frames_out plan k ok here.fit.most (λ j. ok_short plan k j t) in
        let b = ap (λ p. weight_issued (issued_in p)) bare in
        omega (arith, z, o, f, b));
  }

  goes_by : (q : Part) (kept : List Rec) (out : List (ℕ × Datagram)) → Shows plan before e w v k who x q now kept out → Goes plan before e w
  goes_by q kept out shown = record {
    fits = fits plan before w i plan.at plan.origin k d here.fit.origin k_lt turned_away t_le g here;
    may = may plan before w i plan.at plan.origin k d here.fit.origin k_lt turned_away t_le g here;
    stands = stands_now plan here.fit before e w v here.w_is here.stands (until plan before e w here) k k_lt who x q now kept out shown;
  }

  pub command_arrives : Goes plan before e w
  command_arrives = elim (cases_lt (stamped plan) t) [
    | inl lt ↦ goes_by (Part.Passed t) _ _ (late_shown lt)
    | inr le ↦ goes_by Part.Owing _ _ (early_shown le)
  ]
