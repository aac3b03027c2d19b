-- The delivery of an acknowledgement of the command.
use Rattle.std.proofs.Common.{◌≡◌, ◌≢◌, ℕ, ◌+◌, ◌<◌, ◌≤◌, List, [], ◌∷◌, refl, sym, ap, inl, inr, true, arith}
use Rattle.std.specs.Prelude.{◌⊎◌, Some, slice_get, slice_set}
use Rattle.crsm_spec.specs.Types.{InEpoch, Datagram}
use Rattle.crsm_spec.specs.Lists.{Among}
use Rattle.crsm_spec.specs.Draft.{Draft}
use Rattle.crsm_spec.specs.Step.{Input, step}
use Rattle.crsm_spec.specs.World.{World}
use Rattle.crsm_spec_plan.specs.declared.Plan.{Plan}
use Rattle.crsm_spec_plan.specs.Plans.{delay_of, reading, stamped, ok_at}
use Rattle.crsm_spec_plan.specs.Timelines.{Timed, Sent, sent, delivery}
use Rattle.crsm_law_timing.proofs.Local.{the_stamp}
use Rattle.crsm_law_timing.proofs.Turns.{Turned, turn_ok}
use Rattle.crsm_law_timing.proofs.Letters.{letter, IsLetter, facts_more, Reason, no_frame, latest, Delivers}
use Rattle.crsm_law_timing.proofs.Weights.{ack_out, nothing_out}
use Rattle.crsm_law_timing.proofs.Standing.{Actor, letters_of, Shows, stands_now}
use Rattle.crsm_law_timing.proofs.Pushed.{one_ack}
use Rattle.crsm_law_timing.proofs.Cases.{Here, Goes, until, ok_small, delivery_moment, none_kept}
use Rattle.crsm_law_epoch.proofs.Words.{get_among}
use Rattle.crsm_law_timing.proofs.Deliveries.{same_number, same_sent, actor, step_is, acts, there_then, gained, early, not_taken, fits, may}
use Rattle.crsm_law_timing.proofs.Staying.{origin_stays, elsewhere_stays}

module _ (plan : Plan) (before : List Timed) (w : World) (i m k u : ℕ) (m_lt : m < plan.n) (k_lt : k < plan.n) (not_origin : m ≢ plan.origin) (apart : m ≢ k) (u_le : stamped plan ≤ u) (t_le : ok_at plan m ≤ latest)
    (g : slice_get (sent plan before) i ≡ Some (letter (ok_at plan m) m k (Datagram.Frame m k 0 0 (InEpoch.PrepareOk (the_stamp plan) u))))
    (here : Here plan before (delivery plan i (letter (ok_at plan m) m k (Datagram.Frame m k 0 0 (InEpoch.PrepareOk (the_stamp plan) u)))) w) where
  abbrev d : Datagram
  d = Datagram.Frame m k 0 0 (InEpoch.PrepareOk (the_stamp plan) u)

  abbrev s : Sent
  s = letter (ok_at plan m) m k d

  abbrev e : Timed
  e = delivery plan i s

  abbrev who : Actor plan before w k
  who = actor plan before w i (ok_at plan m) m k d m_lt k_lt apart t_le g here

  abbrev x : Draft
  x = step who.replica (Input.Came m d) (reading plan k (ok_at plan m + delay_of plan m k))

  turned : (a : ℕ) × Turned plan k who.part (m ∷ who.replica.taken) [] ((m, Datagram.Ack k m 0 a) ∷ []) x
  turned = turn_ok plan k m (reading plan k (ok_at plan m + delay_of plan m k)) u who.part who.replica here.fit who.plays m_lt apart
      (not_taken plan before w i (ok_at plan m) m k d m_lt k_lt apart t_le g here tt) u_le (early plan before w i (ok_at plan m) m k d m_lt k_lt apart t_le g here)

  moment_is : e.moment ≡ ok_at plan m + delay_of plan m k
  moment_is = delivery_moment plan i s

  from_before : Among (m ∷ who.replica.taken) plan.origin → Among who.replica.taken plan.origin
  from_before (inl q) = absurd (not_origin q)
  from_before (inr a) = a

  came_or_comes : (j : ℕ) → Among (m ∷ who.replica.taken) j → Among who.replica.taken j ⊎ Delivers plan before e j k
  came_or_comes j (inl q) = inr (i, s, g, record { frame = tt; from = q; to = refl }, refl)
  came_or_comes j (inr a) = inl a

  ok_shown : Shows plan before e w (record w { packets = slice_set w.packets i (record s.packet { used = true }) }) k who x who.part (m ∷ who.replica.taken) [] ((m, Datagram.Ack k m 0 turned.0) ∷ [])
  ok_shown = record {
    acts = acts plan before w i (ok_at plan m) m k d m_lt k_lt apart t_le g here;
    step = step_is plan before w i (ok_at plan m) m k d m_lt k_lt apart t_le g here who.replica who.up;
    turned = turned.1;
    there = there_then plan before w i (ok_at plan m) m k d m_lt k_lt apart t_le g here;
    facts = λ is. facts_more plan before e _ is k who.part who.part who.replica.taken (m ∷ who.replica.taken) who.facts here.stands.numbered
        (acts plan before w i (ok_at plan m) m k d m_lt k_lt apart t_le g here).number (λ j a. inr a) came_or_comes
        (λ j z h to f q. inl (sym (ap (λ (c : Sent). c.packet.from) (same_sent (sent plan before) i j s z g h (same_number plan i j s z q)))))
        (λ f. (f, λ z n q r. no_frame e.moment k m turned.0 z (one_ack e.moment k turned.0 m z n) r)) (λ nf. inl nf)
        (λ q. origin_stays plan before i s who.part (who.facts.origin q)) (λ q. elsewhere_stays plan before i s k who.part _ _ (λ j a. inr a) from_before (who.facts.other q));
    letters = λ z n. IsLetter.IsAck k m turned.0 e.moment k_lt m_lt (λ q. apart (sym q)) (let h = here.fit.delays m k in let o = ok_small plan m here.fit in let q = moment_is in omega (arith, h, o, q)) (one_ack e.moment k turned.0 m z n);
    lone = λ z n f. absurd (no_frame e.moment k m turned.0 z (one_ack e.moment k turned.0 m z n) f);
    apart = λ b c n z y p q r r'. absurd (no_frame e.moment k m turned.0 z (one_ack e.moment k turned.0 m z (get_among (letters_of e.moment k ((m, Datagram.Ack k m 0 turned.0) ∷ [])) b z p)) r.frame);
    same = refl;
    why = λ v q c. Reason.ByOk m m_lt not_origin moment_is;
    credit = 400;
    gained = gained plan before w i (ok_at plan m) m k d m_lt k_lt apart t_le g here;
    spent = (let z = none_kept in let n = nothing_out k in let o = ack_out k m turned.0 [] in omega (arith, z, n, o));
  }

  pub ok_arrives : Goes plan before e w
  ok_arrives = record {
    fits = fits plan before w i (ok_at plan m) m k d m_lt k_lt apart t_le g here;
    may = may plan before w i (ok_at plan m) m k d m_lt k_lt apart t_le g here;
    stands = stands_now plan here.fit before e w _ here.w_is here.stands (until plan before e w here) k k_lt who _ _ _ _ _ ok_shown;
  }
