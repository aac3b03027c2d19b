-- The delivery of an Ack.
use Rattle.std.proofs.Common.{◌≡◌, ◌≢◌, ℕ, ◌+◌, ◌<◌, ◌≤◌, List, [], refl, ◌∙◌, subst, inl, true, arith}
use Rattle.std.specs.Prelude.{Some, slice_get, slice_set}
use Rattle.crsm_spec.specs.Types.{Datagram}
use Rattle.crsm_spec.specs.Lists.{Among}
use Rattle.crsm_spec.specs.Draft.{Draft}
use Rattle.crsm_spec.specs.Step.{Input, step}
use Rattle.crsm_spec.specs.World.{World}
use Rattle.crsm_spec_plan.specs.declared.Plan.{Plan}
use Rattle.crsm_spec_plan.specs.Plans.{delay_of, reading}
use Rattle.crsm_spec_plan.specs.Timelines.{Timed, Sent, sent, delivery}
use Rattle.crsm_law_timing.proofs.Local.{Part, IsComplete}
use Rattle.crsm_law_timing.proofs.Turns.{Turned}
use Rattle.crsm_law_timing.proofs.MoreTurns.{turn_ack}
use Rattle.crsm_law_timing.proofs.Letters.{IsFrame, letter, facts_more, latest}
use Rattle.crsm_law_timing.proofs.Weights.{nothing_out}
use Rattle.crsm_law_timing.proofs.Standing.{Actor, Shows, stands_now, taken_are}
use Rattle.crsm_law_timing.proofs.Cases.{Here, Goes, until, none_kept}
use Rattle.std.proofs.lemmas.Option.{none-some}
use Rattle.crsm_law_timing.proofs.Deliveries.{same_number, same_sent, actor, step_is, acts, there_then, gained, early, fits, may}
use Rattle.crsm_law_timing.proofs.Staying.{origin_stays, elsewhere_stays}

module _ (plan : Plan) (before : List Timed) (w : World) (i t m k a : ℕ) (m_lt : m < plan.n) (k_lt : k < plan.n) (apart : m ≢ k) (t_le : t ≤ latest)
    (g : slice_get (sent plan before) i ≡ Some (letter t m k (Datagram.Ack m k 0 a))) (here : Here plan before (delivery plan i (letter t m k (Datagram.Ack m k 0 a))) w) where
  abbrev s : Sent
  s = letter t m k (Datagram.Ack m k 0 a)

  abbrev e : Timed
  e = delivery plan i s

  abbrev who : Actor plan before w k
  who = actor plan before w i t m k (Datagram.Ack m k 0 a) m_lt k_lt apart t_le g here

  abbrev x : Draft
  x = step who.replica (Input.Came m (Datagram.Ack m k 0 a)) (reading plan k (t + delay_of plan m k))

  turned : Turned plan k who.part who.replica.taken [] [] x
  turned = turn_ack plan k m a (reading plan k (t + delay_of plan m k)) who.part who.replica here.fit who.plays m_lt apart (early plan before w i t m k (Datagram.Ack m k 0 a) m_lt k_lt apart t_le g here)

  no_commit : (u : ℕ) → who.part ≡ Part.Passed u → IsComplete plan k x.replica → ⊥
  no_commit u q c = who.unfinished u q (λ j lt ne. subst (λ l. Among l j) (taken_are x turned.draft turned.is ∙ turned.taken) (c j lt ne))

  shown : Shows plan before e w (record w { packets = slice_set w.packets i (record s.packet { used = true }) }) k who x who.part who.replica.taken [] []
  shown = record {
    acts = acts plan before w i t m k (Datagram.Ack m k 0 a) m_lt k_lt apart t_le g here;
    step = step_is plan before w i t m k (Datagram.Ack m k 0 a) m_lt k_lt apart t_le g here who.replica who.up;
    turned = turned;
    there = there_then plan before w i t m k (Datagram.Ack m k 0 a) m_lt k_lt apart t_le g here;
    facts = λ is. facts_more plan before e _ is k who.part who.part who.replica.taken who.replica.taken who.facts here.stands.numbered
        (acts plan before w i t m k (Datagram.Ack m k 0 a) m_lt k_lt apart t_le g here).number (λ m x. x) (λ m x. inl x)
        (λ j z h to f q. absurd (subst (λ (c : Sent). IsFrame c.packet.datagram) (same_sent (sent plan before) i j s z g h (same_number plan i j s z q)) f))
        (λ f. (f, λ z n q r. n)) (λ nf. inl nf)
        (λ q. origin_stays plan before i s who.part (who.facts.origin q)) (λ q. elsewhere_stays plan before i s k who.part _ _ (λ m x. x) (λ x. x) (who.facts.other q));
    letters = λ z n. absurd n;
    lone = λ z n f. absurd n;
    apart = λ b c n z y p q r r'. absurd (none-some z p);
    same = refl;
    why = λ u q c. absurd (no_commit u q c);
    credit = 100;
    gained = gained plan before w i t m k (Datagram.Ack m k 0 a) m_lt k_lt apart t_le g here;
    spent = (let z = none_kept in let n = nothing_out k in omega (arith, z, n));
  }

  pub ack_arrives : Goes plan before e w
  ack_arrives = record {
    fits = fits plan before w i t m k (Datagram.Ack m k 0 a) m_lt k_lt apart t_le g here;
    may = may plan before w i t m k (Datagram.Ack m k 0 a) m_lt k_lt apart t_le g here;
    stands = stands_now plan here.fit before e w _ here.w_is here.stands (until plan before e w here) k k_lt who _ _ _ _ _ shown;
  }
