-- The numbers of the control messages that a step sends have encodings.
use Rattle.std.proofs.Common.{◌≡◌, ℕ, ◌+◌, ◌≤◌, List, [], ◌∷◌, ◌++◌, length, refl, sym, ◌∙◌, ap, subst, inl, inr, Bool, true, false, arith}
use Rattle.std.specs.Prelude.{◌==◌, Option, Some, None, nat_lt}
use Rattle.std.specs.List.{enumerate_from}
use Rattle.std.specs.Option.{option_map_or}
use Rattle.std.proofs.lemmas.Bool.{eq-eqb, false≢true}
use Rattle.crsm_base.specs.Messages.{control_bytes}
use Rattle.crsm_spec.specs.Choice.{when◌then◌otherwise◌}
use Rattle.crsm_spec.specs.Clock.{u64_max}
use Rattle.crsm_spec.specs.Types.{Control, Datagram}
use Rattle.crsm_spec.specs.Lists.{Among}
use Rattle.crsm_spec.specs.Log.{Log, boots}
use Rattle.crsm_spec.specs.Parts.{cut}
use Rattle.crsm_spec.specs.Replica.{Replica, fresh}
use Rattle.crsm_spec.specs.Draft.{Draft, begun, keep, send_control, parts_to}
use Rattle.crsm_spec.specs.Step.{Input, step, boot, first_boot, founding_boot, boot_again}
use Rattle.crsm_spec.specs.Node.{Turn, input_of, turn}
use Rattle.crsm_fact_log.proofs.Lists.{among_either}
use Rattle.crsm_fact_step.specs.Changes.{Changes, stay, and_then}
use Rattle.crsm_fact_step.proofs.Fitted.{step_changes}
use Rattle.crsm_law_epoch.proofs.Words.{among_unmap}
use Rattle.crsm_law_messages.proofs.Effects.{PartsChange, Quiet, SendsOne, GathersOne, parts_change}
use Rattle.crsm_law_messages.proofs.SendingControls.{same_parts}

-- the datagram, if it is a part, is of a message whose number has an encoding
abbrev pub IsNumbered : Datagram → Type 0
IsNumbered d = (a j b i y c : ℕ) (bytes : List ℕ) → d ≡ Datagram.Part a j b i y c bytes → i ≤ u64_max

pub record IsGood (x : Draft) : Type 0 where
  pub made : x.replica.made ≤ u64_max
  pub sends : (s : ℕ × Datagram) → Among x.sends s → IsNumbered s.1

-- ---- control messages

parts_numbered : (r : Replica) (k : ℕ) (m : Control) → r.made ≤ u64_max → (s : ℕ × Datagram) → Among (parts_to r k m) s → IsNumbered s.1
unfolding parts_to
parts_numbered r k m le s h a j b i y c bytes e =
    let ps = cut (control_bytes m) in
    let t = among_unmap (λ p. (k, Datagram.Part r.me k (boots r.log) r.made p.0 (length ps) p.1)) (enumerate_from 0 ps) s h in
    let w = same_parts r.me k (boots r.log) r.made t.0.0 (length ps) t.0.1 a j b i y c bytes (ap (λ u. u.1) t.2 ∙ e) in
    let n = w.number in
    omega (arith, n, le)

module _ (r : Replica) (input : Input) (reading : ℕ) where
  one_more : (k : ℕ) (m : Control) (x : Draft) → IsGood x → IsGood (send_control m x k)
  unfolding send_control when◌then◌otherwise◌
  one_more k m x g = go (x.replica.made == u64_max) refl
    where
      go : (b : Bool) → (x.replica.made == u64_max) ≡ b → IsGood (when b then x otherwise record x { replica = record x.replica { made = x.replica.made + 1 }; sends = x.sends ++ parts_to x.replica k m })
      go true e = g
      go false e = record {
        made = (let le = g.made in let ne : x.replica.made ≡ u64_max → ⊥ = λ is. false≢true (sym e ∙ eq-eqb x.replica.made u64_max is) in omega (arith, le, ne));
        sends = λ s h. elim (among_either x.sends (parts_to x.replica k m) s h) [ inl a ↦ g.sends s a | inr b ↦ parts_numbered x.replica k m g.made s b ];
      }

  numbered : (x y : Draft) → PartsChange r input x y → IsGood x → IsGood y
  numbered x y (Quiet q) g = record {
    made = subst (λ m. m ≤ u64_max) (sym q.made) g.made;
    sends = λ s h. elim (q.sends s h) [ inl a ↦ g.sends s a | inr isnt ↦ (λ a j b i z c bytes e. absurd (isnt a j b i z c bytes e)) ];
  }
  numbered x y (SendsOne k c is to) g = one_more k c x g
  numbered x y (GathersOne a p i) g = record { made = g.made; sends = g.sends }

  good_changes : {y : Draft} → Changes r input reading (begun r) y → IsGood (begun r) → IsGood y
  good_changes stay g = g
  good_changes (and_then {y = y} {z = z} p c f) g = numbered y z (parts_change r input reading y z c) (good_changes p g)

-- ---- turns and boots

good_begun : (r : Replica) → r.made ≤ u64_max → IsGood (begun r)
unfolding begun
good_begun r le = record { made = le; sends = λ s h. absurd h }

pub good_turn : (r : Replica) (t : Turn) (reading : ℕ) → r.made ≤ u64_max → IsGood (turn r (t, reading))
unfolding turn
good_turn r t reading le = go (input_of t)
  where
    go : (o : Option Input) → IsGood (option_map_or (λ i. step r i reading) o (begun r))
    go None = good_begun r le
    go (Some i) = good_changes r i reading (step_changes r i reading) (good_begun r le)

pub good_boot : (k n : ℕ) (log : Log) → IsGood (boot k n log)
unfolding boot first_boot founding_boot boot_again keep begun fresh when◌then◌otherwise◌
good_boot k n (rec ∷ log) = record { made = omega arith; sends = λ s h. absurd h }
good_boot k n [] = go (nat_lt k n)
  where
    go : (b : Bool) → IsGood (when b then founding_boot k n otherwise boot_again k n [])
    go true = record { made = omega arith; sends = λ s h. absurd h }
    go false = record { made = omega arith; sends = λ s h. absurd h }
