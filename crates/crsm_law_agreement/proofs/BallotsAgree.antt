-- All decisions of one epoch are equal: an induction over epochs, since the Spec of an epoch is in its decision.
use Rattle.std.proofs.Common.{◌≡◌, ℕ, zero, suc, ◌+◌, ◌<◌, [], ◌∷◌, refl, sym, ◌∙◌, ap, subst, inl, inr, arith}
use Rattle.std.specs.Prelude.{IsTrue, Option, Some, None}
use Rattle.std.specs.Option.{option_map_or}
use Rattle.crsm_spec.specs.Types.{Decision, Rec}
use Rattle.crsm_spec.specs.Lists.{Among}
use Rattle.crsm_spec.specs.Log.{Log, known, decision, spec}
use Rattle.crsm_spec.specs.Quorum.{spec_decided}
use Rattle.crsm_spec.specs.Fits.{fits}
use Rattle.crsm_spec.specs.World.{log_at}
use Rattle.crsm_fact_log.specs.Logs.{AllFit, Extends}
use Rattle.crsm_fact_log.proofs.Logged.{decide_above, end_fits}
use Rattle.crsm_law_epoch.proofs.LogWorlds.{logs_fit}
use Rattle.crsm_law_agreement.specs.Ballots.{AreBallots}
use Rattle.crsm_law_agreement.specs.DecisionLaws.{DecisionsAreOne, KnownAreOne}
use Rattle.crsm_law_agreement.proofs.DecidedLogs.{decision_kept}
use Rattle.crsm_law_agreement.proofs.Coordinators.{extends_among}
use Rattle.crsm_law_agreement.proofs.Choice.{choices_are_one}
use Rattle.crsm_law_agreement.proofs.DecidedWorlds.{ballots_hold}

-- no decision is of the first epoch
pub decided_later : (me n : ℕ) (log : Log) (d : Decision) → AllFit me n log → Among log (Rec.Decide d) → 0 < d.epoch
decided_later me n [] d h a = absurd a
decided_later me n (rec ∷ log) d h (inl e) = let t = decide_above me n log d (subst (λ r. IsTrue (fits me n log r)) e h.0) in omega (arith, t)
decided_later me n (rec ∷ log) d h (inr a) = decided_later me n log d h.1 a

-- the known epoch is the first one, without a decision, or that of its decision
pub data Knows (log : Log) (e : ℕ) : Option Decision → Type 0 where
  First : e ≡ 0 → Knows log e None
  Later : (d : Decision) → Among log (Rec.Decide d) → d.epoch ≡ e → 0 < e → Knows log e (Some d)

pub knows : (me n : ℕ) (log : Log) → AllFit me n log → (e : ℕ) → known log ≡ e → Knows log e (decision log)
unfolding known
knows me n log h e is = go (decision log) refl
  where
    go : (o : Option Decision) → decision log ≡ o → Knows log e o
    go None q = First (sym (sym (ap (λ z. option_map_or (λ d. d.epoch) z 0) q) ∙ is))
    go (Some d) q =
        let a = decision_kept log d q in
        let at : d.epoch ≡ e = sym (ap (λ z. option_map_or (λ d. d.epoch) z 0) q) ∙ is in
        let t = decided_later me n log d h a in
        Later d a at (omega (arith, at, t))

module _ (n : ℕ) (logs : ℕ → Log) (fit : (k : ℕ) → AllFit k n (logs k)) (all : AreBallots n logs) where
  -- the decisions after epoch e, where those of epoch e are equal
  next_one : (e : ℕ) → ((j k : ℕ) (a b : Log) → Extends a (logs j) → Extends b (logs k) → known a ≡ e → known b ≡ e → decision a ≡ decision b) →
      (j k : ℕ) (c d : Decision) → Among (logs j) (Rec.Decide c) → Among (logs k) (Rec.Decide d) → c.epoch ≡ e + 1 → d.epoch ≡ e + 1 → c ≡ d
  unfolding spec
  next_one e before j k c d hc hd ec ed =
      let p = all.decided j c hc in
      choices_are_one n e (spec n p.log) logs fit all (λ i log x kn. ap (spec_decided n) (before i p.by log p.log x p.earlier kn (known_at (known p.log) p.next))) j k c d hc hd ec ed
    where
      known_at : (k : ℕ) → c.epoch ≡ k + 1 → k ≡ e
      known_at k p = omega (arith, p, ec)

  next_is : (i e : ℕ) → i ≡ suc e → i ≡ e + 1
  next_is i e h = omega (arith, h)

  of_first : (a b : Log) (o p : Option Decision) → Knows a 0 o → Knows b 0 p → o ≡ p
  of_first a b None None (First h) (First i) = refl
  of_first a b None (Some _) (First h) (Later d x at lt) = absurd (omega (arith, lt))
  of_first a b (Some _) p (Later c x at lt) t = absurd (omega (arith, lt))

  of_next : (e : ℕ) → ((j k : ℕ) (a b : Log) → Extends a (logs j) → Extends b (logs k) → known a ≡ e → known b ≡ e → decision a ≡ decision b) →
      (j k : ℕ) (a b : Log) → Extends a (logs j) → Extends b (logs k) → (o p : Option Decision) → Knows a (suc e) o → Knows b (suc e) p → o ≡ p
  of_next e before j k a b xa xb None p (First h) t = absurd (omega (arith, h))
  of_next e before j k a b xa xb (Some _) None (Later c x at lt) (First h) = absurd (omega (arith, h))
  of_next e before j k a b xa xb (Some _) (Some _) (Later c x at lt) (Later d y is lu) =
      ap (λ z. Some z) (next_one e before j k c d (extends_among xa (Rec.Decide c) x) (extends_among xb (Rec.Decide d) y) (next_is c.epoch e at) (next_is d.epoch e is))

  pub same_decision : (e j k : ℕ) (a b : Log) → Extends a (logs j) → Extends b (logs k) → known a ≡ e → known b ≡ e → decision a ≡ decision b
  same_decision zero j k a b xa xb ka kb = of_first a b (decision a) (decision b) (knows j n a (end_fits j n xa (fit j)) 0 ka) (knows k n b (end_fits k n xb (fit k)) 0 kb)
  same_decision (suc e) j k a b xa xb ka kb =
      of_next e (same_decision e) j k a b xa xb (decision a) (decision b) (knows j n a (end_fits j n xa (fit j)) (suc e) ka) (knows k n b (end_fits k n xb (fit k)) (suc e) kb)

  pub one_decision : (j k : ℕ) (c d : Decision) → Among (logs j) (Rec.Decide c) → Among (logs k) (Rec.Decide d) → c.epoch ≡ d.epoch → c ≡ d
  one_decision j k c d hc hd same_epoch =
      let p = all.decided j c hc in
      next_one (known p.log) (same_decision (known p.log)) j k c d hc hd p.next (sym same_epoch ∙ p.next)

pub decisions_are_one : DecisionsAreOne
decisions_are_one n w q few spelt = one_decision n (log_at w) (logs_fit n w q few) (ballots_hold n w q few spelt)

pub known_are_one : KnownAreOne
known_are_one n w q few spelt j k a b xa xb e = same_decision n (log_at w) (logs_fit n w q few) (ballots_hold n w q few spelt) (known b) j k a b xa xb e refl
