-- A suspended replica logs no more entries.
use Rattle.std.proofs.Common.{◌≡◌, ℕ, ◌<◌, Bool, true, false, refl, ◌∙◌, ap, ◌⊎◌, inl, inr, arith, ◌∷◌, cond}
use Rattle.std.proofs.lemmas.Bool.{ltb-true, ne_eqb, and_parts, false≢true}
use Rattle.std.specs.Prelude.{IsTrue, not, ◌&&◌, nat_lt, Some}
use Rattle.crsm_spec.specs.Types.{Decision, Rec}
use Rattle.crsm_spec.specs.Quorum.{spec_decided}
use Rattle.crsm_spec.specs.Log.{Log, known, decision, logged_in, suspended, live, active, with_entry}
use Rattle.crsm_spec.specs.Fits.{fits, booted, can_be_members}
use Rattle.crsm_fact_log.specs.Logs.{Extends, same, more, AllFit}
use Rattle.crsm_law_collection.specs.Frozen.{StaysFrozen}
use Rattle.crsm_fact_log.proofs.Logged.{prepare_known, decide_above}

-- the log is suspended in epoch e, or knows a later one
abbrev Past : ℕ → Log → Type 0
Past e log = ((known log ≡ e) × IsTrue (suspended log)) ⊎ (e < known log)

not_active : (log : Log) → IsTrue (suspended log) → IsTrue (active log) → ⊥
unfolding active
not_active log s a = go (live log) (suspended log) s a
  where
    go : (b c : Bool) → IsTrue c → IsTrue (b && not c) → ⊥
    go true true f g = false≢true g
    go true false f g = false≢true f
    go false c f g = false≢true g

past_more : (e me n : ℕ) (log : Log) (rec : Rec) → IsTrue (fits me n log rec) → Past e log → Past e (rec ∷ log) × (logged_in e (rec ∷ log) ≡ logged_in e log)
unfolding known decision suspended logged_in
past_more e me n log (Rec.Boot k m) h p = (p, refl)
past_more e me n log (Rec.Prepare y) h p = (p, ap (λ b. cond b (with_entry y (logged_in e log)) (logged_in e log)) (ne_eqb y.epoch e other))
  where
    fit : y.epoch ≡ known log
    fit = (prepare_known me n log y h).0

    other : y.epoch ≡ e → ⊥
    other g = elim p [ inl q ↦ not_active log q.1 (prepare_known me n log y h).2 | inr l ↦ (let f = fit in omega (arith, f, g, l)) ]
past_more e me n log (Rec.Commit s) h p = (p, refl)
past_more e me n log (Rec.Adopt place es) h p = (p, refl)
past_more e me n log (Rec.Suspend k) h (inl q) = (inl (q.0, refl), refl)
past_more e me n log (Rec.Suspend k) h (inr l) = (inr l, refl)
past_more e me n log (Rec.Promise i b) h p = (p, refl)
past_more e me n log (Rec.Accept i b d) h p = (p, refl)
past_more e me n log (Rec.Decide d) h p = (inr (above p), refl)
  where
    above : Past e log → e < d.epoch
    above (inl q) = let l = decide_above me n log d h in omega (arith, q.0, l)
    above (inr l) = let m = decide_above me n log d h in omega (arith, l, m)
past_more e me n log (Rec.Enter k) h p = (p, refl)

frozen_past : (e me n : ℕ) {log later : Log} → Extends log later → AllFit me n later → Past e log → Past e later × (logged_in e later ≡ logged_in e log)
frozen_past e me n same h p = (p, refl)
frozen_past e me n (more {new = new} rec x) h p =
    let r = frozen_past e me n x h.1 p in
    let s = past_more e me n new rec h.0 r.0 in
    (s.0, s.1 ∙ r.1)

pub stays_frozen : StaysFrozen
stays_frozen me n log later x h s = (frozen_past (known log) me n x h (inl (refl, s))).1
