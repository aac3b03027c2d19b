-- The commits recorded in logs.
use Rattle.std.proofs.Common.{◌≡◌, ℕ, List, [], ◌∷◌, refl, sym, ◌∙◌, ap, inl, inr, Bool, true, false, cond}
use Rattle.std.specs.Prelude.{◌⊎◌, IsTrue, Option, Some, None, not, ◌&&◌, ◌==◌}
use Rattle.std.proofs.lemmas.Bool.{and_parts, not-true, eqb-true}
use Rattle.std.proofs.lemmas.Option.{none-some, same_Some}
use Rattle.crsm_spec.specs.Types.{Stamp, Entry, Rec}
use Rattle.crsm_base.specs.Order.{stamp_lt}
use Rattle.crsm_spec.specs.Lists.{Among, first_of}
use Rattle.crsm_spec.specs.Log.{Log, known, decision, logged, logged_in, with_entry, unexecuted, above, last_stamp, active, live, suspended, has_entered}
use Rattle.crsm_spec.specs.Fits.{fits}
use Rattle.crsm_fact_log.specs.Logs.{Extends, same, more, AllFit, Logged}
use Rattle.crsm_law_epoch.proofs.Quiet.{entered_more}
use Rattle.crsm_law_epoch.proofs.Kept.{live_entered}
use Rattle.crsm_fact_log.proofs.Logged.{logged_is}
use Rattle.crsm_fact_log.proofs.Lists.{first_among, kept_from}

-- a log that goes on from one record is that record's, or goes on before the newest
pub extends_cases : (c rec : Rec) (log old : Log) → Extends (c ∷ log) (rec ∷ old) → ((c ≡ rec) × (log ≡ old)) ⊎ Extends (c ∷ log) old
extends_cases c rec log old same = inl (refl, refl)
extends_cases c rec log old (more r h) = inr h

fit_end : (me n : ℕ) (a b : Log) → Extends a b → AllFit me n b → AllFit me n a
fit_end me n a b same h = h
fit_end me n a b (more {new = c} rec p) h = fit_end me n a c p h.1

entered_end : (x : ℕ) (a b : Log) → Extends a b → IsTrue (has_entered x a) → IsTrue (has_entered x b)
entered_end x a b same h = h
entered_end x a b (more {new = c} rec p) h = entered_more x rec c (entered_end x a c p h)

commit_active : (me n : ℕ) (log : Log) (s : Stamp) → IsTrue (fits me n log (Rec.Commit s)) → IsTrue (live log)
unfolding fits active
commit_active me n log s h = (and_parts (live log) (not (suspended log)) (and_parts (live log && not (suspended log)) _ h).0).0

-- who has committed in an epoch has entered it
pub committed_entered : (k n : ℕ) (log : Log) (s : Stamp) (now : Log) → Extends (Rec.Commit s ∷ log) now → AllFit k n now → IsTrue (has_entered (known log) now)
committed_entered k n log s now e fit =
    let f = fit_end k n (Rec.Commit s ∷ log) now e fit in
    entered_end (known log) (Rec.Commit s ∷ log) now e (entered_more (known log) (Rec.Commit s) log (live_entered k n log f.1 (commit_active k n log s f.0)).0)

pub enter_new : (me n : ℕ) (log : Log) → IsTrue (fits me n log (Rec.Enter (known log))) → has_entered (known log) log ≡ false
unfolding fits
enter_new me n log h = not-true (has_entered (known log) log) (and_parts _ (not (has_entered (known log) log)) h).1

-- ---- entries that are not executed

above_among : (o : Option Stamp) (es : List Entry) (z : Entry) → Among (above o es) z → Among es z
unfolding above
above_among None es z h = h
above_among (Some s) es z h = (kept_from (λ e. stamp_lt s e.stamp) es z h).0

pub unexecuted_logged : (log : Log) (z : Entry) → first_of (unexecuted log) ≡ Some z → Logged log z × (z.epoch ≡ known log)
unfolding unexecuted logged
unexecuted_logged log z h = logged_is (known log) log z (above_among (last_stamp log) (logged_in (known log) log) z (first_among (unexecuted log) z h))

-- ---- records that keep the known epoch

pub enter_knows : (e : ℕ) (log : Log) → known log ≡ known (Rec.Enter e ∷ log)
unfolding known decision
enter_knows e log = refl

pub prepare_knows : (f : Entry) (log : Log) → known log ≡ known (Rec.Prepare f ∷ log)
unfolding known decision
prepare_knows f log = refl

pub commit_knows : (s : Stamp) (log : Log) → known log ≡ known (Rec.Commit s ∷ log)
unfolding known decision
commit_knows s log = refl
