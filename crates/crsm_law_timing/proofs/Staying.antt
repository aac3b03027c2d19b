-- The state of a replica after a delivery that does not change its progress.
use Rattle.std.proofs.Common.{ℕ, List, [], ◌∷◌, ◌++◌}
use Rattle.crsm_spec.specs.Lists.{Among}
use Rattle.crsm_fact_log.proofs.Lists.{among_left}
use Rattle.crsm_spec_plan.specs.declared.Plan.{Plan}
use Rattle.crsm_spec_plan.specs.Timelines.{Timed, Sent, delivery}
use Rattle.crsm_law_timing.proofs.Local.{Part}
use Rattle.crsm_law_timing.proofs.Letters.{AtOrigin, Elsewhere}
use Rattle.crsm_law_timing.proofs.Deliveries.{no_request, no_tick, not_then, was_before}

-- the facts of where a replica is, after a delivery that does not change its part
pub origin_stays : (plan : Plan) (before : List Timed) (i : ℕ) (s : Sent) (p : Part) → AtOrigin plan before p → AtOrigin plan (before ++ delivery plan i s ∷ []) p
origin_stays plan before i s p o = record {
  begun = λ l. among_left before _ _ (o.begun l);
  begins = λ x. o.begins (was_before before (delivery plan i s) _ (no_request plan i s) x);
  owes = o.owes;
}

pub elsewhere_stays : (plan : Plan) (before : List Timed) (i : ℕ) (s : Sent) (k : ℕ) (p : Part) (tk now : List ℕ) → ((m : ℕ) → Among tk m → Among now m) → (Among now plan.origin → Among tk plan.origin) →
    Elsewhere plan before k p tk → Elsewhere plan (before ++ delivery plan i s ∷ []) k p now
elsewhere_stays plan before i s k p tk now grows same o = record {
  has = λ l. grows plan.origin (o.has l);
  had = λ x. o.had (same x);
  owes = λ q. ((o.owes q).0, not_then before (delivery plan i s) _ (o.owes q).1 (no_tick plan i k s));
  paid = λ nf le. among_left before _ _ (o.paid nf le);
  passed = λ nf. let f = o.passed nf in (f.0, among_left before _ f.0 f.1, f.2);
}
