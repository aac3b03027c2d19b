-- Nothing of a schedule that can be run is refused, and no event for two causes.
use Rattle.std.proofs.Common.{◌≡◌, List, [], ◌∷◌, ◌++◌, Some, None, map, ap, sym, ◌∙◌, subst}
use Rattle.crsm_schedule.specs.declared.Event.{Event}
use Rattle.crsm_sim_schedule.specs.Rules.{AreExact}
use Rattle.crsm_sim_schedule.specs.Schedules as read
use Rattle.crsm_sim_schedule.specs.declared.Cause.{Cause}
use Rattle.crsm_mpspec.specs.Moments.{act}
use Rattle.crsm_mpspec.specs.Possible.{possible}
use Rattle.crsm_mpspec.specs.Run.{ArePossible, after_acts, last_world as world_at_end}
use Rattle.crsm_mpspec.specs.World.{World, begin}
use Rattle.crsm_mpworld.specs.Doing.{act_of}
use Rattle.crsm_mpworld.specs.Schedule.{IsSchedule, acts_of, last_world}
use Rattle.crsm_mpreplay.specs.Causes.{cause_told}
use Rattle.crsm_mpreplay.specs.Rules.{IsImpossible, leader_rules, of_leader}

-- the event behind possible ones is possible
possible_next : (w : World) (es : List Event) (e : Event) (more : List Event) → ArePossible w (map act_of (es ++ e ∷ more)) → possible (after_acts w (map act_of es)) (act_of e) ≡ None
unfolding after_acts
possible_next w [] e more p = p.1
possible_next w (x ∷ es) e more p = possible_next (act w (act_of x)).after es e more p.2

follows : (s next : read.Schedule) (e : Event) (more : List Event) → IsSchedule (of_leader next) → next.replicas ≡ s.replicas → next.events ≡ s.events ++ e ∷ more
    → possible (last_world (of_leader s)) (act_of e) ≡ None
unfolding last_world world_at_end acts_of
follows s next e more good size events =
    possible_next (begin s.replicas) s.events e more
    (subst (λ n. ArePossible (begin n) (map act_of (s.events ++ e ∷ more))) size (subst (λ es. ArePossible (begin next.replicas) (map act_of es)) events good.possible))

pub same : {A : Type 0} (x y : A) → Some x ≡ Some y → x ≡ y
same x y e = cc

pub none_not_some : {A : Type 0} (x : A) → None ≡ Some x → ⊥
none_not_some x e = cc

for_one_cause : (w : World) (e : Event) (c d : Cause) → IsImpossible w e c → IsImpossible w e d → c ≡ d
for_one_cause w e c d p q = sym p.named ∙ ap cause_told (same p.why q.why (sym p.is ∙ q.is)) ∙ q.named

pub are_exact : AreExact leader_rules
are_exact = record {
  fits = λ s good. record { size = good.size; fit = good.fit };
  none_refused = λ s next e more cause good size events refused. none_not_some refused.why (sym (follows s next e more good size events) ∙ refused.is);
  one_cause = λ s e c d p q. for_one_cause (last_world (of_leader s)) e c d p q;
}
