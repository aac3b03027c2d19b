-- The acts that a world has executed, and one more.
use Rattle.std.proofs.Common.{◌≡◌, ℕ, List, [], ◌∷◌, ◌++◌, None, refl, sym, subst}
use Rattle.crsm_schedule.specs.declared.Event.{Event}
use Rattle.crsm_schedule.specs.Grammar.{FitsEvent}
use Rattle.crsm_spec.specs.World.{World as Cluster, begin}
use Rattle.crsm_spec.specs.Acts.{Act, FitsAct}
use Rattle.crsm_spec.specs.Moments.{act}
use Rattle.crsm_spec.specs.Possible.{possible}
use Rattle.crsm_spec.specs.Run.{ArePossible, after_acts, last_world}
use Rattle.crsm_spec.specs.Calm.{RoundsAreBounded}
use Rattle.crsm_spec.specs.Safe.{IsSafe}
use Rattle.crsm_law_runs.specs.Laws.{AnsweredAreKept}
use Rattle.crsm_law_runs.specs.DurableLaws.{DecisionsAlwaysAgree}
use Rattle.crsm_world.specs.declared.world.World.{World}
use Rattle.crsm_world.specs.Doing.{act_of}
use Rattle.crsm_world.specs.World.{WorldStands}
use Rattle.crsm_world.specs.Laws.{HasDone, IsLawful}
use Rattle.crsm_world.proofs.Schedules.{fits_act}

after_more : (v : Cluster) (acts : List Act) (a : Act) → after_acts v (acts ++ a ∷ []) ≡ (act (after_acts v acts) a).after
unfolding after_acts
after_more v [] a = refl
after_more v (x ∷ xs) a = after_more (act v x).after xs a

possible_more : (v : Cluster) (acts : List Act) (a : Act) → ArePossible v acts → FitsAct a → possible (after_acts v acts) a ≡ None → ArePossible v (acts ++ a ∷ [])
unfolding after_acts
possible_more v [] a p fits here = (fits, here, tt)
possible_more v (x ∷ xs) a p fits here = (p.0, p.1, possible_more (act v x).after xs a p.2 fits here)

-- a world that has executed these acts has executed one more, if that was possible and the world stands for its effect
pub does_more : (old new : World) (n : ℕ) (acts : List Act) (e : Event) → HasDone old n acts → FitsEvent e
    → possible (last_world n acts) (act_of e) ≡ None → WorldStands new (act (last_world n acts) (act_of e)).after → HasDone new n (acts ++ act_of e ∷ [])
unfolding last_world
does_more old new n acts e done fits here stands =
    record {
      some = done.some;
      most = done.most;
      possible = possible_more (begin n) acts (act_of e) done.possible (fits_act e fits) here;
      stands = subst (λ v. WorldStands new v) (sym (after_more (begin n) acts (act_of e))) stands;
    }

-- what it has done keeps all laws
pub is_lawful : (w : World) (n : ℕ) (acts : List Act) → IsSafe → AnsweredAreKept → DecisionsAlwaysAgree → RoundsAreBounded → HasDone w n acts → IsLawful n acts
is_lawful w n acts safe kept agree bound done =
    let all = safe n done.some done.most acts done.possible in
    record {
      agreement = all.0;
      answers = all.1;
      real_time = all.2;
      durable = kept n acts done.most done.possible;
      decisions = agree n acts done.most done.possible;
      bounded = bound n done.some done.most acts done.possible;
    }
