-- Worlds on the way to the last.
use Rattle.std.proofs.Common.{◌≡◌, ℕ, ◌≤◌, List, [], ◌∷◌, length, refl, subst, inl, inr, arith}
use Rattle.std.specs.Prelude.{Some, slice_get}
use Rattle.std.proofs.lemmas.Option.{none-some}
use Rattle.std.specs.List.{AllByRecursion}
use Rattle.crsm_spec.specs.Types.{Entry}
use Rattle.crsm_spec.specs.Log.{Log}
use Rattle.crsm_spec.specs.World.{World, begin, log_at}
use Rattle.crsm_spec.specs.Acts.{Act}
use Rattle.crsm_spec.specs.Run.{ArePossible, all_worlds, last_world, the_list}
use Rattle.crsm_fact_log.specs.Logs.{Extends, same, more}
use Rattle.crsm_law_steps.specs.Laws.{LogsGoOn}
use Rattle.crsm_law_steps.specs.Happenings.{IsReached}
use Rattle.crsm_law_bounds.specs.Bounds.{HasShortLogs}
use Rattle.crsm_law_bounds.proofs.Worlds.{short_logs_are_spelt}
use Rattle.crsm_law_bounds.proofs.Short.{run_short}
use Rattle.crsm_law_runs.specs.Runs.{IsTheList}
use Rattle.crsm_law_runs.specs.Last.{IsLast, IsBefore}
use Rattle.crsm_law_runs.proofs.RunLists.{each_of}
use Rattle.crsm_law_runs.proofs.Runs.{last_among, list_is_one, last_on}

longer : (a b : Log) → Extends a b → length a ≤ length b
longer a b same = omega arith
longer a b (more {new = c} rec x) = let t = longer a c x in omega (arith, t)

-- a world that goes on to the last is one on the way
pub is_before : (n : ℕ) (end w : World) (list : List Entry) → IsLast n end list → IsReached n w → LogsGoOn w end → IsBefore n end w
is_before n end w list last reached on = record {
  reached = reached;
  spelt = short_logs_are_spelt n w last.most reached (λ k. let t = longer (log_at w k) (log_at end k) (on k) in let s = last.short k in omega (arith, t, s));
  goes_on = on;
}

pub end_before : (n : ℕ) (end : World) (list : List Entry) → IsLast n end list → IsBefore n end end
end_before n end list last = is_before n end end list last last.reached (λ k. same)

-- the last world of a run is such a one
pub last_of_run : (n : ℕ) (acts : List Act) → n ≤ 15 → ArePossible (begin n) acts → IsLast n (last_world n acts) (the_list n acts)
last_of_run n acts most p =
    let one = list_is_one n acts most p in
    record {
      most = most;
      reached = (last_on n acts most p).reached;
      short = each_of HasShortLogs (all_worlds n acts) (run_short n acts p) (last_world n acts) (last_among n acts);
      prefix = one.ends;
      held = λ q e at. elim one.is [
        | inl none ↦ absurd (none-some e (subst (λ l. slice_get l q ≡ Some e) none at))
        | inr t ↦ (t.0, t.1, t.2, subst (λ l. slice_get l q ≡ Some e) t.3 at)
      ];
    }
