-- Runs over a file with a group whose sync failed meet the premises of the law of runs.
use Rattle.std.proofs.Common.{Global, List, Vec, [], arith, inl, inr, length, refl, suc, zero, ℕ, ◌<◌, ◌∷◌, ◌≡◌}
use Rattle.std.proofs.lemmas.Bool.{ne_eqb}
use Rattle.crsm_spec.specs.Lists.{Among}
use Rattle.crsm_law_lives.specs.Events.{lives_of}
use Rattle.crsm_law_processes.specs.Files.{with_lost_kept}
use Rattle.crsm_law_processes.specs.Laws.{ProcessesAreHistories, StepsOfProcessesAreRight}
use Rattle.crsm_law_restarts.specs.Processes.{Were}
use Rattle.crsm_law_restarts.specs.Runs.{AreRunsOf}
use Rattle.crsm_law_worked.specs.Devices.{at}
use Rattle.crsm_law_worked.specs.Files.{first_file, lost_file}
use Rattle.crsm_law_worked.specs.Values.{first_life, kept_life, new_life, third_life}
use Rattle.crsm_law_worked.specs.Kept.{LostGroupsMayStay, kept_events, kept_lives, runs_kept}
use Rattle.crsm_law_worked.proofs.First.{first_run}
use Rattle.crsm_law_worked.proofs.Idle.{idle_run}
use Rattle.crsm_law_worked.proofs.IdleRuns.{new_run, third_run}
use Rattle.crsm_law_worked.proofs.Runs.{no_body}
use Rattle.crsm_law_worked.proofs.KeptHistory.{is_listed, ran}

-- the first process, which kept its last group
kept_it : kept_life ∷ [] ≡ with_lost_kept first_life ∷ []
unfolding with_lost_kept
kept_it = refl

none_else : (k : ℕ) → lives_of (suc (suc k)) kept_lives ≡ []
unfolding lives_of
none_else k = rw (ne_eqb 0 (suc (suc k)) (λ same. omega (arith, same))) (rw (ne_eqb 1 (suc (suc k)) (λ same. omega (arith, same))) refl)

module _ (peers : Vec ℕ Global) (two : length peers.items ≡ 2) where
  found_kept : (file : List ℕ) → Among (lost_file ∷ []) file → Among (first_file ∷ lost_file ∷ []) file
  found_kept file (inl is) = inr (inl is)
  found_kept file (inr never) = absurd never

  are_runs : (k : ℕ) → k < 15 → AreRunsOf at 1 k (runs_kept peers two k)
  are_runs zero lt = (
    record { me = refl; count = refl; honest = refl; ran = (λ _. inr (first_run peers two), λ numbered. absurd (numbered refl)) },
    no_body peers two,
    (record { me = refl; count = refl; honest = refl; ran = (λ _. inr (third_run peers two), λ numbered. absurd (numbered refl)) }, found_kept, tt),
  )
  are_runs (suc zero) lt =
      (record { me = refl; count = refl; honest = refl; ran = (λ _. inr (new_run peers two), λ numbered. absurd (numbered refl)) }, no_body peers two, tt)
  are_runs (suc (suc k)) lt = tt

  were_lives : (k : ℕ) → k < 15 → Were at (runs_kept peers two k) (lives_of k kept_lives)
  unfolding lives_of first_run third_run new_run idle_run
  were_lives zero lt = (
    kept_life ∷ [],
    third_life ∷ [],
    refl,
    (λ _. inr (first_run peers two, inr (refl, kept_it)), λ numbered. absurd (numbered refl)),
    (third_life ∷ [], [], refl, (λ _. inr (third_run peers two, inl refl), λ numbered. absurd (numbered refl)), refl),
  )
  were_lives (suc zero) lt = (new_life ∷ [], [], refl, (λ _. inr (new_run peers two, inl refl), λ numbered. absurd (numbered refl)), refl)
  were_lives (suc (suc k)) lt = none_else k

  pub lost_groups_may_stay : ProcessesAreHistories → StepsOfProcessesAreRight → LostGroupsMayStay peers two
  lost_groups_may_stay histories steps = record {
    are = are_runs;
    were = were_lives;
    right = record {
      ran = ran;
      history = histories.history 1 kept_lives kept_events (omega arith) ran;
      right = λ l a x step. steps 1 kept_lives kept_events (omega arith) ran l a x step;
    };
    list = is_listed;
  }
