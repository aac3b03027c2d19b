-- The worked runs meet the premises of the law of runs.
use Rattle.std.proofs.Common.{Global, List, Vec, [], arith, inl, inr, length, refl, subst, suc, zero, ℕ, ◌<◌, ◌∷◌, ◌≡◌}
use Rattle.std.proofs.lemmas.Bool.{ne_eqb}
use Rattle.crsm_spec.specs.Lists.{Among}
use Rattle.crsm_law_lives.specs.Events.{lives_of}
use Rattle.crsm_law_processes.specs.Laws.{ProcessesAreHistories, StepsOfProcessesAreRight}
use Rattle.crsm_law_restarts.specs.Processes.{Were}
use Rattle.crsm_law_restarts.specs.Runs.{AreRunsOf, HasNoBody}
use Rattle.crsm_law_worked.specs.Devices.{at}
use Rattle.crsm_law_worked.specs.Files.{first_file, lost_file}
use Rattle.crsm_law_worked.specs.Values.{first_life, second_life}
use Rattle.crsm_law_worked.specs.Worked.{WorkedRuns, happened, lives, runs_over}
use Rattle.crsm_law_worked.proofs.First.{first_run}
use Rattle.crsm_law_worked.proofs.Second.{second_run}
use Rattle.crsm_law_worked.proofs.History.{is_listed, is_replied, ran}

-- no other node had a process
none_else : (k : ℕ) → lives_of (suc k) lives ≡ []
unfolding lives_of
none_else k = rw (ne_eqb 0 (suc k) (λ same. omega (arith, same))) refl

module _ (peers : Vec ℕ Global) (two : length peers.items ≡ 2) where
  -- the first run finds an empty file
  pub no_body : (file : List ℕ) → Among ([] ∷ []) file → HasNoBody file
  no_body file (inl is) = subst HasNoBody is refl
  no_body file (inr never) = absurd never

  -- the second run finds a file that the first one may leave
  found_left : (file : List ℕ) → Among (first_file ∷ []) file → Among (first_file ∷ lost_file ∷ []) file
  found_left file (inl is) = inl is
  found_left file (inr never) = absurd never

  are_runs : (k : ℕ) → k < 15 → AreRunsOf at 1 k (runs_over peers two k)
  are_runs zero lt = (
    record { me = refl; count = refl; honest = refl; ran = (λ _. inr (first_run peers two), λ numbered. absurd (numbered refl)) },
    no_body,
    (
      record { me = refl; count = refl; honest = refl; ran = (λ _. inr (second_run peers two), λ numbered. absurd (numbered refl)) },
      found_left,
      tt,
    ),
  )
  are_runs (suc k) lt = tt

  were_lives : (k : ℕ) → k < 15 → Were at (runs_over peers two k) (lives_of k lives)
  unfolding lives_of first_run second_run
  were_lives zero lt = (
    first_life ∷ [],
    second_life ∷ [],
    refl,
    (λ _. inr (first_run peers two, inl refl), λ numbered. absurd (numbered refl)),
    (second_life ∷ [], [], refl, (λ _. inr (second_run peers two, inl refl), λ numbered. absurd (numbered refl)), refl),
  )
  were_lives (suc k) lt = none_else k

  pub worked_runs : ProcessesAreHistories → StepsOfProcessesAreRight → WorkedRuns peers two
  worked_runs histories steps = record {
    are = are_runs;
    were = were_lives;
    right = record {
      ran = ran;
      history = histories.history 1 lives happened (omega arith) ran;
      right = λ l a x step. steps 1 lives happened (omega arith) ran l a x step;
    };
    replied = is_replied;
    list = is_listed;
  }
