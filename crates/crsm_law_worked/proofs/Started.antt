-- Nodes that are started wrongly.
use Rattle.std.proofs.Common.{Global, List, Vec, [], ap, arith, inl, inr, length, refl, sym, ℕ, ◌++◌, ◌∙◌, ◌∷◌, ◌≡◌}
use Rattle.crsm_spec.specs.Types.{Entry}
use Rattle.crsm_spec.specs.Lists.{Among}
use Rattle.crsm_spec.specs.Step.{boot}
use Rattle.crsm_spec_process.specs.Lives.{kept_steps, kept_turns}
use Rattle.crsm_law_examples.proofs.Opened.{the_model}
use Rattle.crsm_log.specs.Format.{bodies_in}
use Rattle.crsm_law_lives.specs.Laws.{IsRightStep}
use Rattle.crsm_law_processes.specs.Laws.{ProcessesAreHistories, StepsOfProcessesAreRight}
use Rattle.crsm_law_restarts.specs.Processes.{Were}
use Rattle.crsm_law_restarts.specs.Runs.{AreRunsOf, HasNoBody}
use Rattle.crsm_law_worked.specs.Values.{entry_b, first_life, lost_entry, other_life, used_life, used_log}
use Rattle.crsm_law_worked.specs.Files.{used_bodies, used_file}
use Rattle.crsm_law_worked.specs.Devices.{at}
use Rattle.crsm_law_worked.specs.Worked.{first_of}
use Rattle.crsm_law_worked.specs.Breaking.{Disagree, Executes, other_of}
use Rattle.crsm_law_worked.specs.Started.{SharedNumbersBreak, UsedFilesBreak, WrongSizesBreak, events_alone, used_of}
use Rattle.crsm_law_worked.proofs.First.{first_run}
use Rattle.crsm_law_worked.proofs.Other.{other_run, packets_are}
use Rattle.crsm_law_worked.proofs.Idle.{idle_run}
use Rattle.crsm_law_worked.proofs.IdleRuns.{used_run}
use Rattle.crsm_law_worked.proofs.Logs.{reads_used}
use Rattle.crsm_law_worked.proofs.Runs.{no_body}
use Rattle.crsm_law_worked.proofs.Breaking.{differ, disagree, first_executes, other_executes}
use Rattle.crsm_law_worked.proofs.Sizes.{none_listed, ran}

-- ---- the process over a file that was used

used_executes : Executes 1 used_life lost_entry
unfolding the_model kept_turns kept_steps
used_executes = record { step = boot 1 1 used_log; kept = inl refl; list = refl }

disagree_used : Disagree 1 first_life used_life
disagree_used = record { first = entry_b; did = first_executes; second = lost_entry; does = used_executes; differ = differ }

not_none : HasNoBody used_file → ⊥
not_none is =
    let count : length used_bodies ≡ 0 = ap length (ap bodies_in (sym reads_used ∙ is)) in
    absurd (omega (arith, count))

found_used : (file : List ℕ) → Among (used_file ∷ []) file → file ≡ used_file
found_used file (inl is) = sym is
found_used file (inr never) = absurd never

-- ---- the step of a node that was told a wrong size

not_right : IsRightStep 3 events_alone 0 other_executes.step → ⊥
not_right right =
    let whole : (lost_entry ∷ []) ++ right.executed.0 ≡ [] = ap (λ (es : List Entry). es ++ right.executed.0) (sym other_executes.list) ∙ right.executed.1 ∙ none_listed in
    let count : length ((lost_entry ∷ []) ++ right.executed.0) ≡ 0 = ap length whole in
    absurd (omega (arith, count))

-- ---- the runs

module _ (peers : Vec ℕ Global) (two : length peers.items ≡ 2) where
  first_are : AreRunsOf at 1 0 (first_of peers two ∷ [])
  first_are = (record { me = refl; count = refl; honest = refl; ran = (λ _. inr (first_run peers two), λ numbered. absurd (numbered refl)) }, no_body peers two, tt)

  other_are : AreRunsOf at 1 0 (other_of peers two ∷ [])
  other_are = (record { me = refl; count = refl; honest = refl; ran = (λ _. inr (other_run peers two), λ numbered. absurd (numbered refl)) }, no_body peers two, tt)

  first_were : Were at (first_of peers two ∷ []) (first_life ∷ [])
  unfolding first_run
  first_were = (first_life ∷ [], [], refl, (λ _. inr (first_run peers two, inl refl), λ numbered. absurd (numbered refl)), refl)

  other_were : Were at (other_of peers two ∷ []) (other_life ∷ [])
  unfolding other_run
  other_were = (other_life ∷ [], [], refl, (λ _. inr (other_run peers two, inl refl), λ numbered. absurd (numbered refl)), refl)

  used_were : Were at (used_of peers two ∷ []) (used_life ∷ [])
  unfolding used_run idle_run
  used_were = (used_life ∷ [], [], refl, (λ _. inr (used_run peers two, inl refl), λ numbered. absurd (numbered refl)), refl)

  pub shared_numbers_break : SharedNumbersBreak peers two
  shared_numbers_break = record {
    zeroth = first_are;
    same = other_are;
    not_own = λ run. (let number : ◌≡◌ {A = ℕ} 0 1 = run.me in absurd (omega (arith, number)));
    was = first_were;
    was_same = other_were;
    disagree = disagree;
  }

  pub used_files_break : UsedFilesBreak peers two
  used_files_break = record {
    zeroth = first_are;
    first = (record { me = refl; count = refl; honest = refl; ran = (λ _. inr (used_run peers two), λ numbered. absurd (numbered refl)) }, found_used, tt);
    has_bodies = not_none;
    was = first_were;
    was_used = used_were;
    disagree = disagree_used;
  }

  pub wrong_sizes_break : ProcessesAreHistories → StepsOfProcessesAreRight → WrongSizesBreak peers two
  wrong_sizes_break histories steps = record {
    told_one = other_are;
    not_three = λ run. (let count : ◌≡◌ {A = ℕ} 1 3 = run.count in absurd (omega (arith, count)));
    was = other_were;
    executes = other_executes;
    answers = packets_are peers.items;
    right = record {
      ran = ran;
      history = histories.history 3 (other_life ∷ []) events_alone (omega arith) ran;
      right = λ l a x step. steps 3 (other_life ∷ []) events_alone (omega arith) ran l a x step;
    };
    none = none_listed;
    wrong = not_right;
  }
