use Rattle.std.specs.Prelude.{◌≡◌}
use Rattle.crsm_law_killed.proofs.run.run_until_killed.Given as goal

abbrev pub ghosts-run_stopping-KP-Start : goal.ghosts-run_stopping-KP-Start
ghosts-run_stopping-KP-Start g a = record { is_first = λ port. port ≡ a.port; calls = a.calls.port }

abbrev pub ghosts-run_stopping-KD-Start : goal.ghosts-run_stopping-KD-Start
ghosts-run_stopping-KD-Start g a = record { is_first = λ disk. disk ≡ a.disk; calls = a.calls.disk }

abbrev pub ghosts-run_stopping-KO-Start : goal.ghosts-run_stopping-KO-Start
ghosts-run_stopping-KO-Start g a = record { is_first = λ sheet. sheet ≡ a.sheet; calls = a.calls.sheet }
