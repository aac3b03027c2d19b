-- Generated runs, and their summary.
use Rattle.std.specs.Prelude.{◌<◌, ◌≤◌, ◌+◌, ◌*◌, ◌^◌, ℕ, List, length, map}
use Rattle.std.specs.List.{count_by}
use Rattle.crsm_spec.specs.Run.{seen}
use Rattle.crsm_spec.specs.Types.{Line}
use Rattle.crsm_spec.specs.World.{finals}
use Rattle.crsm_world.specs.Schedule.{Schedule, acts_of, last_world}
unfoldable pub use Rattle.crsm_law_draws.specs.Drawn.{drawn, drawn_from}
use Rattle.crsm_cmd_soak.specs.Counting.{executed_in, greatest, is_answer, is_drop, is_refusal, is_send, is_submission, known_in}
use Rattle.crsm_cmd_soak.specs.declared.summary.Summary.{Summary}

-- ---- the summary

-- nothing has happened
unfoldable pub nothing : Summary
nothing = record { steps = 0; submitted = 0; executed = 0; answered = 0; refused = 0; dropped = 0; epoch = 0; datagrams = 0 }

-- the summary after further events, which led to these lines
unfoldable pub more : Summary → (steps : ℕ) → List Line → Summary
more s steps lines =
    record s {
      steps = s.steps + steps;
      submitted = s.submitted + count_by is_submission lines;
      answered = s.answered + count_by is_answer lines;
      refused = s.refused + count_by is_refusal lines;
      dropped = s.dropped + count_by is_drop lines;
      datagrams = s.datagrams + count_by is_send lines;
    }

-- The summary is of the boots and of fewer than n events, which have led to no more than n lists of fewer than 2 ^ 64
-- lines.
pub record IsBelow (n : ℕ) (s : Summary) : Type 0 where
  pub steps : s.steps < n
  pub submitted : s.submitted ≤ n * 2 ^ 64
  pub answered : s.answered ≤ n * 2 ^ 64
  pub refused : s.refused ≤ n * 2 ^ 64
  pub dropped : s.dropped ≤ n * 2 ^ 64
  pub datagrams : s.datagrams ≤ n * 2 ^ 64

-- the lines that are seen in the run of a schedule
unfoldable pub lines_of : Schedule → List Line
lines_of s = map (λ x. x.line) (seen s.replicas (acts_of s))

-- The summary of a run: the number of its events, the counts of its lines, and the greatest numbers of its final lines.
unfoldable pub summary_of : Schedule → Summary
summary_of s =
    record (more nothing (length s.events) (lines_of s)) {
      executed = greatest executed_in (finals (last_world s));
      epoch = greatest known_in (finals (last_world s));
    }
