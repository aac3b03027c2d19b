use Rattle.std.proofs.Common.{◌≡◌, ◌∙◌, ◌++◌, ap}
use Rattle.crsm_schedule.specs.Transcript.{lines_text}
use Rattle.crsm_spec.specs.World.{finals}
use Rattle.crsm_world.specs.Schedule.{finals_text, last_world}
use Rattle.crsm_cmd_soak.specs.Counting.{executed_in, greatest, known_in}
use Rattle.crsm_cmd_soak.specs.Soak.{drawn, summary_of}
use Rattle.crsm_cmd_soak.specs.Text.{soak_text, summary_text}
use Rattle.crsm_cmd_soak.proofs.writing.run_to_text.Goals as goal

pub returns-clause-text : goal.returns-clause-text
unfolding soak_text summary_of drawn last_world finals_text
returns-clause-text c =
    let s = drawn c.args.number c.args.n c.args.steps in
    let run = c.in_ok-run.ensures in
    let told = c.in_ok-finals.ensures.lines (last_world s) run.done.stands in
    let first : c.as_slice.result.now ≡ finals (last_world s) = c.as_slice.ensures ∙ told in
    let again : c.as_slice-2.result.now ≡ finals (last_world s) = c.as_slice-2.ensures ∙ told in
    let summary : c.end.new.self ≡ summary_of s = c.end.ensures ∙ (λ i. record (run.told i) { executed = greatest executed_in (first i); epoch = greatest known_in (first i) }) in
    c.in_ok-push_finals.ensures ∙ (λ i. (c.in_ok-text.ensures ∙ ap summary_text summary) i ++ lines_text 0 (again i))
