use Rattle.std.proofs.Common.{◌-◌, ◌++◌, List, length, map, take, ap, ◌∙◌}
use Rattle.std.specs.Prelude.{count_by}
use Rattle.crsm_base.specs.declared.Line.{Line}
use Rattle.crsm_base.specs.declared.send.Send.{Send}
use Rattle.crsm_schedule.specs.Transcript.{lines_text}
use Rattle.crsm_replica_rerun.specs.Batches.{goes_to_client, send_line}
use Rattle.crsm_replica_rerun.proofs.StepTexts.{added_steps}
use Rattle.crsm_replica_rerun.proofs.text.push_step.Goals as goal

pub returns : goal.returns
returns c = λ steps answers.
    let at = c.args.at in
    let out = c.args.out.now in
    let batch = c.args.batch.now in
    let sends = c.as_slice-2.result.now in
    c.in_ok-push_all.ensures
    ∙ ap (λ (ls : List Line). (out ++ lines_text at (take (length ls - count_by goes_to_client sends) ls)) ++ lines_text at (map send_line sends)) c.as_slice.ensures
    ∙ ap (λ (ss : List Send). (out ++ lines_text at (take (length batch.lines - count_by goes_to_client ss) batch.lines)) ++ lines_text at (map send_line ss)) c.as_slice-2.ensures
    ∙ added_steps batch steps at out answers
