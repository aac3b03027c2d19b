use Rattle.std.proofs.Common.{◌≢◌, ◌++◌, List, ℕ, ap, sym, ◌∙◌, subst}
use Rattle.crsm_replica_rerun.specs.Stages.{IsRefusal}
use Rattle.crsm_replica_rerun.specs.declared.error.RerunError.{RerunError}
use Rattle.crsm_cmd_replay_node.proofs.handling.SheetReplay.advance.Goals as goal

pub returns-in-Err-Misplaced-clause-err : goal.returns-in-Err-Misplaced-clause-err
returns-in-Err-Misplaced-clause-err c = λ me n first lines steps s.
    let some : RerunError.Misplaced ≢ RerunError.NoMemory = λ e. (cc) in (
      subst (λ (e : RerunError). IsRefusal me n lines c.args.line.now e) c.in-Err-Misplaced.field-0-is (c.in-Err-Misplaced.ensures.refused me n first lines steps s),
      c.in-Err-Misplaced.ensures.kept (λ e. some (sym c.in-Err-Misplaced.field-0-is ∙ e)),
    )

pub returns-in-Err-BadLog-clause-err : goal.returns-in-Err-BadLog-clause-err
returns-in-Err-BadLog-clause-err c = λ me n first lines steps s.
    let some : RerunError.BadLog c.in-Err-BadLog.entry c.in-Err-BadLog.why ≢ RerunError.NoMemory = λ e. (cc) in (
      subst (λ (e : RerunError). IsRefusal me n lines c.args.line.now e) c.in-Err-BadLog.field-0-is (c.in-Err-BadLog.ensures.refused me n first lines steps s),
      c.in-Err-BadLog.ensures.kept (λ e. some (sym c.in-Err-BadLog.field-0-is ∙ e)),
    )

pub returns-in-Err-NoMemory-clause-err : goal.returns-in-Err-NoMemory-clause-err
returns-in-Err-NoMemory-clause-err c = λ me n first lines steps s. (c.args.text.now, ap (λ (t : List ℕ). t ++ c.args.text.now) (sym c.clear.ensures))
