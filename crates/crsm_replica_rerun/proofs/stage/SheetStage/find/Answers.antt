use Rattle.crsm_text_sheet.specs.declared.line.SheetLine.TheVariants.{Entry}
use Rattle.crsm_replica_rerun.proofs.Prefixes.{entry_is_no_turn}
use Rattle.crsm_replica_rerun.proofs.Stages.{refused_late}
use Rattle.crsm_replica_rerun.proofs.stage.SheetStage.find.Goals as goal

pub returns-in_default-clause-takes : goal.returns-in_default-clause-takes
returns-in_default-clause-takes c = λ me n lines steps s.
    refused_late me n c.args.self.now lines steps (Entry c.args.body.now) (entry_is_no_turn c.args.body.now) s c.in_default.not-Finding
