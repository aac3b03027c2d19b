use Rattle.std.proofs.Common.{subst}
use Rattle.std.proofs.lemmas.Result.{err_from_is_err_and}
use Rattle.crsm_text_sheet.specs.declared.line.SheetLine.TheVariants.{Open}
use Rattle.crsm_replica_rerun.specs.declared.stage.SheetStage.{SheetStage}
use Rattle.crsm_replica_rerun.specs.Stages.{StageStands}
use Rattle.crsm_replica_rerun.proofs.Prefixes.{open_is_no_turn}
use Rattle.crsm_replica_rerun.proofs.Stages.{opens, refused_late, refused_log}
use Rattle.crsm_replica_rerun.proofs.stage.SheetStage.open.Goals as goal

pub returns-in_default-clause-takes : goal.returns-in_default-clause-takes
returns-in_default-clause-takes c = λ lines steps s.
    refused_late c.args.me c.args.n c.args.self.now lines steps Open open_is_no_turn s c.in_default.not-Finding

pub returns-in_err-booted-clause-takes : goal.returns-in_err-booted-clause-takes
returns-in_err-booted-clause-takes c = λ lines steps s.
    let k = refused_log c.args.me c.args.n _ lines steps _ (subst (λ (x : SheetStage). StageStands c.args.me c.args.n x lines steps) c.in-Finding.is s) c.in_err-booted.ensures.bad_log in
    let r = err_from_is_err_and c.from_residual.result c.from_residual.ensures.1 in rw (r.1, r.2) k

pub returns-clause-takes : goal.returns-clause-takes
returns-clause-takes c = λ lines steps s.
    let b = c.in_ok-booted.ensures.booted in
    opens c.args.me c.args.n _ c.in_ok-booted.booted.core lines steps c.in_ok-booted.booted.batch b.0
    (subst (λ (x : SheetStage). StageStands c.args.me c.args.n x lines steps) c.in-Finding.is s) b.1 b.2
