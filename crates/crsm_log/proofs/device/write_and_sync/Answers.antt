use Rattle.std.proofs.Common.{◌∙◌}
use Rattle.std.proofs.lemmas.Result.{err_from_is_err_and}
use Rattle.crsm_port_image.specs.Calls.{synced, wrote}
use Rattle.crsm_log.proofs.Runs.{both, second_fails, spends_both, torn_only, torn_first}
use Rattle.crsm_log.proofs.device.write_and_sync.Goals as goal

pub returns-in_err-write_at-clause-any_moment : goal.returns-in_err-write_at-clause-any_moment
returns-in_err-write_at-clause-any_moment g c honest only = torn_first _ _ _ _ only (c.write_at.ensures.crash honest)

pub returns-in_err-sync-clause-ran : goal.returns-in_err-sync-clause-ran
returns-in_err-sync-clause-ran g c =
    let p = err_from_is_err_and c.from_residual-in_err-sync.result c.from_residual-in_err-sync.ensures.1 in rw p.1 (second_fails _ _ _ _ _ _ _ c.in_ok-write_at.ensures.answer c.in_ok-write_at.ensures.told _ c.in_err-sync.ensures.answer c.in_err-sync.ensures.told)

pub returns-in_err-sync-clause-any_moment : goal.returns-in_err-sync-clause-any_moment
returns-in_err-sync-clause-any_moment g c honest only =
    torn_only _ _ _ _ _ only (c.write_at.ensures.crash honest) (c.sync.ensures.crash (c.write_at.ensures.answer.honest ∙ honest))

pub returns-clause-ran : goal.returns-clause-ran
returns-clause-ran g c = both _ _ _ _ _ _ _ c.in_ok-write_at.ensures.answer c.in_ok-write_at.ensures.told _ c.in_ok-sync.ensures.answer c.in_ok-sync.ensures.told

pub returns-clause-plan : goal.returns-clause-plan
returns-clause-plan g c = spends_both (wrote c.args.at c.args.bytes.now) synced _ _ _ _ _ c.in_ok-write_at.ensures.answer c.in_ok-write_at.ensures.told _ c.in_ok-sync.ensures.answer

pub returns-clause-any_moment : goal.returns-clause-any_moment
returns-clause-any_moment g c honest only =
    torn_only _ _ _ _ _ only (c.write_at.ensures.crash honest) (c.sync.ensures.crash (c.write_at.ensures.answer.honest ∙ honest))
