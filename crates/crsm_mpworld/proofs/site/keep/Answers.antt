use Rattle.std.proofs.Common.{ap, sym, refl, Err, ◌∙◌}
use Rattle.std.proofs.lemmas.Option.{none-some}
use Rattle.crsm_log.specs.Words.{disk_of, has_failed}
use Rattle.crsm_mpworld.proofs.Disks.{both, plan_of, well_after}
use Rattle.crsm_mpworld.proofs.site.keep.Goals as goal

pub returns-in-Ok-clause-well : goal.returns-in-Ok-clause-well
returns-in-Ok-clause-well c =
    let p = plan_of (disk_of c.args.log.now) in
    well_after 4 p (disk_of c.put.new.self) c.requires.well (c.in-Ok.ensures.four p refl refl)

pub returns-in-Ok-clause-kept : goal.returns-in-Ok-clause-kept
returns-in-Ok-clause-kept c = c.in-Ok.ensures.acknowledged refl

-- ---- what it does not answer

pub unreachable-requires : goal.unreachable-requires
unreachable-requires c =
    let stops = c.in-Err-DiskFault.ensures.stops (ap Err c.in-Err-DiskFault.field-0-is) in
    none-some stops.made (sym c.requires.well ∙ stops.good (plan_of (disk_of c.args.log.now)) refl refl)

pub unreachable-requires-in-Err-Failed : goal.unreachable-requires-in-Err-Failed
unreachable-requires-in-Err-Failed c =
    both (has_failed c.args.log.now) (c.in-Err-Failed.ensures.failed.0 (ap Err c.in-Err-Failed.field-0-is)) c.requires.unfailed
