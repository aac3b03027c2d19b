use Rattle.std.proofs.Common.{◌≡◌, ℕ, [], ◌∷◌, Option, Some, Err, cond, refl, sym, ◌∙◌, ap, subst}
use Rattle.std.proofs.lemmas.Grind.{not_there}
use Rattle.std.specs.Prelude.{unwrap_or}
use Rattle.crsm_port_image.specs.Image.{image_of}
use Rattle.crsm_disk.specs.Memory.{Memory, good_left}
use Rattle.crsm_spec.specs.Log.{Log}
use Rattle.crsm_spec.specs.Moments.{is_kept}
use Rattle.crsm_shell.specs.Shell.{HasLog}
use Rattle.crsm_shell.specs.Words.{disk_of}
use Rattle.crsm_sim_machine.specs.Outcomes.{log_after}
use Rattle.crsm_sim_machine.proofs.Disks.{plan_of, renamed_disk, armed_good, armed_fill}
use Rattle.crsm_sim_machine.proofs.Stops.{whole_put, stopped_put}
use Rattle.crsm_sim_machine.proofs.Ups.{not_failed}
use Rattle.crsm_sim_machine.proofs.cut.stopped_disk.Goals as goal

pub returns-in_ok-image_of_disk-in-Ok-clause-stands : goal.returns-in_ok-image_of_disk-in-Ok-clause-stands
returns-in_ok-image_of_disk-in-Ok-clause-stands c me n kept x up log =
    let r = x.replica in
    let stop = c.args.stop in
    let armed = disk_of c.arm.new.self in
    let p = plan_of armed in
    let good : good_left armed ≡ Some stop.calls = armed_good stop.calls (disk_of c.args.shell) armed _ up.well c.arm.ensures.armed in
    let stands = c.arm.ensures.stands kept r (x ∷ []) up.stands in
    let flushed = c.in-Ok.ensures.stands kept r (x ∷ []) stands in
    let used = c.in-Ok.ensures.plan kept r (x ∷ []) stands refl p refl in
    let d = c.into_disk.result in
    let image = c.into_disk.ensures.image r.log r [] (record { first = d.first; calls = d.calls }) d.fill flushed refl refl in
    let whole = whole_put stop.calls stop.fill kept x p _ good c.requires.calls used log in
    renamed_disk _ _ r.me me r.n n up.is_me up.began
    (c.in_ok-image_of_disk-in-Ok.ensures r.me r.n (log_after stop.calls stop.fill kept x) (subst (HasLog r.me r.n (image_of d.first d.calls d.fill)) whole image))

pub returns-in_ok-image_of_disk-in-Err-DiskFault-clause-stands : goal.returns-in_ok-image_of_disk-in-Err-DiskFault-clause-stands
returns-in_ok-image_of_disk-in-Err-DiskFault-clause-stands c me n kept x up log =
    let r = x.replica in
    let stop = c.args.stop in
    let armed = disk_of c.arm.new.self in
    let p = plan_of armed in
    let good : good_left armed ≡ Some stop.calls = armed_good stop.calls (disk_of c.args.shell) armed _ up.well c.arm.ensures.armed in
    let stands = c.arm.ensures.stands kept r (x ∷ []) up.stands in
    let stopped = c.in-Err-DiskFault.ensures.stopped kept r (x ∷ []) stands (ap Err c.in-Err-DiskFault.field-0-is) in
    let d = c.into_disk-in-Err-DiskFault.result in
    let after = disk_of c.flush.new.self in
    let made : stop.calls ≡ stopped.made = ap (λ (o : Option ℕ). unwrap_or o 0) (sym good ∙ stopped.good p refl refl) in
    let fill : after.fill ≡ stop.fill = ap (λ (o : Option ℕ). unwrap_or o 0) c.in-Err-DiskFault.ensures.goes.fill
    ∙ armed_fill _ stop.fill (disk_of c.args.shell) armed c.arm.ensures.armed in
    let image = stopped.image (record { first = after.first; calls = after.calls }) after.fill refl refl in
    let log_is = ap (λ (f : ℕ). cond (is_kept stopped.made f) r.log kept) fill ∙ stopped_put stop.calls stop.fill kept x stopped.made made stopped.some in
    let P : Memory → Log → Type 0 = λ m l. HasLog r.me r.n (image_of m.first m.calls m.fill) l in
    let on_disk : P d (log_after stop.calls stop.fill kept x) =
    subst (λ m. P m (log_after stop.calls stop.fill kept x)) (sym c.into_disk-in-Err-DiskFault.ensures.disk) (subst (λ l. P after l) log_is image) in
    renamed_disk _ _ r.me me r.n n up.is_me up.began (c.in_ok-image_of_disk-in-Err-DiskFault.ensures r.me r.n (log_after stop.calls stop.fill kept x) on_disk)

-- ---- some log is on the disk, whatever pended

pub returns-in_ok-image_of_disk-in-Ok-clause-log : goal.returns-in_ok-image_of_disk-in-Ok-clause-log
returns-in_ok-image_of_disk-in-Ok-clause-log c me n h =
    let r = h.replica in
    let flushed = c.in-Ok.ensures.stands h.kept r h.steps (c.arm.ensures.stands h.kept r h.steps h.is.stands) in
    let d = c.into_disk.result in
    let image = c.into_disk.ensures.image r.log r [] (record { first = d.first; calls = d.calls }) d.fill flushed refl refl in
    record { log = r.log; on_disk = renamed_disk _ r.log r.me me r.n n h.is.is_me h.is.began (c.in_ok-image_of_disk-in-Ok.ensures r.me r.n r.log image) }

pub returns-in_ok-image_of_disk-in-Err-DiskFault-clause-log : goal.returns-in_ok-image_of_disk-in-Err-DiskFault-clause-log
returns-in_ok-image_of_disk-in-Err-DiskFault-clause-log c me n h =
    let r = h.replica in
    let stands = c.arm.ensures.stands h.kept r h.steps h.is.stands in
    let stopped = c.in-Err-DiskFault.ensures.stopped h.kept r h.steps stands (ap Err c.in-Err-DiskFault.field-0-is) in
    let d = c.into_disk-in-Err-DiskFault.result in
    let after = disk_of c.flush.new.self in
    let log = cond (is_kept stopped.made after.fill) r.log h.kept in
    let image = stopped.image (record { first = after.first; calls = after.calls }) after.fill refl refl in
    let on_disk = subst (λ (m : Memory). HasLog r.me r.n (image_of m.first m.calls m.fill) log) (sym c.into_disk-in-Err-DiskFault.ensures.disk) image in
    record { log = log; on_disk = renamed_disk _ log r.me me r.n n h.is.is_me h.is.began (c.in_ok-image_of_disk-in-Err-DiskFault.ensures r.me r.n log on_disk) }

-- ---- what it does not answer

pub unreachable-requires : goal.unreachable-requires
unreachable-requires c =
    not_there c.requires.up (λ up.
    let h = up.2 in
    not_failed c.arm.new.self h.kept h.replica h.steps (c.arm.ensures.stands h.kept h.replica h.steps h.is.stands) (c.in-Err-Failed.ensures.failed.0 (ap Err c.in-Err-Failed.field-0-is)))

pub unreachable-requires-in-Err-PortFault : goal.unreachable-requires-in-Err-PortFault
unreachable-requires-in-Err-PortFault c = c.in-Err-PortFault.ensures.no_port_fault (ap Err c.in-Err-PortFault.field-0-is)
