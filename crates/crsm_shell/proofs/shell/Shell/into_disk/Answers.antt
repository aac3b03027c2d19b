use Rattle.std.proofs.Common.{[], ◌∙◌, sym, ap, arith}
use Rattle.crsm_port_image.specs.Image.{image_of}
use Rattle.crsm_spec.specs.Moments.{is_kept}
use Rattle.crsm_shell.specs.Shell.{records_of}
use Rattle.crsm_shell.specs.Words.{disk_of, gate_of}
use Rattle.crsm_shell.proofs.Files.{kept_before, stopped_image}
use Rattle.crsm_shell.proofs.Groups.{group, inside}
use Rattle.crsm_shell.proofs.shell.Shell.into_disk.Goals as goal

pub returns-clause-image : goal.returns-clause-image
unfolding is_kept
returns-clause-image g c kept r steps h fill s honest told =
    let old = c.args.self in
    let m = g.D.Disk.meaning (disk_of old) in
    let stands = inside old m kept r steps s in
    let settled = old.log.sound honest (old.well stands.well) in
    let now = ap (λ d. (g.D.Disk.meaning d).history) (sym c.into_disk.ensures) ∙ told in
    kept_before r.me r.n m.seen kept (records_of steps) r.log (stands.file honest) (group old m kept r steps s) (image_of h.first h.calls fill)
    (stopped_image c.stop_keeps.ensures m (gate_of old) [] 0 settled (omega arith) (omega arith) h fill now)
