use Rattle.std.proofs.Common.{ap, length, refl, sym, ◌∙◌}
use Rattle.std.proofs.lemmas.Grind.{not_there}
use Rattle.std.proofs.lemmas.Option.{none-some}
use Rattle.crsm_shell.specs.Words.{disk_of}
use Rattle.crsm_sim_machine.proofs.Boots.{boot_of}
use Rattle.crsm_sim_machine.proofs.Disks.{plan_of, well_after}
use Rattle.crsm_sim_machine.proofs.Sendings.{no_sends}
use Rattle.crsm_sim_machine.proofs.start.boot_on_disk.Goals as goal

pub returns-in-Ok : goal.returns-in-Ok
returns-in-Ok c log left =
    let disk = c.args.disk in
    let both = c.in-Ok.ensures.stands log refl left.holds in
    let own = boot_of c.args.me c.args.n log in
    let p = plan_of disk in (
      both.0.lines,
      both.0.size,
      record {
        is_me = own.number;
        began = own.began;
        stands = both.0.stands;
        peers = ap length c.in-Ok.ensures.peers;
        fits = no_sends;
        well = well_after _ p (disk_of c.in-Ok.booted.shell) left.well (both.1.plan p refl);
      },
    )

-- ---- what it does not answer

pub unreachable-requires : goal.unreachable-requires
unreachable-requires c =
    let e = c.in-Err-BadLog-default in
    not_there c.requires.left (λ h.
    c.logs_are_not_bad.ensures c.args.me c.args.n _ h.log e.field-0-0-0 e.field-0-0-1 h.on_disk.holds (e.ensures.refused.bad_log refl e.field-0-0-0 e.field-0-0-1 e.field-0-0-is))

pub unreachable-requires-in-Err-DiskFault-default : goal.unreachable-requires-in-Err-DiskFault-default
unreachable-requires-in-Err-DiskFault-default c =
    let e = c.in-Err-DiskFault-default in
    not_there c.requires.left (λ h.
    let meets = e.ensures.refused.meets refl e.field-0-0-is (plan_of c.args.disk) refl in
    none-some meets.0 (sym h.on_disk.well ∙ meets.2))
