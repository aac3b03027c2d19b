use Rattle.std.proofs.Common.{ap, length, refl, sym, ◌∙◌}
use Rattle.std.proofs.lemmas.Grind.{not_there}
use Rattle.std.proofs.lemmas.Option.{none-some}
use Rattle.crsm_shell.specs.Again.{disk_in}
use Rattle.crsm_shell.specs.Words.{disk_of}
use Rattle.crsm_sim_machine.proofs.Boots.{boot_of}
use Rattle.crsm_sim_machine.proofs.Disks.{plan_of, well_after}
use Rattle.crsm_sim_machine.proofs.Sendings.{no_sends}
use Rattle.crsm_sim_machine.proofs.start.boot_on_log.Goals as goal

pub returns-in-Ok : goal.returns-in-Ok
returns-in-Ok c me n log is =
    let p = plan_of (disk_in c.args.left) in
    let booted = c.in-Ok.ensures.boots me n log is.stands in
    let own = boot_of me n log in (
      booted.lines,
      booted.size,
      record {
        is_me = own.number;
        began = own.began;
        stands = booted.stands;
        peers = ap length c.in-Ok.ensures.peers;
        fits = no_sends;
        well = well_after _ p (disk_of c.in-Ok.booted.shell) is.well (booted.plan refl p refl);
      },
    )

-- ---- what it does not answer

pub unreachable-requires : goal.unreachable-requires
unreachable-requires c =
    let e = c.in-Err-BadLog-default in e.ensures.not_bad e.field-0-0-0 e.field-0-0-1 e.field-0-0-is

pub unreachable-requires-in-Err-DiskFault-default : goal.unreachable-requires-in-Err-DiskFault-default
unreachable-requires-in-Err-DiskFault-default c =
    let e = c.in-Err-DiskFault-default in
    not_there c.requires (λ some.
    let meets = e.ensures.meets refl e.field-0-0-is (plan_of (disk_in c.args.left)) refl in
    none-some meets.0 (sym some.is.well ∙ meets.2))
