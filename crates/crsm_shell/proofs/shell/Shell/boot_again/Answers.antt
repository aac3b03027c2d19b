use Rattle.std.proofs.Math.Logic.{∥∥₁_map}
use Rattle.crsm_log.specs.Words as logs
use Rattle.crsm_shell.specs.Again.{disk_in}
use Rattle.crsm_shell.specs.Words.{disk_of}
use Rattle.crsm_shell.proofs.BootLemmas.{boots_kept, failed_meets, kept_used}
use Rattle.crsm_shell.proofs.shell.Shell.boot_again.Goals as goal

pub keep_boot-requires-clause-stands : goal.keep_boot-requires-clause-stands
keep_boot-requires-clause-stands g c =
    ∥∥₁_map c.args.left.stands (λ one. record { replica = _; stands = (c.in-Ok.ensures.begins one.me one.n one.log one.is).core })

pub returns-in-Ok-keep_boot-clause-boots : goal.returns-in-Ok-keep_boot-clause-boots
returns-in-Ok-keep_boot-clause-boots g c me n log is =
    let old = g.D.Disk.meaning (disk_in c.args.left) in
    let gate = logs.gate_of c.args.left.log in
    let begun = c.in-Ok.begun in
    let begins = c.in-Ok.ensures.begins me n log is.ledger in
    let b = c.in-Ok-keep_boot.booted in
    let new = g.D.Disk.meaning (disk_of b.shell) in
    let h = c.in-Ok-keep_boot.ensures.kept in
    let boots = boots_kept me n log begun begins b old new gate _ is.file h.0 h.1 in
    record { stands = boots.stands; lines = boots.lines; size = boots.size; plan = kept_used me n log begun begins b old new gate _ is.file h.0 h.1 }

pub returns-in-Err-keep_boot-clause-meets : goal.returns-in-Err-keep_boot-clause-meets
returns-in-Err-keep_boot-clause-meets g c honest =
    failed_meets (logs.gate_of c.args.left.log) c.in-Ok.begun.body _ _ c.in-Err-keep_boot.refused.0 c.in-Err-keep_boot.ensures.not_kept honest
