use Rattle.std.proofs.Common.{subst, sym}
use Rattle.std.proofs.Math.Logic.{∥∥₁_map}
use Rattle.std.proofs.lemmas.Result.{IfOk-weaker}
use Rattle.crsm_sim_machine.specs.States.{HasLeft, HasSomeLeft}
use Rattle.crsm_sim_machine.proofs.start.boot_on.Goals as goal

pub boot_on_disk-requires-clause-left : goal.boot_on_disk-requires-clause-left
boot_on_disk-requires-clause-left c =
    ∥∥₁_map (subst (λ l. ∥ HasSomeLeft c.args.me c.args.n l ∥₁) c.in-Disk.is c.requires.left) (λ some. record { log = some.log; on_disk = some.has })

pub boot_on_log-requires : goal.boot_on_log-requires
boot_on_log-requires c =
    ∥∥₁_map (subst (λ l. ∥ HasSomeLeft c.args.me c.args.n l ∥₁) c.in-Log.is c.requires.left) (λ some. record { me = c.args.me; n = c.args.n; log = some.log; is = some.has })

pub returns-in-Disk : goal.returns-in-Disk
returns-in-Disk c =
    IfOk-weaker c.boot_on_disk.result _ _ (λ running boots log has. boots log (subst (λ l. HasLeft c.args.me c.args.n l log) c.in-Disk.is has)) c.boot_on_disk.ensures

pub returns-in-Log : goal.returns-in-Log
returns-in-Log c =
    IfOk-weaker c.boot_on_log.result _ _ (λ running boots log has. boots c.args.me c.args.n log (subst (λ l. HasLeft c.args.me c.args.n l log) c.in-Log.is has)) c.boot_on_log.ensures
