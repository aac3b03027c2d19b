use Rattle.std.proofs.Common.{IsTrue, ℕ, List, [], sym, ◌∙◌, ap, subst}
use Rattle.std.proofs.lemmas.Result.{IfErr-weaker, IfOk-weaker}
use Rattle.crsm_ledger.specs.Recovered.{AreKept}
use Rattle.crsm_log.specs.Format.{found}
use Rattle.crsm_log.specs.Words as logs
use Rattle.crsm_spec.specs.Log.{Log}
use Rattle.crsm_disk.specs.Meaning.{LeavesOnly}
use Rattle.crsm_shell.specs.Booting.{Boots, BootsOn, IsBootedOrBefore, RefusesBoot}
use Rattle.crsm_shell.specs.Words.{disk_of}
use Rattle.crsm_shell.proofs.BootLemmas.{any_moment, boot_added, boots_on, boots_shell, left_by_boot, left_by_refused, not_begun, not_mounted, one_log, refuses, same_log}
use Rattle.crsm_shell.proofs.Boots.{goes_behind}
use Rattle.crsm_shell.proofs.shell.Shell.boot.Goals as goal

pub returns-in-Ok-begin-clause-found : goal.returns-in-Ok-begin-clause-found
returns-in-Ok-begin-clause-found g c =
    let w = c.in-Ok-begin.ensures.found in
    IfOk-weaker c.keep_boot.result _ _ (λ b h. (w.0, subst (λ (bs : List (List ℕ)). AreKept c.args.me c.args.n [] bs w.0) (sym h.0.found) w.1)) c.keep_boot.ensures.kept

pub returns-in-Ok-begin-clause-boots : goal.returns-in-Ok-begin-clause-boots
returns-in-Ok-begin-clause-boots g c =
    let one = c.one_spelling_each.ensures.body_has_one in
    let old = g.D.Disk.meaning c.args.disk in
    let log = c.in-Ok.mounted.0 in
    let bodies = c.in-Ok.mounted.1 in
    let mid = g.D.Disk.meaning (logs.disk_of log) in
    let gate = logs.gate_of log in
    let begun = c.in-Ok-begin.begun in
    let w = c.in-Ok-begin.ensures.found in
    IfOk-weaker c.keep_boot.result _ _ (λ b h other kept.
    let same = one_log one c.args.me c.args.n old mid gate bodies w.0 begun c.in-Ok.ensures.ok w.1 w.2 other (subst (λ (bs : List (List ℕ)). AreKept c.args.me c.args.n [] bs other) h.0.found kept) in
    subst (λ (l : Log). Boots b (g.D.Disk.meaning (disk_of b.shell)) c.args.me c.args.n l) same
    (boots_shell one c.args.me c.args.n old mid gate bodies w.0 begun c.in-Ok.ensures.ok w.1 w.2 b (g.D.Disk.meaning (disk_of b.shell)) h.0 h.1)) c.keep_boot.ensures.kept

pub returns-in-Ok-begin-clause-bodies : goal.returns-in-Ok-begin-clause-bodies
returns-in-Ok-begin-clause-bodies g c honest =
    IfOk-weaker c.keep_boot.result _ _ (λ b h. c.in-Ok.ensures.ok.read honest ∙ ap found (sym h.0.found)) c.keep_boot.ensures.kept

pub returns-in-Ok-begin-clause-stands : goal.returns-in-Ok-begin-clause-stands
returns-in-Ok-begin-clause-stands g c other honest has =
    let one = c.one_spelling_each.ensures.body_has_one in
    let old = g.D.Disk.meaning c.args.disk in
    let log = c.in-Ok.mounted.0 in
    let bodies = c.in-Ok.mounted.1 in
    let mid = g.D.Disk.meaning (logs.disk_of log) in
    let gate = logs.gate_of log in
    let begun = c.in-Ok-begin.begun in
    let w = c.in-Ok-begin.ensures.found in
    let same = same_log one c.args.me c.args.n old mid gate bodies w.0 begun c.in-Ok.ensures.ok w.1 w.2 honest other has in
    IfOk-weaker c.keep_boot.result _ _ (λ b h.
    let new = g.D.Disk.meaning (disk_of b.shell) in
    subst (λ (l : Log). Boots b (g.D.Disk.meaning (disk_of b.shell)) c.args.me c.args.n l × BootsOn c.args.me c.args.n l (g.D.Disk.meaning c.args.disk) (g.D.Disk.meaning (disk_of b.shell))) same (
      boots_shell one c.args.me c.args.n old mid gate bodies w.0 begun c.in-Ok.ensures.ok w.1 w.2 b new h.0 h.1,
      boots_on one c.args.me c.args.n old mid gate bodies w.0 begun c.in-Ok.ensures.ok w.1 w.2 b new h.0 h.1 honest,
    )) c.keep_boot.ensures.kept

pub returns-in-Ok-begin-clause-peers : goal.returns-in-Ok-begin-clause-peers
returns-in-Ok-begin-clause-peers g c =
    IfOk-weaker c.keep_boot.result _ _ (λ b h. h.0.peers ∙ c.in-Ok-begin.ensures.peers) c.keep_boot.ensures.kept

pub returns-in-Ok-begin-clause-goes : goal.returns-in-Ok-begin-clause-goes
returns-in-Ok-begin-clause-goes g c =
    let old = g.D.Disk.meaning c.args.disk in
    let mid = g.D.Disk.meaning (logs.disk_of c.in-Ok.mounted.0) in
    IfOk-weaker c.keep_boot.result _ _ (λ b h. goes_behind old mid (g.D.Disk.meaning (disk_of b.shell)) c.in-Ok.ensures.ok.goes h.1.goes) c.keep_boot.ensures.kept

pub returns-in-Ok-begin-clause-refused : goal.returns-in-Ok-begin-clause-refused
returns-in-Ok-begin-clause-refused g c =
    let one = c.one_spelling_each.ensures.body_has_one in
    let old = g.D.Disk.meaning c.args.disk in
    let log = c.in-Ok.mounted.0 in
    let bodies = c.in-Ok.mounted.1 in
    let mid = g.D.Disk.meaning (logs.disk_of log) in
    let gate = logs.gate_of log in
    let begun = c.in-Ok-begin.begun in
    let w = c.in-Ok-begin.ensures.found in
    IfErr-weaker c.keep_boot.result _ _ (λ e h. refuses one c.args.me c.args.n old mid gate bodies w.0 begun c.in-Ok.ensures.ok w.1 w.2 (g.D.Disk.meaning e.1) e.0 h) c.keep_boot.ensures.not_kept

pub returns-in-Ok-begin-clause-any_moment : goal.returns-in-Ok-begin-clause-any_moment
returns-in-Ok-begin-clause-any_moment g c other honest has =
    let one = c.one_spelling_each.ensures.body_has_one in
    let old = g.D.Disk.meaning c.args.disk in
    let log = c.in-Ok.mounted.0 in
    let bodies = c.in-Ok.mounted.1 in
    let mid = g.D.Disk.meaning (logs.disk_of log) in
    let gate = logs.gate_of log in
    let begun = c.in-Ok-begin.begun in
    let w = c.in-Ok-begin.ensures.found in
    let at_mid : IsTrue mid.honest = c.in-Ok.ensures.ok.goes.honest ∙ honest in
    let same = same_log one c.args.me c.args.n old mid gate bodies w.0 begun c.in-Ok.ensures.ok w.1 w.2 honest other has in
    IfOk-weaker c.keep_boot.result _ _ (λ b h.
    subst (λ (l : Log). LeavesOnly (g.D.Disk.meaning c.args.disk) (g.D.Disk.meaning (disk_of b.shell)) (IsBootedOrBefore c.args.me c.args.n l (g.D.Disk.meaning c.args.disk))) same
    (any_moment one c.args.me c.args.n old mid gate bodies w.0 begun c.in-Ok.ensures.ok w.1 w.2 (g.D.Disk.meaning (disk_of b.shell)) honest (h.1.any_moment at_mid))) c.keep_boot.ensures.kept

pub returns-in-Ok-begin-clause-any_moment_refused : goal.returns-in-Ok-begin-clause-any_moment_refused
returns-in-Ok-begin-clause-any_moment_refused g c other honest has =
    let one = c.one_spelling_each.ensures.body_has_one in
    let old = g.D.Disk.meaning c.args.disk in
    let log = c.in-Ok.mounted.0 in
    let bodies = c.in-Ok.mounted.1 in
    let mid = g.D.Disk.meaning (logs.disk_of log) in
    let gate = logs.gate_of log in
    let begun = c.in-Ok-begin.begun in
    let w = c.in-Ok-begin.ensures.found in
    let at_mid : IsTrue mid.honest = c.in-Ok.ensures.ok.goes.honest ∙ honest in
    let same = same_log one c.args.me c.args.n old mid gate bodies w.0 begun c.in-Ok.ensures.ok w.1 w.2 honest other has in
    IfErr-weaker c.keep_boot.result _ _ (λ e h.
    subst (λ (l : Log). LeavesOnly (g.D.Disk.meaning c.args.disk) (g.D.Disk.meaning e.1) (IsBootedOrBefore c.args.me c.args.n l (g.D.Disk.meaning c.args.disk))) same
    (any_moment one c.args.me c.args.n old mid gate bodies w.0 begun c.in-Ok.ensures.ok w.1 w.2 (g.D.Disk.meaning e.1) honest (h.not_kept.any_moment at_mid))) c.keep_boot.ensures.not_kept

pub returns-in-Ok-begin-clause-added : goal.returns-in-Ok-begin-clause-added
returns-in-Ok-begin-clause-added g c honest =
    let one = c.one_spelling_each.ensures.body_has_one in
    let old = g.D.Disk.meaning c.args.disk in
    let log = c.in-Ok.mounted.0 in
    let bodies = c.in-Ok.mounted.1 in
    let mid = g.D.Disk.meaning (logs.disk_of log) in
    let gate = logs.gate_of log in
    let begun = c.in-Ok-begin.begun in
    let w = c.in-Ok-begin.ensures.found in
    IfOk-weaker c.keep_boot.result _ _ (λ b h.
    boot_added one c.args.me c.args.n old mid gate bodies w.0 begun c.in-Ok.ensures.ok w.1 w.2 b (g.D.Disk.meaning (disk_of b.shell)) h.0 h.1 honest) c.keep_boot.ensures.kept

pub returns-in-Ok-begin-clause-left : goal.returns-in-Ok-begin-clause-left
returns-in-Ok-begin-clause-left g c honest =
    let one = c.one_spelling_each.ensures.body_has_one in
    let old = g.D.Disk.meaning c.args.disk in
    let log = c.in-Ok.mounted.0 in
    let bodies = c.in-Ok.mounted.1 in
    let mid = g.D.Disk.meaning (logs.disk_of log) in
    let gate = logs.gate_of log in
    let begun = c.in-Ok-begin.begun in
    let w = c.in-Ok-begin.ensures.found in
    let at_mid : IsTrue mid.honest = c.in-Ok.ensures.ok.goes.honest ∙ honest in
    IfOk-weaker c.keep_boot.result _ _ (λ b h.
    left_by_boot one c.args.me c.args.n old mid gate bodies w.0 begun c.in-Ok.ensures.ok w.1 w.2 (g.D.Disk.meaning (disk_of b.shell)) honest h.1.fits (h.1.any_moment at_mid)) c.keep_boot.ensures.kept

pub returns-in-Ok-begin-clause-left_refused : goal.returns-in-Ok-begin-clause-left_refused
returns-in-Ok-begin-clause-left_refused g c honest =
    let one = c.one_spelling_each.ensures.body_has_one in
    let old = g.D.Disk.meaning c.args.disk in
    let log = c.in-Ok.mounted.0 in
    let bodies = c.in-Ok.mounted.1 in
    let mid = g.D.Disk.meaning (logs.disk_of log) in
    let gate = logs.gate_of log in
    let begun = c.in-Ok-begin.begun in
    let w = c.in-Ok-begin.ensures.found in
    IfErr-weaker c.keep_boot.result _ _ (λ e h.
    left_by_refused one c.args.me c.args.n old mid gate bodies w.0 begun c.in-Ok.ensures.ok w.1 w.2 (g.D.Disk.meaning e.1) e.0 honest h) c.keep_boot.ensures.not_kept

-- ---- it is not mounted, or not begun

pub returns-in-Err-clause-refused : goal.returns-in-Err-clause-refused
returns-in-Err-clause-refused g c =
    subst (RefusesBoot c.args.me c.args.n _ _) (sym c.from.ensures) (not_mounted c.args.me c.args.n _ _ _ c.in-Err.ensures.err)

pub returns-in-Err-begin-clause-refused : goal.returns-in-Err-begin-clause-refused
returns-in-Err-begin-clause-refused g c =
    let old = g.D.Disk.meaning c.args.disk in
    let log = c.in-Ok.mounted.0 in
    let refuses = not_begun c.args.me c.args.n old (g.D.Disk.meaning (logs.disk_of log)) (logs.gate_of log) c.in-Ok.mounted.1 c.in-Ok.ensures.ok _ c.in-Err-begin.ensures.refused in
    subst (λ (d : g.row.D.Denot). RefusesBoot c.args.me c.args.n old (g.D.Disk.meaning d) c.in-Err-begin.why) (sym c.into_disk.ensures) refuses
