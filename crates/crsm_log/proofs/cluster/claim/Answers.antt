use Rattle.std.proofs.Common.{◌≡◌, ◌∙◌, sym, true}
use Rattle.crsm_log.specs.Claim.{wants_entry}
use Rattle.crsm_log.proofs.Claims.{claims_by_entry, entry_leaves, none, wants_some}
use Rattle.crsm_log.proofs.cluster.claim.Goals as goal

pub returns-clause-ok : goal.returns-clause-ok
returns-clause-ok g c honest =
    let m0 = g.D.Disk.meaning c.args.disk.now in
    let m1 = g.D.Disk.meaning c.read_log.new.disk in
    let m2 = g.D.Disk.meaning c.write_cluster.new.disk in
    let held = c.in_ok-held.held in
    let mount = c.in_ok-held.ensures.ok in
    let holds = c.in_ok-held.ensures.holds in
    let wants : wants_entry c.in_ok-held.held.cluster c.args.cluster ≡ true = sym c.in_ok-asks_for_entry.ensures.wants ∙ c.if-not-branch.false in
    let some = (wants_some c.in_ok-held.held.cluster c.args.cluster wants).1 in
    let first = none m0 m1 held c.args.cluster mount holds m2 wants c.in_ok-held.ensures.room honest in
    let done = c.in_ok-write_cluster.ensures.settled some first (mount.goes.honest ∙ honest) (mount.settled honest) in
    claims_by_entry m0 m1 held c.args.cluster mount holds m2 wants c.in_ok-held.ensures.room c.in_ok-write_cluster.ensures.ran c.in_ok-write_cluster.ensures.left done.0 done.1 done.2 honest

pub returns-in_err-write_cluster-clause-any_moment : goal.returns-in_err-write_cluster-clause-any_moment
returns-in_err-write_cluster-clause-any_moment g c honest =
    let m0 = g.D.Disk.meaning c.args.disk.now in
    let m1 = g.D.Disk.meaning c.read_log.new.disk in
    let m2 = g.D.Disk.meaning c.write_cluster.new.disk in
    let held = c.in_ok-held.held in
    let mount = c.in_ok-held.ensures.ok in
    let holds = c.in_ok-held.ensures.holds in
    let wants : wants_entry c.in_ok-held.held.cluster c.args.cluster ≡ true = sym c.in_ok-asks_for_entry.ensures.wants ∙ c.if-not-branch.false in
    let some = (wants_some c.in_ok-held.held.cluster c.args.cluster wants).1 in
    let first = none m0 m1 held c.args.cluster mount holds m2 wants c.in_ok-held.ensures.room honest in
    entry_leaves m0 m1 held c.args.cluster mount holds m2 wants c.in_ok-held.ensures.room (λ there. c.write_cluster.ensures.any_moment some first there (mount.settled honest)) honest
