use Rattle.std.proofs.Common.{◌≡◌, ◌+◌, ℕ, ap, arith, length, subst}
use Rattle.crsm_log.specs.Log.{IsSettled, Ran, ServesPut, entry_calls}
use Rattle.crsm_log.specs.Format.{cluster_entry}
use Rattle.crsm_log.proofs.Runs.{on_ok}
use Rattle.crsm_log.proofs.Puts.{cluster_follows, claim_leaves, claim_settles}
use Rattle.crsm_log.proofs.device.write_cluster.Goals as goal

same_gate : (gate : ℕ) → gate + 5 + 8 ≡ gate + 13
same_gate gate = omega arith

pub returns-clause-ran : goal.returns-clause-ran
returns-clause-ran g c =
    let m0 = g.D.Disk.meaning c.args.disk.now in
    let m1 = g.D.Disk.meaning c.write_entry.new.disk in
    let long : length c.cluster_entry_of.result + 1 ≡ 14 = omega (arith, ap length c.cluster_entry_of.ensures) in
    let P : ℕ → Type 0 = λ n. Ran (entry_calls c.args.gate (cluster_entry c.args.cluster)) (ServesPut c.args.gate n m0) m0 m1 c.write_entry.result in
    subst P long (c.write_entry.ensures.ran (cluster_entry c.args.cluster) c.cluster_entry_of.ensures)

pub returns-clause-settled : goal.returns-clause-settled
returns-clause-settled g c some none honest s =
    on_ok c.write_entry.result _ _ (λ done. let now = claim_settles (g.D.Disk.meaning c.args.disk.now) (g.D.Disk.meaning c.write_entry.new.disk) c.args.gate c.args.cluster some none s done.1 in (subst (IsSettled (g.D.Disk.meaning c.write_entry.new.disk)) (same_gate c.args.gate) done.0, now.0, now.1))
    (c.write_entry.ensures.settled (cluster_entry c.args.cluster) c.cluster_entry_of.ensures honest s (cluster_follows c.args.cluster some _ none))

pub returns-clause-any_moment : goal.returns-clause-any_moment
returns-clause-any_moment g c some none honest s =
    claim_leaves (g.D.Disk.meaning c.args.disk.now) (g.D.Disk.meaning c.write_entry.new.disk) c.args.gate c.args.cluster some none s (c.write_entry.ensures.any_moment (cluster_entry c.args.cluster) c.cluster_entry_of.ensures honest s (cluster_follows c.args.cluster some _ none))
