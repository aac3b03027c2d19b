use Rattle.std.proofs.Common.{◌≡◌, arith, refl, ◌∙◌, ap, sym}
use Rattle.crsm_log.specs.Format.{broken}
use Rattle.crsm_log.proofs.Reading.{breaks, cluster_long, few, file_read, read_body, read_cluster}
use Rattle.crsm_log.proofs.entry.read_entries.Goals.{then-is_cluster, else-is_cluster+in_ok-push-in-Entry}
use Rattle.crsm_log.proofs.entry.read_entries.Goals as goal

pub returns-in-Closed-clause-read : goal.returns-in-Closed-clause-read
returns-in-Closed-clause-read c = file_read _ _ _ _ _ _ _ c.entries.invariant c.is_some.result c.is_some.ensures c.in-Closed.ensures _ refl refl refl refl

pub returns-in-Bad-clause-bad_gate : goal.returns-in-Bad-clause-bad_gate
returns-in-Bad-clause-bad_gate c entry is =
    let same : c.entries.entry ≡ entry = cc in
    breaks _ _ _ _ _ _ _ c.entries.invariant c.is_some.result c.is_some.ensures c.in-Bad.ensures ∙ ap broken same

pub number_in-requires : goal.number_in-requires
number_in-requires c = omega (arith, c.in-Entry.ensures.long, cluster_long _ (sym c.is_cluster.ensures ∙ c.if-is_cluster.true))

pub overflow_add-entry : goal.overflow_add-entry
overflow_add-entry c = omega (arith, few _ _ _ _ _ _ _ c.entries.invariant, c.entries.invariant.all, c.in-Entry.ensures.lengths)

pub entries-preserved : goal.entries-preserved
entries-preserved c =
    elim c.if-is_cluster.branch [
      | then-is_cluster w ↦
          rw (w.bodies-is, w.cluster-is, w.entry-is, w.number_in.ensures) (read_cluster _ _ _ _ _ _ _ c.entries.invariant c.is_some.result c.is_some.ensures c.in-Entry.field c.in-Entry.content.now c.in-Entry.rest.now c.in-Entry.ensures (sym c.is_cluster.ensures ∙ w.if-is_cluster.true))
      | else-is_cluster+in_ok-push-in-Entry w ↦
          rw (w.bodies-is, w.cluster-is, w.entry-is, w.in_ok-push-in-Entry.ensures.ok) (read_body _ _ _ _ _ _ _ c.entries.invariant c.is_some.result c.is_some.ensures c.in-Entry.field c.in-Entry.content.now c.in-Entry.rest.now c.in-Entry.ensures (sym c.is_cluster.ensures ∙ w.if-is_cluster.false))
    ]
