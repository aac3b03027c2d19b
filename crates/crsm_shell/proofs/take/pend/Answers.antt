use Rattle.std.proofs.Common.{List, ◌++◌, length, sym, ◌∙◌, ap, subst, arith, length-append}
use Rattle.std.specs.List.{AllByRecursion}
use Rattle.crsm_base.specs.declared.rec.Rec.{Rec}
use Rattle.crsm_base.specs.declared.send.Send.{Send}
use Rattle.crsm_base.specs.Records.{FitsRec, body_bytes}
use Rattle.crsm_replica_io.specs.Outgoing.{FitsSend, packets_for}
use Rattle.crsm_shell.proofs.take.pend.Goals as goal

pub write_records-requires : goal.write_records-requires
write_records-requires c = subst (AllByRecursion FitsRec) (sym c.as_slice-2.ensures) c.requires.records

pub add-requires : goal.add-requires
add-requires c = subst (AllByRecursion FitsSend) (sym c.as_slice-3.ensures) c.requires.sends

pub returns : goal.returns
returns c =
    let old = c.args.body.now in
    let batch = c.args.batch.now in
    let body = c.in_ok-write_records.ensures.behind ∙ ap (λ (rs : List Rec). old ++ body_bytes rs) c.as_slice-2.ensures in
    let after = ap length c.as_slice-4.ensures in
    let before = ap length c.as_slice.ensures in
    let long = ap length body ∙ length-append old (body_bytes batch.records) in
    record {
      body = body;
      outbox = c.in_ok-add.ensures ∙ ap (λ (ss : List Send). c.args.outbox.now ++ packets_for c.args.peers.now ss) c.as_slice-3.ensures;
      size = omega (arith, after, before, long);
    }
