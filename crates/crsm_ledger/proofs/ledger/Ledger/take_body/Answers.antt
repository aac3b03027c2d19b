use Rattle.std.proofs.Common.{[], ◌∷◌, ◌++◌, refl, sym, subst, arith, inl}
use Rattle.crsm_base.proofs.RecordLaws.{rec_parses, rec_long}
use Rattle.crsm_base.proofs.BodyLaws.{reads_on, falls, body_none, body_found}
use Rattle.crsm_spec.specs.Log.{Log}
use Rattle.crsm_ledger.specs.Ledger.{LedgerStands}
use Rattle.crsm_ledger.specs.Recovered.{with_records}
use Rattle.crsm_fact_log.proofs.Logged.{with_records-push}
use Rattle.crsm_ledger.proofs.RecoverLemmas.{fit-push}
use Rattle.crsm_ledger.proofs.TakenRecords.{read_so_far}
use Rattle.crsm_ledger.proofs.ledger.Ledger.take_body.Goals as goal

pub returns-then-is_empty-clause-taken : goal.returns-then-is_empty-clause-taken
returns-then-is_empty-clause-taken c = λ me n log s. (refl, inl (refl, body_none c.args.body.now c.if-is_empty.ensures))

pub loop-self-smaller : goal.loop-self-smaller
loop-self-smaller c =
    let h = c.loop-self.invariant in
    let t = c.in-Ok.ensures.taken in
    falls rec_parses rec_long c.args.body.now h.0 c.loop-self.next.rest.now t.rec c.in-Ok.behind.rest.now (λ i. omega (arith, c.type_inv.body i)) (read_so_far h.1) (sym t.is)

pub loop-self-preserved : goal.loop-self-preserved
loop-self-preserved c =
    let h = c.loop-self.invariant in
    let t = c.in-Ok.ensures.taken in
    let read = reads_on rec_parses c.args.body.now h.0 c.loop-self.next.rest.now t.rec c.in-Ok.behind.rest.now (λ i. omega (arith, c.type_inv.body i)) (read_so_far h.1) (sym t.is) in (
      h.0 ++ t.rec ∷ [],
      record { fit = read.fit; is = read.is },
      (λ me n log s.
          let so_far = h.2 me n log s in
          let step = t.keeps me n (with_records log h.0) so_far.1 in (
            fit-push me n log h.0 t.rec so_far.0 step.0,
            subst (λ (l : Log). LedgerStands me n c.take_one.new.self l) (sym (with_records-push log h.0 t.rec)) step.1,
          )),
      t.at_hand_is,
      t.tail_is,
    )

pub returns-clause-taken : goal.returns-clause-taken
returns-clause-taken c = λ me n log s.
    let h = c.loop-self.invariant in
    let so_far = h.2 me n log s in
    (h.0, body_found c.args.body.now h.0 c.loop-self.next.rest.now c.if-is_empty.ensures (read_so_far h.1) c.loop-self-test.ensures, so_far.0, so_far.1)
