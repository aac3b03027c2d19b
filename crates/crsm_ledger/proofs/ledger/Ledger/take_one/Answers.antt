use Rattle.std.proofs.Common.{◌≡◌, List, refl, sym, subst, arith, false, inl}
use Rattle.crsm_base.specs.Records.{SpeltBody}
use Rattle.crsm_base.proofs.BodyLaws.{body_stops}
use Rattle.crsm_spec.specs.Types.{Rec}
use Rattle.crsm_spec.specs.Fits.{fits}
use Rattle.crsm_ledger.specs.declared.error.LedgerError.TheVariants.{BadLog}
use Rattle.crsm_ledger.specs.declared.ledger.Ledger.{Ledger}
use Rattle.crsm_ledger.specs.Ledger.{LedgerStands, kind}
use Rattle.crsm_ledger.specs.Recovered.{with_records, IsBad}
use Rattle.crsm_ledger.proofs.RecoverLemmas.{bad_more}
use Rattle.crsm_ledger.proofs.TakenLemmas.{bad_behind}
use Rattle.crsm_ledger.proofs.TakenRecords.{is_error, read_so_far, rec_fits}
use Rattle.crsm_ledger.proofs.ledger.Ledger.take_one.Goals.{in-Some-3, in-None}
use Rattle.crsm_ledger.proofs.ledger.Ledger.take_one.Goals as goal

pub returns-in_default-2-clause-bad : goal.returns-in_default-2-clause-bad
returns-in_default-2-clause-bad c = λ recs h me n log fit s.
    (refl, inl (refl, body_stops c.args.body.now recs c.args.bytes.now (read_so_far h) (rw c.in_default-2.is at c.in_ok-rec.ensures) c.requires.some))

pub take_record-requires : goal.take_record-requires
take_record-requires c =
    rec_fits c.args.bytes.now c.in-Some-2.rest.now c.in-Some-2.rec (λ i. omega (arith, c.type_inv.bytes i)) (sym (rw c.in-Some-2.is at c.in_ok-rec.ensures))

pub returns-in-Err-clause-bad : goal.returns-in-Err-clause-bad
returns-in-Err-clause-bad c =
    let e = rw c.in-Some-2.is at c.in_ok-rec.ensures in
    let same = rw c.in_default.is at c.in_ok-next.ensures in
    elim c.match-branch-6.branch [
      | in-Some-3 w ↦
          let spelt : SpeltBody w.in-Some-3.field-0 c.args.body.now = rw w.in-Some-3.is at c.in_ok-read_recs.ensures.found in
          is_error c.match-branch-6.result c.in-Err.error _ w.result-is
          (λ recs h me n log fit s.
          bad_more c.in-Err.error
          (λ at why. (at ≡ c.args.entry) × (fits me n (with_records log recs) c.in-Some-2.rec ≡ false) × (why ≡ kind c.in-Some-2.rec))
          (λ at why. (at ≡ c.args.entry) × IsBad me n log c.args.body.now why)
          (λ at why. bad_behind me n log c.args.body.now recs c.args.bytes.now c.in-Some-2.rec c.in-Some-2.rest.now w.in-Some-3.field-0 c.args.entry at why
          (λ i. omega (arith, c.type_inv.body i)) (read_so_far h) e spelt fit)
          (c.in-Err.ensures me n (with_records log recs) (subst (λ (l : Ledger). LedgerStands me n l (with_records log recs)) (sym same) s)))
      | in-None w ↦
          let none : (recs : List Rec) → SpeltBody recs c.args.body.now → ⊥ = rw w.in-None.is at c.in_ok-read_recs.ensures.none in
          is_error c.match-branch-6.result (BadLog c.args.entry 0) _ w.result-is (λ recs h me n log fit s. (refl, inl (refl, none)))
    ]
