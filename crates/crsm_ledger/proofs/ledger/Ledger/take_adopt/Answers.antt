use Rattle.std.proofs.Common.{◌≡◌, ◌∙◌, ap, sym, true}
use Rattle.crsm_spec.specs.Types.{Decision, Rec}
use Rattle.crsm_spec.specs.Fits.{fits}
use Rattle.crsm_ledger.proofs.TakenRecords.{adopt_is, tail_at}
use Rattle.crsm_ledger.proofs.ledger.Ledger.take_adopt.Goals as goal

pub returns : goal.returns
returns c =
    let known = c.args.self.now.known in
    let place = c.in-Some.place in
    let number = rw c.in-Some.is at c.take_u64.ensures in
    let read = tail_at c.args.tail.now c.in-Some.text.now c.in-Some-behind.rest.now known c.requires c.in-Some-behind.ensures in
    record {
      rec = Rec.Adopt place known.tail;
      is = adopt_is c.args.bytes.now c.in-Some.text.now c.in-Some-behind.rest.now place known.tail (sym number) read.1;
      keeps = λ me n log s.
          let fit : fits me n log (Rec.Adopt place known.tail) ≡ true =
          ap (λ es. fits me n log (Rec.Adopt place es)) (sym (c.as_slice.ensures ∙ ap (λ (d : Decision). d.tail) c.get.ensures.value)) ∙ sym (c.fits_adopt.ensures me n log s.says) ∙ c.if-not-fits_adopt.false in
          (fit, record { unspent = c.in_ok-follow_tail.ensures.mark ∙ s.unspent; says = c.in_ok-follow_tail.ensures.kept place me n log s.says fit });
      same = c.in_ok-follow_tail.ensures.accepted;
      known = c.in_ok-follow_tail.ensures.known;
    }
