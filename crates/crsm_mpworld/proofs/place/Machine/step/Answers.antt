use Rattle.std.proofs.Common.{ap, refl, subst, sym, ◌∙◌}
use Rattle.std.proofs.Math.Logic.{∥∥₁_map}
use Rattle.std.specs.List.{AllByRecursion}
use Rattle.crsm_mpspec.specs.Records.{FitsRec}
use Rattle.crsm_mpspec.specs.World.{body_size}
use Rattle.crsm_mpworld.proofs.Disks.{batch_fits, batch_sends, stepped}
use Rattle.crsm_mpworld.proofs.place.Machine.step.Goals as goal

pub keep_records-requires-clause-fit : goal.keep_records-requires-clause-fit
keep_records-requires-clause-fit c =
    let old = c.args.self.now in
    subst (AllByRecursion FitsRec) (sym c.as_slice.ensures) (batch_fits old.core old.log c.args.input.now c.args.from c.step.new.out (old.stands c.if-self.false) (λ r s. c.in_ok-step.ensures.made c.requires r s))

pub returns-clause-fits : goal.returns-clause-fits
returns-clause-fits c =
    let old = c.args.self.now in
    batch_sends old.core old.log c.args.input.now c.args.from c.step.new.out (old.stands c.if-self.false) (λ r s. c.in_ok-step.ensures.made c.requires r s)

pub returns-clause-steps : goal.returns-clause-steps
returns-clause-steps c r is =
    let old = c.args.self.now in
    let stands = is.on.stands in
    let made = c.in_ok-step.ensures.made c.requires r stands in
    let records = c.as_slice.ensures ∙ made.records in (
      record { batch = made; size = c.in_ok-size.ensures.size ∙ ap body_size records },
      record {
        unspent = refl;
        on = stepped old.core c.step.new.self old.log c.keep_records.new.log r c.args.input.now c.args.from c.as_slice.result.now is.on records
            (c.in_ok-step.ensures.stands c.requires r stands) c.in_ok-size.ensures.kept;
      },
    )

-- it is that of some replica
pub invariant_of-self-2-clause-stands : goal.invariant_of-self-2-clause-stands
invariant_of-self-2-clause-stands c unspent =
    let old = c.args.self.now in
    ∥∥₁_map (old.stands c.if-self.false) (λ s.
    let stands = s.is.stands in
    let made = c.in_ok-step.ensures.made c.requires s.replica stands in
    record {
      replica = _;
      is = stepped old.core c.step.new.self old.log c.keep_records.new.log s.replica c.args.input.now c.args.from c.as_slice.result.now s.is (c.as_slice.ensures ∙ made.records)
          (c.in_ok-step.ensures.stands c.requires s.replica stands) c.in_ok-size.ensures.kept;
    })
