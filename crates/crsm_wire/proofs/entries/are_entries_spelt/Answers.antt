use Rattle.std.proofs.Common.{arith, ap, length, subst, List}
use Rattle.std.proofs.lemmas.Bool.{leb-true}
use Rattle.crsm_base.specs.declared.command.Entry.{Entry}
use Rattle.crsm_wire.specs.Sized.{AreSized}
use Rattle.crsm_wire.proofs.Sums.{entries_fit}
use Rattle.crsm_wire.proofs.entries.are_entries_spelt.Goals as goal

pub returns-in-Some : goal.returns-in-Some
returns-in-Some c =
    λ h. let l = ap length c.as_slice-items.ensures in
    entries_fit c.args.entries.now c.in-Some.size (omega (arith, l)) (cc) (subst (λ (es : List Entry). AreSized es c.in-Some.size) c.as_slice-items.ensures c.in-Some.ensures) (leb-true _ _ h)
