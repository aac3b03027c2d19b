use Rattle.std.proofs.Common.{Some, arith, sym, ◌∙◌, ap}
use Rattle.std.proofs.lemmas.Fmt.{decimal_injective}
use Rattle.crsm_text.proofs.fields.read_number.Goals as goal

pub returns-in-Some-clause-only : goal.returns-in-Some-clause-only
returns-in-Some-clause-only c = λ n fits e. ap Some (decimal_injective c.in-Some.number n (omega arith) (omega (arith, fits)) (sym c.in-Some.ensures ∙ e))
