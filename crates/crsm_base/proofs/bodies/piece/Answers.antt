use Rattle.std.proofs.Common.{◌∙◌, ℕ, ◌<◌, length, get_or, ap, sym, arith, Some}
use Rattle.std.specs.List.{slice_range}
use Rattle.std.proofs.lemmas.Option.{slice_get_past}
use Rattle.crsm_base.specs.Pieces.{pieces}
use Rattle.crsm_base.proofs.PiecesLemmas.{count, of_number, rises, ends_within}
use Rattle.crsm_base.proofs.bodies.piece.Goals as goal

pub returns-then-index-ends : goal.returns-then-index-ends
returns-then-index-ends c =
    let n = count 0 c.args.ends.now c.args.text.now in
    slice_get_past (pieces 0 c.args.ends.now c.args.text.now) c.args.index (omega (arith, n, c.if-index-ends.true))

pub part-requires-clause-rise : goal.part-requires-clause-rise
part-requires-clause-rise c =
    let le = rises 0 c.args.ends.now c.args.text.now c.args.index c.requires (omega (arith, c.if-index-ends.false)) in
    omega (arith, le, c.start_of.ensures)

pub part-requires-clause-within : goal.part-requires-clause-within
part-requires-clause-within c = ends_within 0 c.args.ends.now c.args.text.now c.args.index c.requires (omega (arith, c.if-index-ends.false))

pub returns : goal.returns
returns c =
    let within : c.args.index < length c.args.ends.now = omega (arith, c.if-index-ends.false) in
    of_number 0 c.args.ends.now c.args.text.now c.args.index within
    ∙ ap (λ (from : ℕ). Some (slice_range c.args.text.now from (get_or c.args.ends.now c.args.index 0))) (sym c.start_of.ensures)
    ∙ ap Some (sym c.part.ensures)
