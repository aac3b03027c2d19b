use Rattle.std.proofs.Common.{◌≡◌, arith}
use Rattle.std.proofs.lemmas.Result.{err_from_is_err_and}
use Rattle.crsm_schedule.specs.Grammar.{single_text}
use Rattle.crsm_schedule.proofs.EventLaws.{cut_at_parts}
use Rattle.crsm_schedule.proofs.read.cut_at_of.Goals.{then-calls-gt4-via-then-calls-gt4, then-calls-gt4-via-else-calls-gt4+then-fill-gt255}
use Rattle.crsm_schedule.proofs.read.cut_at_of.Goals as goal

pub returns-in_default-clause-only : goal.returns-in_default-clause-only
returns-in_default-clause-only c = λ e fits same.
    let p = cut_at_parts c.args.text.now e fits same in
    let few = p.few in
    let byte = p.byte in
    absurd (c.in_default.ensures.only p.calls p.fill (single_text p.single) (omega (arith, few)) (omega (arith, byte)) p.split)

pub returns-then-calls-gt4-clause-only : goal.returns-then-calls-gt4-clause-only
returns-then-calls-gt4-clause-only c = λ e fits same.
    let p = cut_at_parts c.args.text.now e fits same in
    let few = p.few in
    let byte = p.byte in
    let s = c.in-Some.ensures.only p.calls p.fill (single_text p.single) (omega (arith, few)) (omega (arith, byte)) p.split in
    let calls : c.in-Some.calls ≡ p.calls = s.0 in
    let fill : c.in-Some.fill ≡ p.fill = s.1 in
    absurd (elim c.then-calls-gt4.branch [
      | then-calls-gt4-via-then-calls-gt4 w ↦ let big = w.if-calls-gt4.true in omega (arith, few, calls, big)
      | then-calls-gt4-via-else-calls-gt4+then-fill-gt255 w ↦ let big = w.if-fill-gt255.true in omega (arith, byte, fill, big)
    ])

pub returns-in_err-single-clause-only : goal.returns-in_err-single-clause-only
returns-in_err-single-clause-only c = λ e fits same.
    let p = cut_at_parts c.args.text.now e fits same in
    let few = p.few in
    let byte = p.byte in
    let s = c.in-Some.ensures.only p.calls p.fill (single_text p.single) (omega (arith, few)) (omega (arith, byte)) p.split in
    let k = c.in_err-single.ensures.only p.single p.fits s.2 in
    let r = err_from_is_err_and c.from_residual.result c.from_residual.ensures.1 in rw (r.1, r.2) k

pub returns-clause-only : goal.returns-clause-only
returns-clause-only c = λ e fits same.
    let p = cut_at_parts c.args.text.now e fits same in
    let few = p.few in
    let byte = p.byte in
    let s = c.in-Some.ensures.only p.calls p.fill (single_text p.single) (omega (arith, few)) (omega (arith, byte)) p.split in
    let calls : c.in-Some.calls ≡ p.calls = s.0 in
    let fill : c.in-Some.fill ≡ p.fill = s.1 in
    let single : c.in_ok-single.single ≡ p.single = c.in_ok-single.ensures.only p.single p.fits s.2 in
    let is = p.is in cc
