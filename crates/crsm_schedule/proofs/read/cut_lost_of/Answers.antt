use Rattle.std.proofs.Common.{◌≡◌, ◌++◌, ℕ, List, codes, None, Some, ap, sym, ◌∙◌}
use Rattle.std.proofs.lemmas.Result.{err_from_is_err_and}
use Rattle.std.proofs.lemmas.Slice.Eq.{strip_prefix_is}
use Rattle.std.proofs.lemmas.Bool.Decides.{Decides-eqb}
use Rattle.crsm_schedule.proofs.EventLaws.{lost_parts, lost_batch_parts, Lacks-prefix}
use Rattle.crsm_schedule.proofs.read.cut_lost_of.Goals as goal

pub returns-in_err-reading-clause-only : goal.returns-in_err-reading-clause-only
returns-in_err-reading-clause-only c = λ e fits same.
    let whole : c.args.text.now ≡ codes "batch " ++ c.in-Some.rest.now = strip_prefix_is Decides-eqb c.args.text.now (codes "batch ") (Some c.in-Some.rest) c.in-Some.ensures.cases in
    let p = lost_batch_parts c.in-Some.rest.now e fits (ap (λ (s : List ℕ). codes "cut lost " ++ s) (sym whole) ∙ same) in
    let k = c.in_err-reading.ensures.only p.reading p.numbers p.fits p.split in
    let r = err_from_is_err_and c.from_residual.result c.from_residual.ensures.1 in rw (r.1, r.2) k

pub returns-in-Some-clause-only : goal.returns-in-Some-clause-only
returns-in-Some-clause-only c = λ e fits same.
    let whole : c.args.text.now ≡ codes "batch " ++ c.in-Some.rest.now = strip_prefix_is Decides-eqb c.args.text.now (codes "batch ") (Some c.in-Some.rest) c.in-Some.ensures.cases in
    let p = lost_batch_parts c.in-Some.rest.now e fits (ap (λ (s : List ℕ). codes "cut lost " ++ s) (sym whole) ∙ same) in
    let read = c.in_ok-reading.ensures.only p.reading p.numbers p.fits p.split in
    let reading : c.in_ok-reading.reading ≡ p.reading = read.0 in
    let numbers : c.in_ok-reading.numbers ≡ p.numbers = read.1 in
    let is = p.is in cc

pub returns-in_err-single-clause-only : goal.returns-in_err-single-clause-only
returns-in_err-single-clause-only c = λ e fits same.
    let none : Lacks-prefix (codes "batch ") c.args.text.now = strip_prefix_is Decides-eqb c.args.text.now (codes "batch ") None c.in_default.ensures.cases in
    let p = lost_parts c.args.text.now e fits none same in
    let k = c.in_err-single.ensures.only p.single p.fits p.split in
    let r = err_from_is_err_and c.from_residual-in_err-single.result c.from_residual-in_err-single.ensures.1 in rw (r.1, r.2) k

pub returns-clause-only : goal.returns-clause-only
returns-clause-only c = λ e fits same.
    let none : Lacks-prefix (codes "batch ") c.args.text.now = strip_prefix_is Decides-eqb c.args.text.now (codes "batch ") None c.in_default.ensures.cases in
    let p = lost_parts c.args.text.now e fits none same in
    let single : c.in_ok-single.single ≡ p.single = c.in_ok-single.ensures.only p.single p.fits p.split in
    let is = p.is in cc
