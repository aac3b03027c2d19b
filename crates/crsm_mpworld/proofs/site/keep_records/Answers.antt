use Rattle.std.proofs.Common.{◌<◌, ◌≤◌, ◌∙◌, length, sym, ap, subst, arith}
use Rattle.std.proofs.lemmas.Bool.Decides.{nat_tests}
use Rattle.crsm_mpspec.specs.Records.{SpeltBody}
use Rattle.crsm_mpspec.specs.World.{body_size}
use Rattle.crsm_mpworld.proofs.Disks.{body_some, no_size, spelt_body, with_body}
use Rattle.crsm_mpworld.proofs.site.keep_records.Goals as goal

pub returns-then-is_empty-clause-size : goal.returns-then-is_empty-clause-size
returns-then-is_empty-clause-size c =
    let none : length c.args.records.now ≤ 0 = grind (arith, nat_tests, c.if-is_empty.ensures) in
    no_size c.args.records.now none

pub keep-requires-clause-some : goal.keep-requires-clause-some
keep-requires-clause-some c =
    let some : 0 < length c.args.records.now = grind (arith, nat_tests, c.if-is_empty.ensures) in
    let e = ap length (c.as_slice.ensures ∙ c.in_ok-write_body.ensures) in
    let long = body_some c.args.records.now some in omega arith

pub returns-clause-size : goal.returns-clause-size
unfolding body_size
returns-clause-size c = ap length (c.as_slice-2.ensures ∙ c.in_ok-write_body.ensures)

pub returns-clause-kept : goal.returns-clause-kept
returns-clause-kept c log disk sound =
    let recs = c.args.records.now in
    let some : 0 < length recs = grind (arith, nat_tests, c.if-is_empty.ensures) in
    let spelt : SpeltBody recs c.as_slice.result.now = subst (SpeltBody recs) (sym (c.as_slice.ensures ∙ c.in_ok-write_body.ensures)) (spelt_body recs c.requires.fit some) in
    with_body _ _ log recs c.as_slice.result.now disk spelt sound c.in_ok-keep.ensures.kept
