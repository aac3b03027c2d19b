use Rattle.std.proofs.Common.{◌≡◌, ◌∙◌, ap, sym, subst, arith, rules, length, drop, vec_len}
use Rattle.crsm_spec.specs.Frames.{with_stamp}
use Rattle.crsm_phase.specs.Owed.{IsAscending}
use Rattle.crsm_phase.proofs.Ordered.{ascending_with}
use Rattle.crsm_commit.proofs.Prefixes.{prefix_added}
use Rattle.crsm_commit.proofs.stamps.Stamps.add.Goals as goal

pub invariant_of-self-2 : goal.invariant_of-self-2
invariant_of-self-2 c =
    let len : length c.self.inside.items.items ≡ vec_len c.self.inside.items = search rules in
    let slice : c.as_slice.result.now ≡ drop c.self.inside.prefix c.self.inside.items.items = cc in
    let eq : drop c.self.inside.prefix c.insert.new.self.items ≡ with_stamp c.args.stamp (drop c.self.inside.prefix c.self.inside.items.items) =
    prefix_added c.self.inside.prefix c.place_for-place.result c.self.inside.items.items c.insert.new.self.items c.as_slice.result.now c.args.stamp
    (omega (arith, len, c.self.invariant.0)) slice c.place_for-place.ensures c.in_ok-insert.ensures.items in
    (omega (arith, c.self.invariant.0, c.in_ok-insert.ensures.len), subst IsAscending (sym eq) (ascending_with _ _ c.self.invariant.1))

pub returns-clause-ok : goal.returns-clause-ok
returns-clause-ok c =
    let len : length c.self.inside.items.items ≡ vec_len c.self.inside.items = search rules in
    let slice : c.as_slice.result.now ≡ drop c.self.inside.prefix c.self.inside.items.items = cc in
    prefix_added c.self.inside.prefix c.place_for-place.result c.self.inside.items.items c.insert.new.self.items c.as_slice.result.now c.args.stamp
    (omega (arith, len, c.self.invariant.0)) slice c.place_for-place.ensures c.in_ok-insert.ensures.items
    ∙ ap (with_stamp c.args.stamp) c.self.view_is
