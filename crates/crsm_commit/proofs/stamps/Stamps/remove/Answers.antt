use Rattle.std.proofs.Common.{◌≡◌, ◌∙◌, ap, sym, subst, arith, rules, length, drop, vec_len}
use Rattle.crsm_phase.specs.Owed.{IsAscending, without}
use Rattle.crsm_phase.proofs.Ordered.{ascending_without}
use Rattle.crsm_commit.proofs.Prefixes.{prefix_removed, place_below}
use Rattle.crsm_commit.proofs.stamps.Stamps.remove.Goals as goal

pub invariant_of-self-else-place-eq0 : goal.invariant_of-self-else-place-eq0
invariant_of-self-else-place-eq0 c =
    let len : length c.self.inside.items.items ≡ vec_len c.self.inside.items = search rules in
    let slice : c.as_slice.result.now ≡ drop c.self.inside.prefix c.self.inside.items.items = cc in
    let eq : drop c.self.inside.prefix c.remove.new.self.items ≡ without c.args.stamp (drop c.self.inside.prefix c.self.inside.items.items) =
    prefix_removed c.self.inside.prefix c.in_ok-place.place c.self.inside.items.items c.remove.new.self.items c.as_slice.result.now c.args.stamp
    (omega (arith, len, c.self.invariant.0)) slice c.in_ok-place.ensures.some c.remove.ensures.items in
    let below = place_below c.self.inside.prefix c.in_ok-place.place c.self.inside.items.items c.as_slice.result.now slice (omega (arith, len, c.self.invariant.0)) c.in_ok-place.ensures.some.within in
    (omega (arith, below, len, c.self.invariant.0, c.remove.ensures.len), subst IsAscending (sym eq) (ascending_without _ _ c.self.invariant.1))

pub returns-else-place-eq0-clause-rest : goal.returns-else-place-eq0-clause-rest
returns-else-place-eq0-clause-rest c =
    let len : length c.self.inside.items.items ≡ vec_len c.self.inside.items = search rules in
    let slice : c.as_slice.result.now ≡ drop c.self.inside.prefix c.self.inside.items.items = cc in
    prefix_removed c.self.inside.prefix c.in_ok-place.place c.self.inside.items.items c.remove.new.self.items c.as_slice.result.now c.args.stamp
    (omega (arith, len, c.self.invariant.0)) slice c.in_ok-place.ensures.some c.remove.ensures.items
    ∙ ap (without c.args.stamp) c.self.view_is
