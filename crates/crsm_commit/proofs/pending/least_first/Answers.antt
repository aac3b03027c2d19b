use Rattle.std.proofs.Common.{◌≡◌, ◌∙◌, ◌+◌, ap, sym, subst, arith, rules, length, [], ◌∷◌, refl}
use Rattle.std.specs.Prelude.{List, slice_get}
use Rattle.std.proofs.lemmas.List.{get_or_default}
use Rattle.crsm_base.specs.declared.Stamp.{Stamp}
use Rattle.crsm_spec.specs.Lists.{first_of}
use Rattle.crsm_commit.specs.Least.{IsLeastFirst, first_at}
use Rattle.crsm_commit.proofs.LeastLemmas.{queue_more}
use Rattle.crsm_commit.proofs.pending.least_first.Goals as goal

get_first : (ss : List Stamp) → slice_get ss 0 ≡ first_of ss
unfolding first_of
get_first [] = refl
get_first (s ∷ ss) = refl

pub loop-place-preserved : goal.loop-place-preserved
loop-place-preserved c =
    let len : length c.args.queues.now ≡ 16 = search rules in
    let head : first_at c.args.queues.now c.loop-place.place ≡ c.copied.result =
    ap first_of (get_or_default c.args.queues.now c.loop-place.place [] c.index-queues-place.result (omega (arith, len)))
    ∙ sym (c.copied.ensures ∙ c.first.ensures.value ∙ get_first c.as_slice.result.now ∙ ap first_of c.as_slice.ensures.value) in
    subst (λ r. IsLeastFirst r c.args.queues.now (c.loop-place.place + 1)) (sym c.lesser-least.ensures)
    (queue_more c.args.queues.now c.loop-place.place c.loop-place.least c.copied.result c.loop-place.invariant head)
