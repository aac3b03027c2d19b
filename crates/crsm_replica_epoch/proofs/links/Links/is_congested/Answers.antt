use Rattle.std.proofs.Common.{◌≡◌, ◌∙◌, ◌==◌, false, sym, ap, arith, length, get_or}
use Rattle.std.specs.Prelude.{nat_le}
use Rattle.std.specs.List.{list_any}
use Rattle.std.proofs.lemmas.Bool.Decides.{nat_tests}
use Rattle.crsm_base.specs.Limits.{most_frames}
use Rattle.crsm_spec.specs.Replica.{unacked}
use Rattle.crsm_replica_epoch.specs.Linked.{others_of}
use Rattle.crsm_replica_epoch.proofs.Pushing.{any_other}
use Rattle.crsm_replica_epoch.proofs.links.Links.is_congested.Goals as goal

pub returns-then-is_full : goal.returns-then-is_full
returns-then-is_full c r s =
    let other : (get_or c.as_slice-member-items.result.now c.loop-member.member-index 0 == c.args.me) ≡ false = grind (arith, nat_tests, c.if-member-me.true) in
    sym (ap (λ ms. list_any (λ k. nat_le most_frames (length (unacked r k))) (others_of c.args.me ms)) (sym c.as_slice-member-items.ensures.value)
    ∙ any_other (λ k. nat_le most_frames (length (unacked r k))) c.args.me c.as_slice-member-items.result.now c.loop-member.member-index 0 c.loop-member-test.true other
    (sym (c.is_full.ensures r s) ∙ c.if-is_full.true))
