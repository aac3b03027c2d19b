use Rattle.std.proofs.Common.{◌∙◌, ap, sym, subst, Some}
use Rattle.crsm_spec.specs.Acts.{Bad}
use Rattle.crsm_world.specs.Doing.{bad_of}
use Rattle.crsm_spec.specs.Possible.{possible}
use Rattle.crsm_spec.specs.World.{is_full}
use Rattle.crsm_world.specs.Refusing.{Answers}
use Rattle.crsm_world.proofs.Reasons.{hit, pass}
use Rattle.crsm_world.proofs.world.World.check.Goals as goal

pub returns-then-is_full-clause-answers : goal.returns-then-is_full-clause-answers
unfolding possible bad_of is_full
returns-then-is_full-clause-answers c v h ne =
    hit _ (Bad.Full v.bytes) _ (sym (c.is_full.ensures v.packets v.bytes h.network) ∙ c.if-is_full.true) ∙ ap (λ n. Some (Bad.Full n)) (sym (c.bytes.ensures v.packets v.bytes h.network))

pub returns-clause-answers : goal.returns-clause-answers
unfolding possible is_full
returns-clause-answers c v h =
    let e = sym (c.is_full.ensures v.packets v.bytes h.network) ∙ c.if-is_full.false in
    subst (Answers c.check_event.result) (sym (pass _ (Bad.Full v.bytes) _ e)) (c.check_event.ensures.answers v h)
