use Rattle.std.proofs.Common.{◌≡◌, ◌∙◌, ◌++◌, ◌∷◌, [], refl, ap}
use Rattle.crsm_delay.specs.Following.{Follows}
use Rattle.crsm_delay.specs.Upcoming.{listed}
use Rattle.crsm_delay.specs.declared.upcoming.Upcoming.{Upcoming}
use Rattle.crsm_delay.proofs.Runs.{ended_run, not_so_many, one_written, text_first, went_on, whole}
use Rattle.crsm_delay.proofs.timeline.push_events.Goals as goal

pub loop-init : goal.loop-init
loop-init c = record {
  done = [];
  follows = c.requires.begins;
  text_is = c.in_ok-push.ensures.ok ∙ ap (λ t. t ++ 10 ∷ []) c.in_ok-push_named.ensures ∙ text_first c.args.plan.now c.args.text.now;
  count_is = refl;
}

pub returns-in_default : goal.returns-in_default
returns-in_default c =
    let h = c.loop.invariant in
    whole c.events_can_happen.ensures c.agendas_end.ensures c.args.plan.now c.loop.run c.args.text.now c.loop.text c.loop.counter c.requires.fits h
    (ended_run c.in_ok-next.field-0 (listed c.loop.run.agenda ≡ []) (λ (u : Upcoming). Follows c.args.plan.now (h.done ++ u ∷ []) c.step.new.self) c.in_default.is (c.in_ok-next.ensures h.done h.follows))

pub loop-preserved : goal.loop-preserved
loop-preserved c =
    let h = c.loop.invariant in
    one_written c.args.plan.now c.loop.run c.step.new.self c.args.text.now c.loop.text c.push_to.new.text c.loop.counter c.in-Some.next h
    (went_on c.in_ok-next.field-0 (listed c.loop.run.agenda ≡ []) (λ (u : Upcoming). Follows c.args.plan.now (h.done ++ u ∷ []) c.step.new.self) c.in-Some.next c.in-Some.is (c.in_ok-next.ensures h.done h.follows))
    c.in_ok-push_to.ensures

pub returns : goal.returns
returns c = absurd (not_so_many c.agendas_end.ensures c.args.plan.now c.loop.run c.args.text.now c.loop.text c.loop.counter c.requires.fits c.loop.invariant c.loop-test.false)
