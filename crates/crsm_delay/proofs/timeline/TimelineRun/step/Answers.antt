use Rattle.std.proofs.Common.{◌≡◌, ◌∙◌, ◌∷◌, ◌++◌, [], None, sym, ap, subst, map}
use Rattle.crsm_schedule.specs.Grammar.{FitsEvent}
use Rattle.crsm_schedule.specs.declared.Event.{Event}
use Rattle.crsm_spec.specs.Moments.{act}
use Rattle.crsm_spec.specs.Possible.{possible}
use Rattle.crsm_law_pending.specs.Agendas.{LacksPosts}
use Rattle.crsm_law_pending.specs.Posts.{posts}
use Rattle.crsm_law_timing.specs.SoFar.{world_after}
use Rattle.crsm_world.specs.Doing.{act_of}
use Rattle.crsm_world.specs.World.{WorldStands}
use Rattle.crsm_delay.specs.Upcoming.{listed, timed_of}
use Rattle.crsm_delay.proofs.Runs.{follows_next, it_fits, it_is_possible, it_is_soon, its_posts, not_refused, same_lines, same_stands}
use Rattle.crsm_delay.proofs.timeline.TimelineRun.step.Goals as goal

pub step-stepped-requires : goal.step-stepped-requires
step-stepped-requires c =
    subst FitsEvent (sym c.in_ok-event.ensures)
    (it_fits c.events_can_happen.ensures c.agendas_go_on.ensures c.args.plan.now c.requires.fits c.requires.followed.done c.args.self.now c.requires.followed.follows c.in-Some.next (listed c.next.new.self) c.in-Some.ensures)

pub unless_refused-requires : goal.unless_refused-requires
unless_refused-requires c =
    let v = world_after c.args.plan.now (map timed_of c.requires.followed.done) in
    not_refused v (act_of c.in_ok-event.event)
    (subst (λ (e : Event). possible v (act_of e) ≡ None) (sym c.in_ok-event.ensures)
    (it_is_possible c.events_can_happen.ensures c.agendas_go_on.ensures c.args.plan.now c.requires.fits c.requires.followed.done c.args.self.now c.requires.followed.follows c.in-Some.next (listed c.next.new.self) c.in-Some.ensures))
    c.step-stepped.result (c.step-stepped.ensures.bad v c.requires.followed.follows.stands)

pub add_sent-requires-clause-soon : goal.add_sent-requires-clause-soon
add_sent-requires-clause-soon c =
    it_is_soon c.events_can_happen.ensures c.agendas_go_on.ensures c.args.plan.now c.requires.fits c.requires.followed.done c.args.self.now c.requires.followed.follows c.in-Some.next (listed c.next.new.self) c.in-Some.ensures

pub returns : goal.returns
returns c = λ done h.
    let v = world_after c.args.plan.now (map timed_of done) in
    let u = c.in-Some.next in
    let ok = c.in_ok-lines.ensures in
    let lines_are = same_lines c.step-stepped.result c.in_ok-lines.lines (act v (act_of c.in_ok-event.event)).lines ok (c.step-stepped.ensures.lines v h.stands) in
    let stands = same_stands c.step-stepped.result c.in_ok-lines.lines (WorldStands c.step-stepped.new.self (act v (act_of c.in_ok-event.event)).after) ok (c.step-stepped.ensures.world v h.stands) in
    let now = c.take_back.ensures.stands (act v (act_of c.in_ok-event.event)).after stands in
    let told = its_posts c.events_can_happen.ensures c.agendas_go_on.ensures c.args.plan.now c.requires.fits done c.args.self.now h u (listed c.next.new.self) c.in-Some.ensures in
    let heard =
    subst (λ ls. LacksPosts c.args.plan.now (map timed_of (done ++ u ∷ [])) (listed c.next.new.self) (posts ls) u.moment)
    (sym (c.as_slice.ensures ∙ lines_are ∙ ap (λ (e : Event). (act v (act_of e)).lines) c.in_ok-event.ensures)) told in
    follows_next c.events_can_happen.ensures c.agendas_go_on.ensures c.args.plan.now c.requires.fits done c.args.self.now h u (listed c.next.new.self) c.in-Some.ensures
    (record { alloc = c.args.self.now.alloc; world = c.take_back.new.self; agenda = c.add_sent.new.self })
    (subst (λ (e : Event). WorldStands c.take_back.new.self (act v (act_of e)).after) c.in_ok-event.ensures now)
    (c.in_ok-add_sent.ensures (map timed_of (done ++ u ∷ [])) heard)
