use Rattle.std.proofs.Common.{◌≡◌, None, refl, sym, subst}
use Rattle.crsm_sim_generator.specs.Drawing.{drawn_next}
use Rattle.crsm_schedule.specs.declared.Event.{Event}
use Rattle.crsm_spec.specs.Possible.{possible}
use Rattle.crsm_world.specs.Doing.{act_of}
use Rattle.crsm_world.specs.Seen.{view_of}
use Rattle.crsm_cmd_soak.proofs.Refusals.{not_refused}
use Rattle.crsm_cmd_soak.proofs.running.SoakRun.step.Goals as goal

pub unless_refused-requires : goal.unless_refused-requires
unless_refused-requires c =
    let v = c.requires.goes_on.cluster in
    let e = c.in_ok-event.event in
    let drawn : e ≡ (drawn_next c.args.self.now.generator.replicas (view_of v) c.args.self.now.generator.drawing).0 =
    c.in_ok-event.ensures.event (view_of v) (record { cluster = v; stands = c.requires.goes_on.stands; is = refl }) in
    let can = subst (λ (x : Event). possible v (act_of x) ≡ None) (sym drawn) c.requires.goes_on.can in
    not_refused v (act_of e) can c.step-stepped.result (c.step-stepped.ensures.bad v c.requires.goes_on.stands)
