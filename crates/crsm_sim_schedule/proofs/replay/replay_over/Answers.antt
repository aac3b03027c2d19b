use Rattle.crsm_port_lines.specs.Exact as loop
use Rattle.crsm_sim_schedule.proofs.Exact.{completed, exact, refused, too_long}
use Rattle.crsm_sim_schedule.proofs.Lines.{TextLaws}
use Rattle.crsm_sim_schedule.proofs.Replayed.{begins, ran_so}
use Rattle.crsm_sim_schedule.proofs.replay.replay_over.Goals as goal

pub run_lines-requires : goal.run_lines-requires
run_lines-requires g c = begins g.S.Simulation.rules g.S.Simulation.stands c.new.result c.new.ensures

pub returns-clause-ran : goal.returns-clause-ran
returns-clause-ran g c = ran_so g.S.Simulation.rules g.S.Simulation.stands c.run_lines.result _ _ _ _ c.run_lines.ensures.ran

pub returns-clause-complete : goal.returns-clause-complete
returns-clause-complete g c = λ exactly.
    let laws : TextLaws = record {
      events = c.events_have_one_text.ensures;
      first = c.first_lines_have_one_text.ensures;
      event_lines = c.spelt_are_lines.ensures.events;
      first_lines = c.spelt_are_lines.ensures.first;
    } in
    let faultless = loop.WhereFaultless (g.I.Source.faults c.args.input.now) (g.I.Source.faults c.run_lines.new.input) (g.O.Sink.faults c.args.output.now) (g.O.Sink.faults c.run_lines.new.output) (loop.IsDone c.run_lines.result) in
    completed laws g.S.Simulation.rules exactly g.S.Simulation.stands c.run_lines.result (g.I.Source.left c.args.input.now) faultless
    (c.run_lines.ensures.complete (exact laws g.S.Simulation.rules exactly g.S.Simulation.stands))

pub returns-clause-too_long : goal.returns-clause-too_long
returns-clause-too_long g c = λ exactly.
    let laws : TextLaws = record {
      events = c.events_have_one_text.ensures;
      first = c.first_lines_have_one_text.ensures;
      event_lines = c.spelt_are_lines.ensures.events;
      first_lines = c.spelt_are_lines.ensures.first;
    } in
    let faultless = loop.WhereFaultless (g.I.Source.faults c.args.input.now) (g.I.Source.faults c.run_lines.new.input) (g.O.Sink.faults c.args.output.now) (g.O.Sink.faults c.run_lines.new.output) (loop.IsTooLong c.run_lines.result) in
    too_long laws g.S.Simulation.rules exactly g.S.Simulation.stands c.run_lines.result (g.I.Source.left c.args.input.now) faultless
    (c.run_lines.ensures.too_long (exact laws g.S.Simulation.rules exactly g.S.Simulation.stands))

pub returns-clause-refused : goal.returns-clause-refused
returns-clause-refused g c = λ exactly.
    let laws : TextLaws = record {
      events = c.events_have_one_text.ensures;
      first = c.first_lines_have_one_text.ensures;
      event_lines = c.spelt_are_lines.ensures.events;
      first_lines = c.spelt_are_lines.ensures.first;
    } in
    let faultless : Type 0 → Type 0 =
    λ P. loop.WhereFaultless (g.I.Source.faults c.args.input.now) (g.I.Source.faults c.run_lines.new.input) (g.O.Sink.faults c.args.output.now) (g.O.Sink.faults c.run_lines.new.output) P in
    refused laws g.S.Simulation.rules exactly g.S.Simulation.stands c.run_lines.result (g.I.Source.left c.args.input.now) faultless (λ A B f says no_read no_write. f (says no_read no_write))
    (c.run_lines.ensures.refused (exact laws g.S.Simulation.rules exactly g.S.Simulation.stands))
