use Rattle.std.proofs.Common.{inl}
use Rattle.crsm_delay.specs.Upcoming.{listed}
use Rattle.crsm_delay.proofs.agenda.Agenda.add_tick.Goals as goal

pub returns-then-k-plan : goal.returns-then-k-plan
returns-then-k-plan c = c.agendas_begin.ensures.no_tick c.args.plan.now c.args.k (listed c.args.self.now) (inl c.if-k-plan.true)
