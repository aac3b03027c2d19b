use Rattle.std.proofs.Common.{◌+◌, []}
use Rattle.crsm_law_pending.specs.Agendas.{IsPending}
use Rattle.crsm_delay.specs.Upcoming.{listed}
use Rattle.crsm_delay.proofs.agenda.Agenda.new.Given as goal

abbrev pub invariant-loop-k : goal.invariant-loop-k
invariant-loop-k l = IsPending l.plan [] (1 + l.k) (listed l.agenda)
