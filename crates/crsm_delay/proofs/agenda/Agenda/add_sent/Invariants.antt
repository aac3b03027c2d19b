use Rattle.std.proofs.Common.{List, drop}
use Rattle.crsm_law_pending.specs.Agendas.{LacksPosts}
use Rattle.crsm_law_pending.specs.Posts.{posts}
use Rattle.crsm_spec_plan.specs.Timelines.{Timed}
use Rattle.crsm_delay.specs.Upcoming.{listed}
use Rattle.crsm_delay.proofs.agenda.Agenda.add_sent.Given as goal

abbrev pub invariant-loop-line : goal.invariant-loop-line
invariant-loop-line l =
    (es : List Timed) → LacksPosts l.plan es (listed l.initial.self) (posts l.lines) l.moment → LacksPosts l.plan es (listed l.self) (posts (drop l.line-index l.lines)) l.moment
