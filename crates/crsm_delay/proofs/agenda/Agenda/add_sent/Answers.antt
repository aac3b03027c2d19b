use Rattle.std.proofs.Common.{◌+◌, sym, subst, drop}
use Rattle.crsm_law_pending.specs.Agendas.{LacksPosts}
use Rattle.crsm_law_pending.specs.Posts.{posts}
use Rattle.crsm_delay.specs.Upcoming.{listed, on_paper, timed_of}
use Rattle.crsm_delay.specs.declared.agenda.Agenda.{Agenda}
use Rattle.crsm_delay.proofs.Listing.{line_silent, line_told, lines_end}
use Rattle.crsm_delay.proofs.agenda.Agenda.add_sent.Goals as goal
use Rattle.crsm_delay.proofs.agenda.Agenda.add_sent.Goals.{in-Some+in_ok-add, in_default}

pub loop-line-preserved : goal.loop-line-preserved
loop-line-preserved c = λ es h.
    let before = c.loop-line.invariant es h in
    let now = λ (a : Agenda). LacksPosts c.args.plan.now es (listed a) (posts (drop (c.loop-line.line-index + 1) c.args.lines.now)) c.args.moment in
    elim c.match-post_of.branch [
      | in-Some+in_ok-add w ↦ subst now (sym w.self-is) (line_told c.agendas_go_on.ensures c.args.plan.now c.requires.fits es c.args.moment c.args.lines.now c.loop-line.line-index
          c.line-item.result (on_paper w.in-Some.post) (timed_of w.delivery.result) (listed c.loop-line.self) _ c.loop-line-test.true c.line-item.is w.in-Some.ensures w.delivery.ensures w.in_ok-add.ensures before)
      | in_default w ↦ subst now (sym w.self-is) (line_silent c.agendas_go_on.ensures c.args.plan.now c.requires.fits es c.args.moment c.args.lines.now c.loop-line.line-index
          c.line-item.result (listed c.loop-line.self) c.loop-line-test.true c.line-item.is w.in_default.ensures before)
    ]

pub returns : goal.returns
returns c = λ es h.
    lines_end c.agendas_go_on.ensures c.args.plan.now c.requires.fits es c.args.moment c.args.lines.now c.loop-line.line-index (listed c.loop-line.self) c.loop-line-test.false (c.loop-line.invariant es h)
