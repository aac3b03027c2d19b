use Rattle.crsm_world.specs.Schedule.{acts_of}
use Rattle.crsm_world.proofs.Schedules.{shows_all}
use Rattle.crsm_app.proofs.command.schedules_are_safe.Goals as goal

pub returns-clause-shows : goal.returns-clause-shows
returns-clause-shows c = λ s. shows_all s

pub returns-clause-agreement : goal.returns-clause-agreement
returns-clause-agreement c = λ s good. (c.runs_are_safe.ensures s.replicas good.size.0 good.size.1 (acts_of s) good.possible).0

pub returns-clause-answers : goal.returns-clause-answers
returns-clause-answers c = λ s good. (c.runs_are_safe.ensures s.replicas good.size.0 good.size.1 (acts_of s) good.possible).1

pub returns-clause-real_time : goal.returns-clause-real_time
returns-clause-real_time c = λ s good. (c.runs_are_safe.ensures s.replicas good.size.0 good.size.1 (acts_of s) good.possible).2

pub returns-clause-durable : goal.returns-clause-durable
returns-clause-durable c = λ s good. c.answered_are_kept.ensures s.replicas (acts_of s) good.size.1 good.possible

pub returns-clause-decisions : goal.returns-clause-decisions
returns-clause-decisions c = λ s good. c.decisions_always_agree.ensures s.replicas (acts_of s) good.size.1 good.possible

pub returns-clause-bounded : goal.returns-clause-bounded
returns-clause-bounded c = λ s good. c.rounds_are_bounded.ensures s.replicas good.size.0 good.size.1 (acts_of s) good.possible
