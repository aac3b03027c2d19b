use Rattle.std.proofs.Common.{◌∙◌, ◌++◌, ◌∷◌, [], sym, ap}
use Rattle.std.specs.Prelude.{codes}
use Rattle.crsm_schedule.specs.Grammar.{single_text}
use Rattle.crsm_delay.specs.Upcoming.{spelt_of}
use Rattle.crsm_delay.specs.declared.upcoming.UpcomingKind.{UpcomingKind}
use Rattle.crsm_delay.proofs.Upcomings.{request_line}
use Rattle.crsm_delay.proofs.upcoming.Upcoming.push_to.Goals as goal

pub returns-in_ok-append-in-Request : goal.returns-in_ok-append-in-Request
returns-in_ok-append-in-Request c =
    c.in_ok-append-in-Request.ensures.ok
    ∙ ap (λ t. t ++ codes " put 61 62\n") c.in_ok-push_named-in-Request.ensures
    ∙ request_line c.args.text.now c.in-Request.replica c.in-Request.reading
    ∙ ap (λ (k : UpcomingKind). c.args.text.now ++ (single_text (spelt_of k) ++ 10 ∷ [])) (sym c.in-Request.is)
