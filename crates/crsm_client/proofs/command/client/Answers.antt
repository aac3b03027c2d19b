use Rattle.std.proofs.Common.{Ok, Err}
use Rattle.crsm_client.specs.declared.error.AskError.TheVariants.{NoAnswer}
use Rattle.crsm_client.proofs.Completing.{complete, unanswered}
use Rattle.crsm_client.proofs.command.client.Goals as goal

pub returns-in-Ok-clause-no_answer : goal.returns-in-Ok-clause-no_answer
returns-in-Ok-clause-no_answer g c = λ t u is at none no_fault no_loss.
    let order = c.args.order.now in
    absurd (unanswered c.args.cluster order.to order.command order.turns 100 _ _ (Ok c.in-Ok.outcome) (rw c.in-Ok.is at c.ask_in.ensures) t u is at none no_fault no_loss)

pub returns-in-Err-NoAnswer-clause-complete : goal.returns-in-Err-NoAnswer-clause-complete
returns-in-Err-NoAnswer-clause-complete g c = λ t u is at took no_fault no_loss none.
    let order = c.args.order.now in
    complete c.args.cluster order.to order.command order.turns 100 _ _ (Err NoAnswer) (rw (c.in-Err-NoAnswer.is, c.in-Err-NoAnswer.field-0-is) at c.ask_in.ensures) t u is at took no_fault no_loss
