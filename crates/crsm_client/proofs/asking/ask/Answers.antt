use Rattle.crsm_client.proofs.Completing.{complete, unanswered}
use Rattle.crsm_client.proofs.asking.ask.Goals as goal

pub returns-clause-complete : goal.returns-clause-complete
returns-clause-complete g c = complete 0 c.args.to c.args.command.now c.args.turns c.args.resend _ _ c.ask_in.result c.ask_in.ensures

pub returns-clause-unanswered : goal.returns-clause-unanswered
returns-clause-unanswered g c = unanswered 0 c.args.to c.args.command.now c.args.turns c.args.resend _ _ c.ask_in.result c.ask_in.ensures
