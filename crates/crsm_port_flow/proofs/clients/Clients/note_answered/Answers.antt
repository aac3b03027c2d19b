use Rattle.std.proofs.lemmas.Option.{none-some}
use Rattle.crsm_port_flow.proofs.clients.Clients.note_answered.Goals as goal

pub returns-in_default-clause-answered : goal.returns-in_default-clause-answered
returns-in_default-clause-answered c = λ command names. absurd (none-some command (c.in_default.ensures.only command names))
