use Rattle.crsm_kv.proofs.ClientsLemmas.{place-clients_of}
use Rattle.crsm_kv.proofs.clients.last_of.Goals as goal

pub returns-in-Some-clause-place : goal.returns-in-Some-clause-place
returns-in-Some-clause-place c = place-clients_of c.args.client c.args.clients.now.entries c.in-Some.place c.in-Some.ensures.index
