use Rattle.std.proofs.Common.{IfSome, subst}
use Rattle.crsm_kv.specs.Clients.{clients_of, IsPlaceOf}
use Rattle.crsm_kv.proofs.ClientsLemmas.{kept_at}
use Rattle.crsm_kv.proofs.clients.keep.Goals as goal

pub returns-in-Some-clause-kept : goal.returns-in-Some-clause-kept
returns-in-Some-clause-kept c =
    kept_at c.args.clients.now.entries c.args.client c.in-Some.place c.args.kept
    (subst (λ place. IfSome place (IsPlaceOf c.args.client (clients_of c.args.clients.now.entries))) c.in-Some.is c.requires)
