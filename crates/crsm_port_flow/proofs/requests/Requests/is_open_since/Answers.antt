use Rattle.std.proofs.Common.{◌∙◌, Some, ap, sym}
use Rattle.std.specs.Option.{option_copied}
use Rattle.std.proofs.lemmas.Bool.{eqb-true}
use Rattle.crsm_port_flow.proofs.requests.Requests.is_open_since.Goals as goal

pub returns-in-Some : goal.returns-in-Some
returns-in-Some c = λ same. sym c.get.ensures.value ∙ ap option_copied c.in-Some.is ∙ ap Some (eqb-true c.in-Some.since.now c.args.reading same)
