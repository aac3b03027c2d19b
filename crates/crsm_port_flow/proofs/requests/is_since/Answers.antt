use Rattle.std.proofs.Common.{◌∙◌, ap, sym}
use Rattle.std.specs.Option.{option_copied}
use Rattle.crsm_port_flow.proofs.requests.is_since.Goals as goal

pub returns-in-Some : goal.returns-in-Some
returns-in-Some c = λ yes. (c.in-Some.since.now, sym c.get.ensures.value ∙ ap option_copied c.in-Some.is, c.is_recent.ensures.0 yes)
