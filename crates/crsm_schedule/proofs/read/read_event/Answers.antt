use Rattle.std.proofs.Common.{◌≡◌, ◌++◌, codes, Some}
use Rattle.std.proofs.lemmas.Slice.Eq.{strip_prefix_is}
use Rattle.std.proofs.lemmas.Bool.Decides.{Decides-eqb}
use Rattle.crsm_schedule.proofs.read.read_event.Goals as goal

pub returns-in-Some-strip_prefix-5-clause-found : goal.returns-in-Some-strip_prefix-5-clause-found
returns-in-Some-strip_prefix-5-clause-found c =
    let whole : c.args.line.now ≡ codes "cut " ++ c.in-Some-strip_prefix-5.rest.now = strip_prefix_is Decides-eqb c.args.line.now (codes "cut ") (Some c.in-Some-strip_prefix-5.rest) c.in-Some-strip_prefix-5.ensures.cases in
    rw whole c.cut_of.ensures.found
