use Rattle.crsm_audit.proofs.KeptEntries.{body_there}
use Rattle.crsm_audit.proofs.entries.body_at.Goals as goal

pub returns-clause-value : goal.returns-clause-value
returns-clause-value c = body_there c.args.kept.now c.args.places.now c.args.index c.in-Some.bytes.now c.requires.index c.in-Some.ensures
