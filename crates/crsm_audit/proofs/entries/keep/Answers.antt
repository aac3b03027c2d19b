use Rattle.crsm_audit.proofs.KeptEntries.{has_pushed}
use Rattle.crsm_audit.proofs.entries.keep.Goals as goal

pub returns : goal.returns
returns c = (has_pushed c.args.kept.now _ c.args.bytes.now _ c.requires.entries c.requires.entry c.len-place.ensures c.in_ok-push.ensures.ok, tt)
