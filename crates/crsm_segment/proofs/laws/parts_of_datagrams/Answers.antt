use Rattle.crsm_segment.proofs.Bridge.{sized_as_spelt, parts_after, whole_after}
use Rattle.crsm_segment.proofs.laws.parts_of_datagrams.Goals as goal

pub returns-clause-sized : goal.returns-clause-sized
returns-clause-sized c = sized_as_spelt

pub returns-clause-taken : goal.returns-clause-taken
returns-clause-taken c = parts_after

pub returns-clause-whole : goal.returns-clause-whole
returns-clause-whole c = whole_after
