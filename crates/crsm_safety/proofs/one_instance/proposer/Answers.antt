use Rattle.crsm_safety.proofs.Paxos.Proposers.{starts, others, waits, proposes, votes, chooses}
use Rattle.crsm_safety.proofs.one_instance.proposer.Goals as goal

pub returns-clause-starts : goal.returns-clause-starts
returns-clause-starts g c spec = starts _ spec

pub returns-clause-others : goal.returns-clause-others
returns-clause-others g c spec = others _ spec

pub returns-clause-waits : goal.returns-clause-waits
returns-clause-waits g c spec = waits _ spec

pub returns-clause-proposes : goal.returns-clause-proposes
returns-clause-proposes g c spec = proposes _ spec

pub returns-clause-votes : goal.returns-clause-votes
returns-clause-votes g c spec = votes _ spec

pub returns-clause-chooses : goal.returns-clause-chooses
returns-clause-chooses g c spec = chooses _ spec
