use Rattle.crsm_safety.proofs.Paxos.Worlds.{agree}
use Rattle.crsm_safety.proofs.instances.instances_agree.Goals as goal

pub returns : goal.returns
returns g c spec_of events i d e =
    agree _ spec_of (record {
      choice = c.choice.ensures;
      repeated = c.repeated_answer.ensures;
      voted = c.held_vote.ensures;
      reached = c.one_more_step.ensures.reached;
      chosen = c.one_more_step.ensures.chosen;
      starts = c.proposer.ensures.starts;
      others = c.proposer.ensures.others;
      waits = c.proposer.ensures.waits;
      proposes = c.proposer.ensures.proposes;
      votes = c.proposer.ensures.votes;
      chooses = c.proposer.ensures.chooses;
    }) events i d e
