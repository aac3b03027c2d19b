use Rattle.crsm_sim_schedule.proofs.Lines.{schedules_told}
use Rattle.crsm_sim_schedule.proofs.laws.schedules_are_one.Goals as goal

pub returns : goal.returns
returns c r s fits gits same = schedules_told (record {
  events = c.events_have_one_text.ensures;
  first = c.first_lines_have_one_text.ensures;
  event_lines = c.spelt_are_lines.ensures.events;
  first_lines = c.spelt_are_lines.ensures.first;
}) r s fits gits same
