-- What holds of a schedule that was run.
use Rattle.std.proofs.Common.{ℕ, List, Option, Some, None}
use Rattle.crsm_port_lines.specs.declared.InputEnd.{InputEnd}
use Rattle.crsm_sim_schedule.specs.Run as replay
use Rattle.crsm_sim_schedule.specs.Schedules as read
use Rattle.crsm_sim_schedule.specs.State.{IsGood}
use Rattle.crsm_sim_schedule.specs.declared.Cause.{Cause}
use Rattle.crsm_mpspec.specs.Safe.{IsSafe}
use Rattle.crsm_mpworld.specs.Schedule.{Schedule, IsSchedule, acts_of}
use Rattle.crsm_mpreplay.specs.Laws.{IsLawful, AreLawful}
use Rattle.crsm_mpreplay.specs.Rules.{leader_rules, of_leader}
use Rattle.crsm_mpreplay.specs.Run.{Ran}
use Rattle.crsm_mpreplay.proofs.Schedules.{shows_all}

lawful : IsSafe → (s : Schedule) → IsSchedule s → IsLawful s
lawful safe s good =
    let laws = safe s.replicas good.size.0 good.size.1 (acts_of s) good.possible in
    record { shows = shows_all s; agreement = laws.0; answers = laws.1; real_time = laws.2 }

are_lawful : IsSafe → (r : Option read.Schedule) → IsGood leader_rules r → AreLawful r
are_lawful safe None good = tt
are_lawful safe (Some s) good = lawful safe (of_leader s) good

pub ran_so : IsSafe → (result : InputEnd Cause) (b a d w : Option (List ℕ)) → replay.Ran leader_rules result b a d w → Ran result b a d w
unfolding replay.Ran Ran
ran_so safe InputEnd.Done b a d w ran = record { ran = ran; lawful = lawful safe (of_leader ran.schedule) ran.good }
ran_so safe (InputEnd.BadLine line why) b a d w ran = record { ran = ran; lawful = are_lawful safe ran.read ran.good }
ran_so safe InputEnd.ReadFault b a d w ran = record { ran = ran; lawful = are_lawful safe ran.read ran.good }
ran_so safe InputEnd.WriteFault b a d w ran = record { ran = ran; lawful = are_lawful safe ran.read ran.good }
ran_so safe InputEnd.NoMemory b a d w ran = record { ran = ran; lawful = are_lawful safe ran.read ran.good }
ran_so safe InputEnd.InputTooLong b a d w ran = record { ran = ran; lawful = are_lawful safe ran.read ran.good }
