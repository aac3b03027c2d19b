use Rattle.crsm_delay.specs.declared.handling.Wanted.{Wanted}
use Rattle.crsm_app.proofs.OtherEnds.{no_audit, no_plan, no_replay, no_replay_mp, no_sheet}
use Rattle.crsm_app.proofs.doing.do_order.Goals as goal

pub returns-in-Replay-clause-log_within : goal.returns-in-Replay-clause-log_within
returns-in-Replay-clause-log_within g c = λ bytes is short. no_replay c.run_replay.result _ _ _ _ c.run_replay.ensures.did

pub returns-in-ReplayNode-clause-log_within : goal.returns-in-ReplayNode-clause-log_within
returns-in-ReplayNode-clause-log_within g c = λ bytes is short. no_sheet c.run_sheet.result _ _ _ _ c.in-ReplayNode.me c.in-ReplayNode.n c.run_sheet.ensures.did

pub returns-in-Audit-clause-log_within : goal.returns-in-Audit-clause-log_within
returns-in-Audit-clause-log_within g c = λ bytes is short. no_audit c.run_audit.result _ _ _ _ c.in-Audit.n c.run_audit.ensures.did

pub returns-in-Delay-clause-log_within : goal.returns-in-Delay-clause-log_within
returns-in-Delay-clause-log_within g c = λ bytes is short. no_plan c.run_delay.result _ _ _ _ Wanted.Schedule c.run_delay.ensures.did

pub returns-in-DelayTimes-clause-log_within : goal.returns-in-DelayTimes-clause-log_within
returns-in-DelayTimes-clause-log_within g c = λ bytes is short. no_plan c.run_delay_times.result _ _ _ _ Wanted.Times c.run_delay_times.ensures.did

pub returns-in-ReplayMp-clause-log_within : goal.returns-in-ReplayMp-clause-log_within
returns-in-ReplayMp-clause-log_within g c = λ bytes is short. no_replay_mp c.run_replay_mp.result _ _ _ _ c.run_replay_mp.ensures.did
