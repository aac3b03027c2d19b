use Rattle.crsm_app.proofs.MpSchedules.{completes, did_so, is_done, is_long, is_no_disk, is_no_port, is_read_fault, is_too_long, is_write_fault, refuses}
use Rattle.crsm_app.proofs.doing.run_replay_mp.Goals as goal

pub returns-clause-did : goal.returns-clause-did
returns-clause-did g c = did_so c.replay_mp.result c.replay_mp_status.result c.replay_mp_status.ensures _ _ _ _ c.replay_mp.ensures.ran

pub returns-clause-read_fault : goal.returns-clause-read_fault
returns-clause-read_fault g c = λ e. c.replay_mp.ensures.read_fault (is_read_fault c.replay_mp.result c.replay_mp_status.result c.replay_mp_status.ensures e)

pub returns-clause-write_fault : goal.returns-clause-write_fault
returns-clause-write_fault g c = λ e. c.replay_mp.ensures.write_fault (is_write_fault c.replay_mp.result c.replay_mp_status.result c.replay_mp_status.ensures e)

pub returns-clause-exact : goal.returns-clause-exact
returns-clause-exact g c = λ no_read no_write. record {
  complete = λ s good is short. completes c.replay_mp.result c.replay_mp_status.result c.replay_mp_status.ensures (c.replay_mp.ensures.complete s good is short no_read no_write);
  refused = λ read text more cause good is bad short.
      refuses c.replay_mp.result c.replay_mp_status.result c.replay_mp_status.ensures _ cause (c.replay_mp.ensures.refused read text more cause good is bad short no_read no_write);
  too_long = λ read rest more good lacks short long some is.
      is_too_long c.replay_mp.result c.replay_mp_status.result c.replay_mp_status.ensures (c.replay_mp.ensures.too_long read rest more good lacks short long some is no_read no_write);
}

pub returns-clause-limit : goal.returns-clause-limit
returns-clause-limit g c = λ bytes is long e. c.replay_mp.ensures.limit bytes is long (is_done c.replay_mp.result c.replay_mp_status.result c.replay_mp_status.ensures e)

pub returns-clause-within : goal.returns-clause-within
returns-clause-within g c = λ bytes is short e. c.replay_mp.ensures.within bytes is short (is_long c.replay_mp.result c.replay_mp_status.result c.replay_mp_status.ensures e)

pub returns-clause-no_port : goal.returns-clause-no_port
returns-clause-no_port g c = is_no_port c.replay_mp.result c.replay_mp_status.result c.replay_mp_status.ensures

pub returns-clause-no_disk : goal.returns-clause-no_disk
returns-clause-no_disk g c = is_no_disk c.replay_mp.result c.replay_mp_status.result c.replay_mp_status.ensures
