use Rattle.crsm_app.proofs.Asking.{is_lost, operates}
use Rattle.crsm_app.proofs.doing.run_operate.Goals as goal

pub returns-clause-did : goal.returns-clause-did
returns-clause-did g c = record { ended = c.operate_command.result; status = c.operate_status.ensures; operates = c.operate_command.ensures }

pub returns-clause-exact : goal.returns-clause-exact
returns-clause-exact g c = operates c.operate_command.result c.operate_status.result c.operate_status.ensures c.args.cluster c.args.to _ _ _ c.operate_command.ensures

pub returns-clause-port_fault : goal.returns-clause-port_fault
returns-clause-port_fault g c = is_lost c.operate_command.result c.operate_status.result c.operate_status.ensures c.args.cluster c.args.to _ _ _ c.operate_command.ensures
