-- The parameters of a task on a lock.
use Rattle.crsm_lease.specs.declared.rule.Action.{Action}
use Rattle.crsm_cmd_lock.specs.declared.command.LockOrder.{LockOrder}
use Rattle.crsm_text_words.specs.declared.order.LockAction.{LockAction}
use Rattle.crsm_text_words.specs.declared.order.LockTask.{LockTask}

abbrev pub action_of : LockAction → Action
action_of LockAction.Take = Action.Take
action_of LockAction.Give = Action.Give
action_of LockAction.Break = Action.Break

abbrev pub lock_order : LockTask → LockOrder
lock_order t = record { to = t.to; turns = t.turns; client = t.client; number = t.number; key = t.key; action = action_of t.action }
