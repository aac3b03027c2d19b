use Rattle.std.proofs.Common.{rules}
use Rattle.crsm_cmd_lock.proofs.Following.{asked_fits}
use Rattle.crsm_cmd_lock.proofs.learning.follow.Goals as goal

pub request-requires : goal.request-requires
request-requires g c = asked_fits c.locks_have_one_value.ensures.bytes c.args.order.now c.args.op c.requires.key (search rules) c.requires.number c.requires.asked c.requires.cas

pub after_cas-requires : goal.after_cas-requires
after_cas-requires g c = (c.args.order.now.action, c.args.order.now.client, c.requires.asked)
