use Rattle.std.proofs.Common.{rules, ◌∙◌}
use Rattle.crsm_mpreplica.proofs.SlotMaps.{insert-last}
use Rattle.crsm_mpreplica.proofs.slots.push_slot.Goals as goal

pub returns-clause-entries : goal.returns-clause-entries
returns-clause-entries g c = c.in_ok-insert.ensures.entries ∙ insert-last c.args.map.now.entries c.args.slot c.args.value (c.is_behind.ensures (search rules))
