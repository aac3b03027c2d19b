use Rattle.std.proofs.Common.{◌∙◌, ap, length, refl, Err}
use Rattle.std.proofs.lemmas.Grind.{not_there}
use Rattle.crsm_shell.specs.Words.{disk_of, peers_of}
use Rattle.crsm_sim_machine.proofs.Disks.{plan_of, well_after}
use Rattle.crsm_sim_machine.proofs.Sendings.{no_sends, sends_all}
use Rattle.crsm_sim_machine.proofs.Ups.{no_stop, not_failed}
use Rattle.crsm_sim_machine.proofs.turn.flush.Goals as goal

pub returns-in-Ok-clause-stands : goal.returns-in-Ok-clause-stands
returns-in-Ok-clause-stands c me n kept r steps up =
    let p = plan_of (disk_of c.args.shell.now) in
    record {
      is_me = up.is_me;
      began = up.began;
      stands = c.in-Ok.ensures.stands kept r steps up.stands;
      peers = ap length c.in-Ok.ensures.peers ∙ up.peers;
      fits = no_sends;
      well = well_after _ p (disk_of c.flush.new.self) up.well (c.in-Ok.ensures.plan kept r steps up.stands refl p refl);
    }

pub returns-in-Ok-clause-sent : goal.returns-in-Ok-clause-sent
returns-in-Ok-clause-sent c me n kept r steps up well =
    sends_all c.renew.new.port c.flush.new.port c.len-first.result (peers_of c.args.shell.now) steps up.peers up.fits (c.renew.ensures well)
    (c.len-first.ensures ∙ ap length c.sent.ensures) (c.in-Ok.ensures.sent kept r steps up.stands)

-- ---- what it does not answer

pub unreachable-requires : goal.unreachable-requires
unreachable-requires c =
    not_there c.requires (λ up.
    let h = up.2 in
    not_failed c.args.shell.now h.kept h.replica h.steps h.is.stands (c.in-Err-Failed.ensures.failed.0 (ap Err c.in-Err-Failed.field-0-is)))

pub unreachable-requires-in-Err-PortFault : goal.unreachable-requires-in-Err-PortFault
unreachable-requires-in-Err-PortFault c = c.in-Err-PortFault.ensures.no_port_fault (ap Err c.in-Err-PortFault.field-0-is)

pub unreachable-requires-in-Err-DiskFault : goal.unreachable-requires-in-Err-DiskFault
unreachable-requires-in-Err-DiskFault c =
    not_there c.requires (λ up.
    let h = up.2 in
    no_stop c.args.shell.now c.flush.new.self h.kept h.replica h.steps h.is.well
    (c.in-Err-DiskFault.ensures.stopped h.kept h.replica h.steps h.is.stands (ap Err c.in-Err-DiskFault.field-0-is)))
