use Rattle.std.proofs.Common.{◌≡◌, ℕ, ◌++◌, [], ◌∷◌, ◌∙◌, ap, length, subst, Err}
use Rattle.std.proofs.lemmas.Grind.{not_there}
use Rattle.crsm_disk.specs.Memory.{good_left}
use Rattle.crsm_ledger.specs.Recovered.{with_records}
use Rattle.crsm_spec.specs.Node.{Turn, turn}
use Rattle.crsm_shell.specs.Taking.{turn_of as turn_taken}
use Rattle.crsm_shell.specs.Words.{buffer_of}
use Rattle.crsm_sim_machine.specs.Arriving.{turn_of}
use Rattle.crsm_sim_machine.specs.Outcomes.{Makes}
use Rattle.crsm_sim_machine.specs.States.{IsUpAs}
use Rattle.crsm_sim_machine.proofs.Sendings.{fits_taken}
use Rattle.crsm_sim_machine.proofs.Turns.{turn_arrives}
use Rattle.crsm_sim_machine.proofs.Ups.{not_disk_fault, not_failed, not_full, not_port_fault}
use Rattle.crsm_sim_machine.proofs.turn.take.Goals as goal

pub returns-in-Ok-clause-stands : goal.returns-in-Ok-clause-stands
returns-in-Ok-clause-stands c me n kept r steps up =
    let t = c.in-Ok.turned in
    let made = c.in-Ok.ensures.stands kept r steps up.stands in
    let reading : t.reading ≡ c.args.reading = c.in-Ok.ensures.clock.is in
    let came : turn_taken (buffer_of c.take.new.self) t.taken ≡ turn_of c.args.arrival =
    turn_arrives c.args.arrival c.wanted-what.result.1 c.take.new.port c.wanted-what.result.0 (buffer_of c.take.new.self) t.taken c.wanted-what.ensures c.in-Ok.ensures.port in
    let same : (turn_taken (buffer_of c.take.new.self) t.taken, t.reading) ≡ (turn_of c.args.arrival, c.args.reading) =
    ap (λ (x : Turn). (x, t.reading)) came ∙ ap (λ (x : ℕ). (turn_of c.args.arrival, x)) reading in
    let P : Turn × ℕ → Type 0 = λ q.
    Makes (record { batch = t.batch; size = t.size }) (turn r q) × ((turn r q).replica.log ≡ with_records r.log (turn r q).batch)
    × IsUpAs me n c.take.new.self kept (turn r q).replica (steps ++ turn r q ∷ []) in
    subst P same (
      record { batch = made.answers; size = made.size },
      made.log,
      record {
        is_me = made.me ∙ up.is_me;
        began = made.n ∙ up.began;
        stands = made.stands;
        peers = ap length c.take.ensures.peers ∙ up.peers;
        fits = fits_taken steps (turn r (turn_taken (buffer_of c.take.new.self) t.taken, t.reading)) t.batch up.fits made.answers;
        well = ap good_left c.take.ensures.disk ∙ up.well;
      },
    )

-- ---- what it does not answer

pub unreachable-requires : goal.unreachable-requires
unreachable-requires c =
    not_there c.requires (λ up.
    let h = up.2 in
    not_failed c.args.shell.now h.kept h.replica h.steps h.is.stands (c.in-Err-Failed.ensures.failed.0 (ap Err c.in-Err-Failed.field-0-is)))

pub unreachable-requires-in-Err-PortFault : goal.unreachable-requires-in-Err-PortFault
unreachable-requires-in-Err-PortFault c =
    not_port_fault c.wanted-what.result.1 c.take.new.port c.wanted-what.result.0 (buffer_of c.take.new.self) c.in-Err-PortFault.field-0 c.in-Err-PortFault.ensures.port c.in-Err-PortFault.field-0-is

pub unreachable-requires-in-Err-DiskFault : goal.unreachable-requires-in-Err-DiskFault
unreachable-requires-in-Err-DiskFault c =
    not_disk_fault c.wanted-what.result.1 c.take.new.port c.wanted-what.result.0 (buffer_of c.take.new.self) c.in-Err-DiskFault.field-0 c.in-Err-DiskFault.ensures.port c.in-Err-DiskFault.field-0-is

pub unreachable-requires-in-Err-LogFull : goal.unreachable-requires-in-Err-LogFull
unreachable-requires-in-Err-LogFull c =
    not_full c.wanted-what.result.1 c.take.new.port c.wanted-what.result.0 (buffer_of c.take.new.self) c.in-Err-LogFull.field-0 c.in-Err-LogFull.ensures.port c.in-Err-LogFull.field-0-is
