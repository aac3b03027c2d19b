use Rattle.std.proofs.Common.{◌∷◌, ◌∙◌, ap}
use Rattle.crsm_port_image.specs.Calls.{synced}
use Rattle.crsm_disk.specs.Memory.{Memory}
use Rattle.crsm_disk.proofs.Answered.{sync_goes}
use Rattle.crsm_disk.proofs.memory.MemDiskDisk.sync.Goals as goal

pub returns-clause-crash : goal.returns-clause-crash
returns-clause-crash c _ =
    let first = ap (λ (m : Memory). m.first) c.settle.ensures ∙ ap (λ (m : Memory). m.first) c.in_ok-take_room.ensures.ok.0 ∙ ap (λ (m : Memory). m.first) c.begin.ensures.same in
    let calls = ap (λ (m : Memory). m.calls) c.settle.ensures ∙ ap (λ (m : Memory). synced ∷ m.calls) c.in_ok-take_room.ensures.ok.0 ∙ ap (λ (m : Memory). synced ∷ m.calls) c.begin.ensures.same in
    sync_goes c.args.self.now c.settle.new.self first calls
