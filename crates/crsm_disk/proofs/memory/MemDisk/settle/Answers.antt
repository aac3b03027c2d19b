use Rattle.std.proofs.Common.{◌≡◌, ◌-◌, ◌∙◌, ap, sym, refl, arith}
use Rattle.crsm_port_image.specs.Calls.{contents}
use Rattle.crsm_disk.specs.Ranges.{unsynced}
use Rattle.crsm_disk.specs.declared.past.Past.{Past}
use Rattle.crsm_disk.proofs.memory.MemDisk.settle.Goals as goal

pub invariant_of-self : goal.invariant_of-self
invariant_of-self c =
    let i = c.self.invariant in
    record {
      bytes = i.bytes ∙ ap (λ (p : Past). contents p.first p.calls) (sym c.with-self-inside.ensures);
      ranges = c.clear.ensures.items ∙ ap (λ (p : Past). unsynced p.calls) (sym c.with-self-inside.ensures);
      place_ranges = omega (arith, i.place_ranges, c.clear.ensures.len, c.clear.ensures.capacity, ap (λ m. m.room_calls) c.self.view_is, c.requires);
      place_bytes = i.place_bytes;
    }

pub returns : goal.returns
returns c =
    let z : c.self.inside.room_bytes - 0 ≡ c.self.inside.room_bytes = omega arith in
    rw (← c.self.view_is, c.with-self-inside.ensures, z) refl
