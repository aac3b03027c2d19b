use Rattle.std.proofs.Common.{◌≡◌, ◌-◌, ◌∙◌, ap, sym, refl, arith, take}
use Rattle.crsm_port_image.specs.Calls.{contents}
use Rattle.crsm_disk.specs.Ranges.{unsynced}
use Rattle.crsm_disk.specs.declared.past.Past.{Past}
use Rattle.crsm_disk.proofs.memory.MemDisk.shorten.Goals as goal

pub invariant_of-self : goal.invariant_of-self
invariant_of-self c =
    let i = c.self.invariant in
    record {
      bytes = c.truncate.ensures.items ∙ ap (take c.args.len) i.bytes ∙ ap (λ (p : Past). contents p.first p.calls) (sym c.with-self-inside.ensures);
      ranges = i.ranges ∙ ap (λ (p : Past). unsynced p.calls) (sym c.with-self-inside.ensures);
      place_ranges = omega (arith, i.place_ranges, ap (λ m. m.room_calls) c.self.view_is, c.requires);
      place_bytes = omega (arith, i.place_bytes, c.truncate.ensures.len, c.truncate.ensures.capacity);
    }

pub returns : goal.returns
returns c =
    let z : c.self.inside.room_bytes - 0 ≡ c.self.inside.room_bytes = omega arith in
    rw (← c.self.view_is, c.with-self-inside.ensures, z) refl
