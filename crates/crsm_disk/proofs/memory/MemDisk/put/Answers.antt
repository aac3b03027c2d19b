use Rattle.std.proofs.Common.{◌≡◌, ◌-◌, ◌+◌, ◌∷◌, ◌++◌, [], ◌∙◌, ap, sym, subst, ◌≤◌, refl, arith, length, List, ℕ}
use Rattle.crsm_port_image.specs.Bytes.{overwritten}
use Rattle.crsm_port_image.specs.Calls.{contents}
use Rattle.crsm_disk.specs.Memory.{Memory}
use Rattle.crsm_disk.specs.Ranges.{unsynced}
use Rattle.crsm_disk.specs.declared.content.Range.{Range}
use Rattle.crsm_disk.specs.declared.past.Past.{Past}
use Rattle.crsm_disk.proofs.memory.MemDisk.put.Goals as goal

pub invariant_of-self : goal.invariant_of-self
invariant_of-self c =
    let i = c.self.invariant in
    let d = c.self.inside in
    let R : Memory → Type 0 = λ m. (c.args.at - length (contents m.first m.calls)) + length c.args.bytes.now ≤ m.room_bytes in
    let fits = subst R (sym c.self.view_is) c.requires.bytes in
    let h : c.saturating_sub-hole.result ≡ c.args.at - length (contents d.past.first d.past.calls) = omega (arith, c.saturating_sub-hole.ensures, c.len.ensures, ap length i.bytes) in
    let room : c.saturating_sub-hole.result + length c.args.bytes.now ≤ d.room_bytes = omega (arith, h, fits) in
    record {
      bytes = c.overwrite.ensures.items ∙ ap (λ (l : List ℕ). overwritten l c.args.at c.args.bytes.now) i.bytes ∙ ap (λ (p : Past). contents p.first p.calls) (sym c.with-self-inside.ensures);
      ranges = c.push_reserved.ensures.items ∙ ap (λ (rs : List Range). rs ++ record { at = c.args.at; count = length c.args.bytes.now } ∷ []) i.ranges ∙ ap (λ (p : Past). unsynced p.calls) (sym c.with-self-inside.ensures);
      place_ranges = omega (arith, i.place_ranges, c.push_reserved.ensures.len, c.push_reserved.ensures.capacity, ap (λ m. m.room_calls) c.self.view_is, c.requires.calls);
      place_bytes = omega (arith, i.place_bytes, c.overwrite.ensures.len, c.overwrite.ensures.capacity, c.saturating_sub-hole.ensures, c.len.ensures, room);
    }

pub returns : goal.returns
returns c =
    let i = c.self.invariant in
    let d = c.self.inside in
    let h : c.saturating_sub-hole.result ≡ c.args.at - length (contents d.past.first d.past.calls) = omega (arith, c.saturating_sub-hole.ensures, c.len.ensures, ap length i.bytes) in
    rw (← c.self.view_is, c.with-self-inside.ensures, h) refl
