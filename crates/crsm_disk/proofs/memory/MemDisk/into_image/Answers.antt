use Rattle.std.proofs.Common.{◌≡◌, sym, subst, ◌∙◌, ap, refl, arith}
use Rattle.std.proofs.lemmas.List.{with_items_is}
use Rattle.crsm_port_image.specs.Calls.{contents}
use Rattle.crsm_port_image.specs.Image.{IsImage, image_of}
use Rattle.crsm_port_image.proofs.Painted.{image_is}
use Rattle.crsm_disk.specs.Memory.{Memory}
use Rattle.crsm_disk.specs.Ranges.{unsynced}
use Rattle.crsm_disk.specs.declared.past.Past.{Past}
use Rattle.crsm_disk.proofs.Painted.{painted_is_image}
use Rattle.crsm_disk.proofs.memory.MemDisk.into_image.Goals as goal

pub invariant_of-disk : goal.invariant_of-disk
invariant_of-disk c =
    let i = c.disk.invariant in
    record {
      bytes = sym (ap (λ (p : Past). contents p.first p.calls) c.before-disk-inside.ensures ∙ c.deref-2.ensures.value);
      ranges = c.clear.ensures.items ∙ ap (λ (p : Past). unsynced p.calls) (sym c.before-disk-inside.ensures);
      place_ranges = omega (arith, c.clear.ensures.len);
      place_bytes = omega (arith, i.place_bytes);
    }

pub returns-clause-exact : goal.returns-clause-exact
returns-clause-exact c =
    let i = c.disk.invariant in
    let d = c.disk.inside in
    let painted : c.paint.new.image ≡ image_of d.past.first d.past.calls d.fill =
    c.paint.ensures ∙ painted_is_image d.past.first c.deref_mut.result.now d.past.calls c.deref.result.now d.fill (c.deref_mut.ensures.value ∙ i.bytes) (c.deref.ensures.value ∙ i.ranges) in
    let held = with_items_is d.bytes c.paint.new.image (c.paint.auto.image ∙ c.deref_mut.ensures.len) in
    let first_is = c.deref-2.ensures.value ∙ held ∙ painted in
    rw (← c.disk.view_is, c.before-disk-inside.ensures, first_is, c.in_ok-disk-inside.ensures) refl

pub returns-clause-one : goal.returns-clause-one
returns-clause-one c =
    let P : Memory → Type 0 = λ d. IsImage c.args.self.first c.args.self.calls d.first in
    subst P (sym (returns-clause-exact c)) (image_is c.args.self.first c.args.self.calls c.args.self.fill)
