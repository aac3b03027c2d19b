use Rattle.std.proofs.Common.{sym, subst, ◌≡◌, ◌∙◌, refl}
use Rattle.std.proofs.lemmas.List.{with_items_is}
use Rattle.crsm_port_image.proofs.Painted.{image_is}
use Rattle.crsm_port_image.specs.Image.{IsImage, image_of}
use Rattle.crsm_disk.specs.Memory.{Memory}
use Rattle.crsm_disk.proofs.Painted.{painted_is_image}
use Rattle.crsm_disk.proofs.memory.MemDisk.image.Goals as goal

pub returns-clause-exact : goal.returns-clause-exact
returns-clause-exact c =
    let i = c.self.invariant in
    let d = c.self.inside in
    let copy : c.deref_mut.result.now ≡ d.bytes.items = c.deref_mut.ensures.value ∙ c.in_ok-bytes.ensures.items ∙ c.deref.ensures.value in
    let painted : c.paint.new.image ≡ image_of d.past.first d.past.calls d.fill =
    c.paint.ensures ∙ painted_is_image d.past.first c.deref_mut.result.now d.past.calls c.deref-2.result.now d.fill (copy ∙ i.bytes) (c.deref-2.ensures.value ∙ i.ranges) in
    let held = with_items_is c.in_ok-bytes.bytes c.paint.new.image (c.paint.auto.image ∙ c.deref_mut.ensures.len) in
    let first_is = c.deref-3.ensures.value ∙ held ∙ painted in
    rw (← c.self.view_is, c.before-past.ensures, first_is, c.in_ok-new.ensures) refl

pub returns-clause-one : goal.returns-clause-one
returns-clause-one c =
    let P : Memory → Type 0 = λ d. IsImage c.args.self.now.first c.args.self.now.calls d.first in
    subst P (sym (returns-clause-exact c)) (image_is c.args.self.now.first c.args.self.now.calls c.args.self.now.fill)
