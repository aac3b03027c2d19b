use Rattle.std.proofs.Common.{◌≡◌, ◌∙◌, ap, sym, subst, ℕ, Some, None}
use Rattle.std.specs.Prelude.{slice_get}
use Rattle.crsm_spec.specs.World.{Site, is_up}
use Rattle.crsm_world.specs.Several.{all_gone, AreFor}
use Rattle.crsm_world.specs.Machines.{up_in}
use Rattle.crsm_world.proofs.Reasons.{empty_is}
use Rattle.crsm_world.proofs.Sites.{up_got, up_some}
use Rattle.crsm_world.proofs.Turns.{up_found}
use Rattle.crsm_world.proofs.Leading.{leads_as}
use Rattle.crsm_world.proofs.Series.{nothing_gone, receiver_for}
use Rattle.crsm_world.proofs.world.World.deliver_together.Goals as goal

pub returns-in_default : goal.returns-in_default
returns-in_default c v k r h e f =
    leads_as _ _ _ _ (ap (λ is. all_gone c.args.reading is v) (empty_is c.args.numbers.now c.in_default.ensures.cases)) (nothing_gone v c.args.reading _ _ h c.new.ensures)

pub returns-in_default-receiver : goal.returns-in_default-receiver
returns-in_default-receiver c v k r h e f =
    let one = (subst (AreFor k v.packets) c.in-Some.ensures.cases.0 f).0 in
    let g = c.receiver.ensures v.packets v.bytes h.network in
    let i = receiver_for k v.packets c.in-Some.first.now one in
    let j = c.in_default-receiver.is in cc

pub returns-in_default-up : goal.returns-in_default-up
unfolding is_up
returns-in_default-up c v k r h e f =
    let one = (subst (AreFor k v.packets) c.in-Some.ensures.cases.0 f).0 in
    let g = c.receiver.ensures v.packets v.bytes h.network in
    let i = receiver_for k v.packets c.in-Some.first.now one in
    let j = c.in-Some-receiver.is in
    let to : c.in-Some-receiver.to ≡ k = cc in
    let here : Some k ≡ up_in v.sites k = up_some v.sites k (up_got v.sites k (Site.Up r) e) in
    let none : None ≡ up_in v.sites k = sym c.in_default-up.is ∙ c.up.ensures.up v.n v.sites h.sites ∙ ap (up_in v.sites) (c.from.ensures ∙ to) in cc

pub returns : goal.returns
returns c v k r h e f =
    let one = (subst (AreFor k v.packets) c.in-Some.ensures.cases.0 f).0 in
    let g = c.receiver.ensures v.packets v.bytes h.network in
    let i = receiver_for k v.packets c.in-Some.first.now one in
    let j = c.in-Some-receiver.is in
    let to : c.in-Some-receiver.to ≡ k = cc in
    let u = up_found v.sites c.from.result c.in-Some-up.k (sym c.in-Some-up.is ∙ c.up.ensures.up v.n v.sites h.sites) in
    let same : k ≡ c.in-Some-up.k = sym (u.number ∙ c.from.ensures ∙ to) in
    c.in_ok-lines.ensures v r h (subst (λ (m : ℕ). slice_get v.sites m ≡ Some (Site.Up r)) same e) (subst (λ (m : ℕ). AreFor m v.packets c.args.numbers.now) same f)
