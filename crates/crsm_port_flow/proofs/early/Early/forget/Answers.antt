use Rattle.std.proofs.Common.{◌≡◌, Option, List, Some, None, arith, refl, slice_index_or, subst, sym}
use Rattle.crsm_port_flow.proofs.Earlies.{set_none}
use Rattle.crsm_port_flow.proofs.Pasts.{all_gone, loses_more, none_more, none_still}
use Rattle.crsm_port_flow.specs.Early.{LosesBelow}
use Rattle.crsm_port_flow.specs.declared.early.Frame.{Frame}
use Rattle.crsm_port_flow.proofs.early.Early.forget.Goals as goal
use Rattle.crsm_port_flow.proofs.early.Early.forget.Goals.{in-Some, in_default}

pub loop-number-preserved : goal.loop-number-preserved
loop-number-preserved c =
    let inv = c.loop-number.invariant in
    let of = c.args.of in
    let least = c.args.least in
    let old = c.loop-number.self.frames.items in
    let new = c.take_below.new.frames.items in
    elim c.match-take_below.branch [
      | in-Some w ↦
          let gone = w.in-Some.ensures.gone refl in
          record {
            only = λ k f at. inv.only k f (set_none old c.place_of.result k f (subst (λ (xs : List (Option Frame)). slice_index_or xs k None ≡ Some f) gone at));
            links = inv.links;
            lost = loses_more of least c.args.self.now.frames.items old new c.place_of.result gone (w.in-Some.ensures.was refl) inv.lost;
            gone = none_more of least old new c.place_of.result c.loop-number.number c.place_of.ensures.place (omega (arith, c.place_of.ensures.within, c.loop-number.self.wide)) gone inv.gone;
          }
      | in_default w ↦
          let same = w.in_default.ensures.none refl in
          record {
            only = λ k f at. inv.only k f (subst (λ (xs : List (Option Frame)). slice_index_or xs k None ≡ Some f) same at);
            links = inv.links;
            lost = subst (λ (xs : List (Option Frame)). LosesBelow of least c.args.self.now.frames.items xs) (sym same) inv.lost;
            gone = none_still of least old new c.place_of.result c.loop-number.number c.place_of.ensures.place same (w.in_default.ensures.above refl) inv.gone;
          }
    ]

pub returns-clause-gone : goal.returns-clause-gone
returns-clause-gone c = all_gone c.args.of c.args.least c.loop-number.self.frames.items c.loop-number.number (omega (arith, c.loop-number-test.false)) c.loop-number.invariant.gone
