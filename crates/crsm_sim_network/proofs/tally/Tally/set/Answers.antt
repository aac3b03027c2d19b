use Rattle.std.proofs.Common.{◌≡◌, ◌<◌, ◌^◌, ◌∙◌, ap, arith, length, set, sym, Some}
use Rattle.std.specs.Prelude.{slice_get}
use Rattle.std.proofs.lemmas.Option.{slice_get-get_or}
use Rattle.crsm_sim_network.specs.Tally.{IsClass}
use Rattle.crsm_sim_network.proofs.Finding.{all_set}
use Rattle.crsm_sim_network.proofs.tally.Tally.set.Goals as goal

pub returns-then-from : goal.returns-then-from
returns-then-from c xs h =
    let items = c.args.self.now.classes in
    let few : length xs < 2 ^ 63 = let k = items.ok.0 in let m = items.ok.1 in let s = items.small in let e = ap length h.held in omega (arith, k, m, s, e) in
    let within : c.args.place < length items.items = let t = c.if-place-len.true in let l = c.len.ensures in let k = items.ok.0 in omega (arith, t, l, k) in
    let got : slice_get xs c.args.place ≡ Some c.index-from.result.now =
    ap (λ ys. slice_get ys c.args.place) (sym h.held) ∙ slice_get-get_or items.items c.args.place _ within ∙ ap Some (sym c.index-from.ensures) in
    record {
      held = ap (λ ys. set ys c.args.place c.args.class) h.held;
      small = all_set IsClass xs c.args.place c.args.class c.requires h.small;
      all = c.change-then-from-3.ensures xs c.args.place few got h.all;
      blocks = c.change.ensures xs few got h.blocks;
      groups = c.change-then-from.ensures xs few got h.groups;
      spans = c.change-then-from-2.ensures xs few got h.spans;
    }
