use Rattle.std.proofs.Common.{◌≡◌, ◌<◌, ◌/◌, ◌∙◌, ap, arith, length, sym, Some}
use Rattle.std.specs.Prelude.{slice_get}
use Rattle.std.proofs.lemmas.Option.{slice_get-get_or, slice_get_within}
use Rattle.crsm_sim_network.specs.Tally.{block}
use Rattle.crsm_sim_network.proofs.Blocked.{changed, block_few, has_block}
use Rattle.crsm_sim_network.proofs.blocks.change.Goals as goal

pub returns-then-block-len : goal.returns-then-block-len
returns-then-block-len c xs few g are =
    let bs = c.args.blocks.now.items in
    let size = c.args.size in
    let at = c.args.place / size in
    let within : at < length bs = let t = c.if-block-len.true in let l = c.len.ensures in let k = c.args.blocks.now.ok.0 in omega (arith, t, l, k) in
    let here : slice_get bs at ≡ Some c.index_mut-counts.result.now = slice_get-get_or bs at c.index_mut-counts.result.now within ∙ ap Some (sym c.index_mut-counts.ensures.value) in
    changed size bs xs c.args.place c.args.from c.args.to c.index_mut-counts.result.now c.change.new.self c.requires.size g here
    (λ j got is. c.change.ensures (block size at xs) j (block_few size at xs few) got is) are

pub returns-else-block-len : goal.returns-else-block-len
returns-else-block-len c xs few g are =
    absurd (has_block c.args.size c.args.blocks.now.items xs c.args.place c.requires.size (slice_get_within xs c.args.place c.args.from g) are (let t = c.if-block-len.false in let l = c.len.ensures in let k = c.args.blocks.now.ok.0 in omega (arith, t, l, k)))
