use Rattle.std.proofs.Common.{◌*◌, arith}
use Rattle.std.proofs.lemmas.Option.{slice_get-get_or}
use Rattle.crsm_sim_network.specs.Tally.{IsClass, block, is_wanted}
use Rattle.crsm_sim_network.proofs.Blocked.{block_few}
use Rattle.crsm_sim_network.proofs.Finding.{all_dropped, all_taken, from_block}
use Rattle.crsm_sim_network.proofs.blocks.find.Goals as goal

pub loop-block-preserved : goal.loop-block-preserved
loop-block-preserved c size xs few small are =
    let b = c.loop-block.block in
    let was = c.loop-block.invariant size xs few small are in
    let split = from_block (is_wanted c.args.wanted.now) size b xs in
    let got = are.counted b _ (slice_get-get_or c.args.blocks.now b _ c.loop-block-test.true) in
    let here = c.count-count.ensures (block size b xs) (block_few size b xs few) (all_taken IsClass size _ (all_dropped IsClass (b * size) xs small)) got in
    let most = c.if-before-count.false in
    omega (arith, was, split, here, most)
