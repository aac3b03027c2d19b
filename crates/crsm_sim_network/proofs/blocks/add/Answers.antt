use Rattle.std.proofs.Common.{◌≡◌, ◌<◌, ◌≤◌, ◌/◌, ◌∙◌, ap, arith, length, sym, subst, ℕ, List, Some}
use Rattle.std.specs.Prelude.{slice_get, slice_set, ◌++◌, ◌∷◌, []}
use Rattle.std.proofs.lemmas.Option.{slice_get-get_or}
use Rattle.crsm_sim_network.specs.declared.counts.Counts.{Counts}
use Rattle.crsm_sim_network.specs.Tally.{AreBlocks, block}
use Rattle.crsm_sim_network.proofs.Blocked.{added, begun, block_few}
use Rattle.crsm_sim_network.proofs.blocks.add.Goals as goal

pub returns-then-block-len : goal.returns-then-block-len
returns-then-block-len c xs few at are =
    let bs = c.args.blocks.now.items in
    let size = c.args.size in
    let within : c.args.place / size < length bs = let t = c.if-block-len.true in let l = c.len.ensures in let k = c.args.blocks.now.ok.0 in omega (arith, t, l, k) in
    let here : slice_get bs (c.args.place / size) ≡ Some c.index_mut-counts.result.now = slice_get-get_or bs (c.args.place / size) c.index_mut-counts.result.now within ∙ ap Some (sym c.index_mut-counts.ensures.value) in
    let P : ℕ → Type 0 = λ n. AreBlocks size (slice_set bs (n / size) c.add.new.self) (xs ++ c.args.class ∷ []) in
    subst P (sym at)
    (added size bs xs c.args.class c.index_mut-counts.result.now c.add.new.self c.requires.size (subst (λ (n : ℕ). n / size < length bs) at within)
    (ap (λ n. slice_get bs (n / size)) (sym at) ∙ here) (λ is. c.add.ensures (block size (length xs / size) xs) (block_few size (length xs / size) xs few) is) are)

pub returns : goal.returns
returns c xs few at are =
    let bs = c.args.blocks.now.items in
    let size = c.args.size in
    let past : length bs ≤ c.args.place / size = let t = c.if-block-len.false in let l = c.len.ensures in let k = c.args.blocks.now.ok.0 in omega (arith, t, l, k) in
    subst (λ (cs : List Counts). AreBlocks size cs (xs ++ c.args.class ∷ [])) (sym c.in_ok-push.ensures.items)
    (begun size bs xs c.args.class c.new-counts.result c.add-2.new.self c.requires.size (subst (λ (n : ℕ). length bs ≤ n / size) at past) few c.new-counts.ensures c.add-2.ensures are)
