use Rattle.std.proofs.Common.{◌≡◌, ◌*◌, ◌∙◌, ap, arith, drop}
use Rattle.std.specs.List.{count_by}
use Rattle.crsm_sim_network.specs.Tally.{is_wanted}
use Rattle.crsm_sim_network.proofs.Finding.{capped}
use Rattle.crsm_sim_network.proofs.blocks.find_within.Goals as goal

pub returns : goal.returns
returns c size xs some few small are =
    let w = is_wanted c.args.wanted.now in
    let at = c.args.above.0 * c.args.fan in
    let found = c.find.ensures size xs few small are in
    let first : count_by w (drop (c.saturating_mul.result * size) xs) ≡ count_by w (drop (at * size) xs) =
    ap (λ n. count_by w (drop (n * size) xs)) c.saturating_mul.ensures ∙ ap (count_by w) (capped at size xs some few) in
    omega (arith, found, first)
