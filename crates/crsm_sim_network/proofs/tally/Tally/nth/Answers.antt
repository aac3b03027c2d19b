use Rattle.std.proofs.Common.{◌≡◌, ◌<◌, ◌*◌, ◌^◌, ◌∙◌, ap, arith, drop, length, sym, subst, List, ℕ}
use Rattle.std.specs.List.{count_by}
use Rattle.crsm_sim_network.specs.declared.counts.Counts.{Counts}
use Rattle.crsm_sim_network.specs.Nth.{IsFrom}
use Rattle.crsm_sim_network.specs.Tally.{AreBlocks, is_wanted}
use Rattle.crsm_sim_network.proofs.Finding.{capped_place, from_start}
use Rattle.crsm_sim_network.proofs.tally.Tally.nth.Goals as goal

pub returns : goal.returns
returns c xs h within =
    let w = is_wanted c.args.wanted.now in
    let items = c.args.self.now.classes in
    let few : length xs < 2 ^ 63 = let k = items.ok.0 in let m = items.ok.1 in let s = items.small in let e = ap length h.held in omega (arith, k, m, s, e) in
    let spans = subst (λ (bs : List Counts). AreBlocks 16384 bs xs) (sym c.as_slice.ensures.value) h.spans in
    let groups = subst (λ (bs : List Counts). AreBlocks 1024 bs xs) (sym c.as_slice-2.ensures.value) h.groups in
    let blocks = subst (λ (bs : List Counts). AreBlocks 64 bs xs) (sym c.as_slice-3.ensures.value) h.blocks in
    let span = c.find-span.ensures 16384 xs few h.small spans in
    let group = c.find_within-group.ensures 1024 xs (omega arith) few h.small groups in
    let block = c.find_within-block.ensures 64 xs (omega arith) few h.small blocks in
    let s = c.find-span.result.0 in
    let g = c.find_within-group.result.0 in
    let b = c.find_within-block.result.0 in
    let of_span : count_by w (drop (s * 16 * 1024) xs) ≡ count_by w (drop (s * 16384) xs) = let n : s * 16 * 1024 ≡ s * 16384 = omega arith in ap (λ n. count_by w (drop n xs)) n in
    let of_group : count_by w (drop (g * 16 * 64) xs) ≡ count_by w (drop (g * 1024) xs) = let n : g * 16 * 64 ≡ g * 1024 = omega arith in ap (λ n. count_by w (drop n xs)) n in
    let start : count_by w (drop c.saturating_mul-first.result xs) ≡ count_by w (drop (b * 64) xs) =
    ap (λ n. count_by w (drop n xs)) c.saturating_mul-first.ensures ∙ ap (count_by w) (capped_place (b * 64) xs few) in
    let held : c.as_slice-4.result.now ≡ xs = c.as_slice-4.ensures.value ∙ h.held in
    let sought = c.find_within-block.result.1 in
    let enough : sought < count_by w (drop c.saturating_mul-first.result xs) = omega (arith, within, span, group, block, of_span, of_group, start) in
    let F : List ℕ → Type 0 = λ ys. sought < count_by w (drop c.saturating_mul-first.result ys) → IsFrom w ys c.saturating_mul-first.result sought c.walk.result in
    from_start w xs c.args.j c.saturating_mul-first.result sought c.walk.result (subst F held c.walk.ensures enough) (omega (arith, span, group, block, of_span, of_group, start))
