use Rattle.std.proofs.Common.{◌≡◌, ◌∙◌, ℕ, ◌<◌, ◌-◌, List, [], ◌++◌, ap, arith, get_or, length, refl}
use Rattle.std.proofs.lemmas.List.{get_or_read_under}
use Rattle.crsm_ledger.proofs.PiecesLemmas.{keeps-set, piece-set, within-set}
use Rattle.crsm_ledger.proofs.spelt.append.Goals as goal

pub returns-clause-keeps : goal.returns-clause-keeps
returns-clause-keeps c =
    let chunks = c.args.chunks.now.items in
    let i = c.len-last.result - 1 in
    let there : i < length chunks = omega (arith, c.requires.room.some) in
    let grown : c.append.new.self ≡ get_or chunks i [] ++ c.args.bytes.now =
    c.in_ok-append.ensures.ok ∙ ap (λ (s : List ℕ). s ++ c.args.bytes.now) (get_or_read_under chunks i (length chunks) c.index_mut.result.now [] c.index_mut.ensures.value there refl) in
    rw grown (keeps-set chunks i c.args.bytes.now there)

pub returns-clause-placed : goal.returns-clause-placed
returns-clause-placed c =
    let chunks = c.args.chunks.now.items in
    let i = c.len-last.result - 1 in
    let start = length c.as_slice.result.now in
    let size = length c.args.bytes.now in
    let there : i < length chunks = omega (arith, c.requires.room.some) in
    let grown : c.append.new.self ≡ get_or chunks i [] ++ c.args.bytes.now =
    c.in_ok-append.ensures.ok ∙ ap (λ (s : List ℕ). s ++ c.args.bytes.now) (get_or_read_under chunks i (length chunks) c.index_mut.result.now [] c.index_mut.ensures.value there refl) in
    let begins : start ≡ length (get_or chunks i []) =
    ap length (c.as_slice.ensures ∙ get_or_read_under chunks i (length chunks) c.index.result.now [] c.index.ensures there refl) in
    rw (grown, c.in-Ok.ensures.1) (within-set chunks i start size c.args.bytes.now there begins refl, piece-set chunks i start size c.args.bytes.now there begins refl)
