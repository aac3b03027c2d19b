use Rattle.std.proofs.Common.{◌≡◌, ◌-◌, ◌*◌, ◌++◌, ap, ◌∙◌, take, drop, arith}
use Rattle.crsm_segment.proofs.Pieces.{part_at, piece_is, one_more, all_sent}
use Rattle.crsm_segment.proofs.cutting.cut.Goals as goal

pub loop-index-preserved : goal.loop-index-preserved
loop-index-preserved c =
    let made : c.append.new.self ≡ part_at c.args.bytes.now c.loop-index.index =
    c.in_ok-append.ensures.ok
    ∙ ap (λ z. z ++ take (c.min-end.result - 8000 * c.loop-index.index) (drop (8000 * c.loop-index.index) c.args.bytes.now)) (c.reserve.ensures ∙ c.new-piece.ensures)
    ∙ ap (λ n. take (n - 8000 * c.loop-index.index) (drop (8000 * c.loop-index.index) c.args.bytes.now)) c.min-end.ensures
    ∙ piece_is c.args.bytes.now (8000 * c.loop-index.index) in
    c.in_ok-push.ensures.ok
    ∙ one_more c.args.from c.args.to c.args.boot c.args.number c.args.bytes.now c.loop-index.index c.loop-index.sends c.append.new.self c.loop-index.invariant made

pub returns : goal.returns
returns c =
    c.loop-index.invariant
    ∙ all_sent c.args.from c.args.to c.args.boot c.args.number c.args.bytes.now c.loop-index.index
    (let most = c.loop-index.auto.index-end in let least = c.loop-index-test.false in omega arith)
