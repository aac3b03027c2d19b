use Rattle.std.proofs.Common.{arith, ◌∙◌, ◌++◌, ap}
use Rattle.crsm_mpworld.proofs.Letting.{lets_out}
use Rattle.crsm_mpworld.proofs.outgoing.let_all_out.Goals as goal

pub returns : goal.returns
returns c packets bytes x h makes =
    let sent = c.in_ok-send_each.ensures packets _ (c.keep.ensures packets bytes h) x.sends makes.batch.sends in
    lets_out c.args.lines.now c.move_lines.new.lines c.send_each.new.lines c.move_lines-2.new.lines packets bytes c.args.k c.args.step.now.size x x.sends x.replies c.send_each.new.network makes.size
    (c.in_ok-move_lines.ensures ∙ ap (λ ls. c.args.lines.now ++ ls) makes.batch.lines) sent (c.in_ok-move_lines-2.ensures ∙ ap (λ ls. c.send_each.new.lines ++ ls) makes.batch.replies)

pub keep-requires : goal.keep-requires
keep-requires c = let small = c.args.step.now.small in let below = c.requires.room in omega (arith, small, below)
