use Rattle.std.proofs.Common.{arith, ◌∙◌, ◌++◌, ap, subst, sym, take, length, ◌-◌}
use Rattle.std.proofs.lemmas.List.{length-map}
use Rattle.std.specs.List.{AllByRecursion}
use Rattle.crsm_mpreplica.specs.Made.{to_send}
use Rattle.crsm_mpworld.specs.Fits.{FitsSend}
use Rattle.crsm_mpworld.proofs.Letting.{fit_taken, lets_out, sends_taken}
use Rattle.crsm_mpworld.proofs.outgoing.let_out.Goals as goal

pub returns : goal.returns
returns c packets bytes x h makes =
    let kept = c.keep.ensures packets bytes h in
    let long = ap length makes.batch.sends ∙ length-map x.sends to_send in
    let sends = sends_taken c.args.count x.sends c.args.step.now.batch.sends _ makes.batch.sends c.truncate-left.ensures.kept in
    let sent = c.in_ok-send_each.ensures packets _ kept (take c.args.count x.sends) sends in
    lets_out c.args.lines.now c.move_lines.new.lines c.send_each.new.lines c.move_lines-2.new.lines packets bytes c.args.k c.args.step.now.size x _ _ c.send_each.new.network makes.size
    (c.in_ok-move_lines.ensures ∙ ap (λ ls. c.args.lines.now ++ ls) makes.batch.lines) sent
    (c.in_ok-move_lines-2.ensures ∙ ap (λ ls. c.send_each.new.lines ++ ls) (c.truncate.ensures ∙ ap (take c.truncate-left.result) makes.batch.replies
    ∙ ap (λ n. take n x.replies) (c.truncate-left.ensures.missing ∙ ap (λ n. c.args.count - n) long)))

pub send_each-requires : goal.send_each-requires
send_each-requires c = subst (AllByRecursion FitsSend) (sym c.truncate-left.ensures.kept) (fit_taken c.args.count _ c.requires.fits)

pub keep-requires : goal.keep-requires
keep-requires c = let small = c.args.step.now.small in let below = c.requires.room in omega (arith, small, below)
