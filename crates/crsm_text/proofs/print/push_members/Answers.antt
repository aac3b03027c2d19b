use Rattle.std.proofs.Common.{◌≡◌, ℕ, List, ◌++◌, decimal, get_or, take, drop, length, ◌-◌, sym, ap, arith, ◌∙◌, append_assoc}
use Rattle.crsm_text.specs.Words.{commas}
use Rattle.crsm_text.proofs.Named.{commas_after, commas-first}
use Rattle.crsm_text.proofs.print.push_members.Goals as goal

pub loop-member-init : goal.loop-member-init
loop-member-init c =
    let others : List ℕ = take (length c.as_slice.result.now - 1) (drop 1 c.as_slice.result.now) in
    let pushed : c.push_number.new.out ≡ c.args.out.now ++ decimal (get_or c.as_slice.result.now 0 0) = cc (c.in_ok-push_number.ensures, c.from.ensures) in
    ap (λ (s : List ℕ). s ++ commas_after others) pushed
    ∙ append_assoc c.args.out.now (decimal (get_or c.as_slice.result.now 0 0)) (commas_after others)
    ∙ ap (λ (s : List ℕ). c.args.out.now ++ s) (sym (commas-first c.as_slice.result.now (omega arith)) ∙ ap commas c.as_slice.ensures.value)
