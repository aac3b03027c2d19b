use Rattle.std.proofs.Common.{◌≡◌, ℕ, List, ◌++◌, sym, ap, ◌∙◌, append_assoc}
use Rattle.crsm_text.specs.Words.{numbers}
use Rattle.crsm_text.proofs.Named.{named_numbers}
use Rattle.crsm_text.proofs.print.push_named.Goals as goal

pub returns : goal.returns
returns c =
    let whole : c.push_numbers.new.out ≡ (c.args.out.now ++ c.args.name.now) ++ numbers c.args.values.now = cc (c.in_ok-append.ensures.ok, c.in_ok-push_numbers.ensures) in
    whole ∙ append_assoc c.args.out.now c.args.name.now (numbers c.args.values.now)
    ∙ ap (λ (s : List ℕ). c.args.out.now ++ s) (sym (named_numbers c.args.name.now c.args.values.now))
