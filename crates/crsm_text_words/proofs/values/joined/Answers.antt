use Rattle.std.proofs.Common.{◌≡◌, ◌∙◌, ◌++◌, ap, sym}
use Rattle.clap.specs.Words.{Text}
use Rattle.crsm_text.specs.Words.{spaced}
use Rattle.crsm_text_words.specs.Orders.{texts}
use Rattle.crsm_text_words.proofs.Spaced.{spaced_after, spaced-spaced_after}
use Rattle.crsm_text_words.proofs.values.joined.Goals as goal

pub loop-value-init : goal.loop-value-init
loop-value-init c =
    let begun : c.append.new.self ≡ c.in-Some.first.now = c.in_ok-append.ensures.ok ∙ ap (λ (x : Text). x ++ c.in-Some.first.now) c.new-text.ensures in
    ap (λ (x : Text). x ++ spaced_after (texts c.in-Some.others.now)) begun ∙ sym (spaced-spaced_after c.in-Some.first.now (texts c.in-Some.others.now)) ∙ ap spaced (sym c.in-Some.ensures.found)
