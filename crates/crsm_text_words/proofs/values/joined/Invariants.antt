use Rattle.std.proofs.Common.{◌≡◌, ◌++◌, drop}
use Rattle.crsm_text.specs.Words.{spaced}
use Rattle.crsm_text_words.specs.Orders.{texts}
use Rattle.crsm_text_words.proofs.Spaced.{spaced_after}
use Rattle.crsm_text_words.proofs.values.joined.Given as goal

-- what is written and what is to come are all of it
abbrev pub invariant-loop-value : goal.invariant-loop-value
invariant-loop-value l = l.text ++ spaced_after (texts (drop l.value-index l.others)) ≡ spaced (texts l.fn.values)
