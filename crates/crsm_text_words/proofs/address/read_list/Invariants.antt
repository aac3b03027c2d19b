use Rattle.std.proofs.Common.{◌≡◌, ◌≤◌, ℕ, List, ◌++◌, length}
use Rattle.crsm_text_words.specs.Addresses.{addresses_text}
use Rattle.crsm_text_words.proofs.Listed.{Fit, Ahead}
use Rattle.crsm_text_words.proofs.address.read_list.Given as goal

abbrev pub invariant-loop-prefix : goal.invariant-loop-prefix
invariant-loop-prefix l = record {
  fit : Fit l.addresses.items;
  found : (ns : List ℕ) → 1 ≤ length ns → l.rest ≡ addresses_text ns → l.fn.word ≡ addresses_text (l.addresses.items ++ ns);
  only : (ns : List ℕ) → Fit ns → 1 ≤ length ns → l.fn.word ≡ addresses_text ns → Ahead ns l.addresses.items l.rest;
}

abbrev pub decreases-loop-prefix : goal.decreases-loop-prefix
decreases-loop-prefix l = length l.rest
