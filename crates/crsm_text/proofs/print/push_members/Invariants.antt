use Rattle.std.proofs.Common.{◌≡◌, ◌++◌, drop}
use Rattle.crsm_text.specs.Words.{commas}
use Rattle.crsm_text.proofs.Named.{commas_after}
use Rattle.crsm_text.proofs.print.push_members.Given as goal

-- what is written and what is to come are all of it
abbrev pub invariant-loop-member : goal.invariant-loop-member
invariant-loop-member l = l.out ++ commas_after (drop l.member-index l.others) ≡ l.fn.out ++ commas l.fn.members
