use Rattle.std.proofs.Common.{◌≡◌, drop}
use Rattle.crsm_base.specs.Reading.{rises_after, is_rising}
use Rattle.crsm_text_fields.proofs.entries.rises.Given as goal

abbrev pub invariant-loop-entry : goal.invariant-loop-entry
invariant-loop-entry l = rises_after l.last (drop l.entry-index l.others) ≡ is_rising l.entries
