use Rattle.std.proofs.Common.{◌≡◌, ◌-◌}
use Rattle.crsm_base.specs.Parser.{many_at}
use Rattle.crsm_base.specs.Reading.{entry_at}
use Rattle.crsm_text_fields.proofs.Loops.{with_prefix}
use Rattle.crsm_text_fields.proofs.entries.take_many_entries.Given as goal

abbrev pub invariant-loop : goal.invariant-loop
invariant-loop l = with_prefix l.entries (many_at entry_at (l.count - l.counter) l.rest) ≡ many_at entry_at l.count l.bytes
