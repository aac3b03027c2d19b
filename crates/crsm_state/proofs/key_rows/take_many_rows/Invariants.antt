use Rattle.std.proofs.Common.{◌≡◌, ◌-◌}
use Rattle.crsm_base.specs.Parser.{many_at}
use Rattle.crsm_state.specs.Rows.{key_row_at}
use Rattle.crsm_state.proofs.Loops.{with_prefix}
use Rattle.crsm_state.proofs.key_rows.take_many_rows.Given as goal

abbrev pub invariant-loop : goal.invariant-loop
invariant-loop l = with_prefix l.rows (many_at key_row_at (l.count - l.counter) l.rest) ≡ many_at key_row_at l.count l.bytes
