use Rattle.std.proofs.Common.{◌≡◌, drop}
use Rattle.crsm_state.specs.Rows.{rise_above, keys_rise}
use Rattle.crsm_state.proofs.key_rows.keys_rise.Given as goal

abbrev pub invariant-loop-row : goal.invariant-loop-row
invariant-loop-row l = rise_above l.last.0 (drop l.row-index l.others) ≡ keys_rise l.rows
