use Rattle.std.proofs.Common.{◌∙◌}
use Rattle.crsm_base.proofs.KeyOrder.{slice_cmp-bytes_lt}
use Rattle.crsm_state.proofs.key_rows.key_precedes.Goals as goal

pub returns : goal.returns
returns c = c.lt.ensures ∙ slice_cmp-bytes_lt c.args.a.now c.args.b.now
