use Rattle.crsm_law_sheets.proofs.Prefixes.{records_prefix}
use Rattle.crsm_law_sheets.proofs.executed_lists_grow.Goals as goal

pub returns : goal.returns
returns c = records_prefix
