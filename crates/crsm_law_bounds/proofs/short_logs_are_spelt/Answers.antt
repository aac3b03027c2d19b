use Rattle.crsm_law_bounds.proofs.Worlds.{short_logs_are_spelt}
use Rattle.crsm_law_bounds.proofs.short_logs_are_spelt.Goals as goal

pub returns : goal.returns
returns c n w most reached short = short_logs_are_spelt n w most reached short
