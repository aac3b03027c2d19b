use Rattle.crsm_law_draws.proofs.Drawn.{fits_next}
use Rattle.crsm_law_draws.proofs.drawn_fit_lines.Goals as goal

pub returns : goal.returns
returns c n acts s some most p starts room few = fits_next n acts s some most (c.founders_stay.ensures n acts some most p starts) p starts room few
