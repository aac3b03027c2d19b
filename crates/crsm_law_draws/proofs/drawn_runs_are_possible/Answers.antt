use Rattle.crsm_law_draws.proofs.Drawn.{all_possible}
use Rattle.crsm_law_draws.proofs.drawn_runs_are_possible.Goals as goal

pub returns : goal.returns
returns c number n steps some most = all_possible n some most c.drawn_runs_go_on.ensures c.drawn_fit_lines.ensures number steps
