use Rattle.crsm_law_rounds.proofs.Bounded.{entries_are_spread}
use Rattle.crsm_law_rounds.proofs.entries_are_spread.Goals as goal

pub returns : goal.returns
returns c n acts e ms t u p f ep logged k m = entries_are_spread n acts e ms t u p f ep logged k m
