use Rattle.crsm_law_agreement.proofs.Choice.{complete_are_collected}
use Rattle.crsm_law_agreement.proofs.complete_are_collected.Goals as goal

pub returns : goal.returns
returns c n e begins counted logs facts specs i d at whole = complete_are_collected n e begins counted logs facts specs i d at whole
