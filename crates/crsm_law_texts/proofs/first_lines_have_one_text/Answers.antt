use Rattle.crsm_law_texts.proofs.Events.{first_injective}
use Rattle.crsm_law_texts.proofs.first_lines_have_one_text.Goals as goal

pub returns : goal.returns
returns c m n size size_too same = first_injective m n size size_too same
