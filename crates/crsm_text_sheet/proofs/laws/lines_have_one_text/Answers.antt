use Rattle.crsm_text_sheet.proofs.LineLaws.{line_injective}
use Rattle.crsm_text_sheet.proofs.laws.lines_have_one_text.Goals as goal

pub returns : goal.returns
returns c l m fits gits same = line_injective l m fits gits same
