use Rattle.crsm_text_sheet.proofs.LineLaws.{no_feed}
use Rattle.crsm_text_sheet.proofs.laws.lines_have_no_feed.Goals as goal

pub returns : goal.returns
returns c l fits = no_feed l fits
