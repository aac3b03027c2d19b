use Rattle.crsm_text_sheet.proofs.LineLaws.{sheet_injective}
use Rattle.crsm_text_sheet.proofs.SheetLaws.{sheet_parts}
use Rattle.crsm_text_sheet.proofs.laws.sheets_are_one.Goals as goal

pub returns-clause-text : goal.returns-clause-text
returns-clause-text c ls ms fit gits same = sheet_injective ls ms fit gits same

pub returns-clause-turns : goal.returns-clause-turns
returns-clause-turns c bodies others turns later same = sheet_parts bodies others turns later same
