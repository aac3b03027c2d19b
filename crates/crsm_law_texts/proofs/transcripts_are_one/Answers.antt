use Rattle.crsm_law_texts.proofs.Transcripts.{transcripts_are_one}
use Rattle.crsm_law_texts.proofs.transcripts_are_one.Goals as goal

pub returns : goal.returns
returns c ps qs fit fit_too same = transcripts_are_one ps qs fit fit_too same
