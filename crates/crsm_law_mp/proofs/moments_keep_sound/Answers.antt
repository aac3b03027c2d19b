use Rattle.crsm_law_mp.proofs.Moments.{keeps}
use Rattle.crsm_law_mp.proofs.moments_keep_sound.Goals as goal

pub returns : goal.returns
returns c n past w command m = keeps n past w command m
