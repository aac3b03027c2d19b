use Rattle.std.proofs.Common.{refl}
use Rattle.crsm_mpworld.proofs.place.Site.new.Goals as goal

pub returns : goal.returns
returns c = record { me_is = refl; n_is = refl; place = (refl, c.in_ok-never_booted.ensures) }
