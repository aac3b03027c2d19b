-- The result of the check of an event.
use Rattle.std.specs.Prelude.{◌≡◌, List, Bool, Option, None, Result, Ok, Err, option_map}
use Rattle.crsm_spec.specs.Acts.{Bad}
use Rattle.crsm_spec.specs.Possible.{first_bad}
use Rattle.crsm_mpspec.specs.declared.bad.MpBad.{MpBad}
use Rattle.crsm_mpspec.specs.Possible.{Cause}
use Rattle.crsm_mpworld.specs.Doing.{cause_of}

-- the answer names this cause, or that there is none
abbrev pub Answers : Result (Unit {0}) MpBad → Option Cause → Type 0
Answers (Ok done) cause = cause ≡ None
Answers (Err bad) cause = cause ≡ cause_of bad

-- the first of these causes that holds
unfoldable pub first_met : List (Bool × Bad) → Option Cause
first_met causes = option_map (λ why. Cause.Met why) (first_bad causes)
