-- The result of the check of an event.
use Rattle.std.specs.Prelude.{◌≡◌, ◌≢◌, Option, None, Result, Ok, Err}
use Rattle.crsm_spec.specs.Acts.{Bad as Cause}
use Rattle.crsm_world.specs.declared.bad.Bad.{Bad}
use Rattle.crsm_world.specs.Doing.{bad_of}

-- the answer names this cause, or that there is none; or memory ran out
abbrev pub Answers : Result (Unit {0}) Bad → Option Cause → Type 0
Answers (Ok done) cause = cause ≡ None
Answers (Err bad) cause = bad ≢ Bad.NoMemory → cause ≡ bad_of bad
