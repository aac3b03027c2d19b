-- An event that is possible is not refused.
use Rattle.std.proofs.Common.{◌≡◌, ◌≢◌, Option, Some, None, Result, Ok, Err, refl, sym, ◌∙◌}
use Rattle.std.specs.Prelude.{IfErr}
use Rattle.crsm_spec.specs.Acts.{Act, Bad as Cause}
use Rattle.crsm_spec.specs.Possible.{possible}
use Rattle.crsm_spec.specs.World.{World}
use Rattle.crsm_world.specs.Doing.{bad_of}
use Rattle.crsm_world.specs.declared.bad.Bad.{Bad}

none_is_some : (cause : Cause) → ◌≡◌ {A = Option Cause} None (Some cause) → ⊥
none_is_some cause e = cc

-- a cause is none that comes where the act is possible
module _ (w : World) (a : Act) (can : possible w a ≡ None) where
  never : (cause : Cause) → possible w a ≡ Some cause → ⊥
  never cause refused = none_is_some cause (sym can ∙ refused)

  pub is_memory : (bad : Bad) → (bad ≢ Bad.NoMemory → possible w a ≡ bad_of bad) → bad ≡ Bad.NoMemory
  unfolding bad_of
  is_memory (Bad.Full bytes) because = absurd (never (Cause.Full bytes) (because (λ e. cc)))
  is_memory Bad.NoSuchReplica because = absurd (never Cause.NoSuchReplica (because (λ e. cc)))
  is_memory Bad.NoSuchDatagram because = absurd (never Cause.NoSuchDatagram (because (λ e. cc)))
  is_memory Bad.Used because = absurd (never Cause.Used (because (λ e. cc)))
  is_memory Bad.Fresh because = absurd (never Cause.Fresh (because (λ e. cc)))
  is_memory Bad.Mixed because = absurd (never Cause.Mixed (because (λ e. cc)))
  is_memory Bad.IsDown because = absurd (never Cause.IsDown (because (λ e. cc)))
  is_memory Bad.IsUp because = absurd (never Cause.IsUp (because (λ e. cc)))
  is_memory Bad.TooFew because = absurd (never Cause.TooFew (because (λ e. cc)))
  is_memory Bad.Forged because = absurd (never Cause.Forged (because (λ e. cc)))
  is_memory Bad.NoMemory because = refl

  pub not_refused : {T : Type 0} (result : Result T Bad) → IfErr result (λ bad. bad ≢ Bad.NoMemory → possible w a ≡ bad_of bad) → IfErr result (λ bad. bad ≡ Bad.NoMemory)
  not_refused (Ok lines) h = tt
  not_refused (Err bad) h = is_memory bad h
