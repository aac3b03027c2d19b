-- A command that reads no log file never ends as one that was too long.
use Rattle.std.proofs.Common.{◌≡◌, ◌≢◌, ℕ, List, Option, subst}
use Rattle.crsm_delay.specs.declared.handling.Wanted.{Wanted}
use Rattle.crsm_app.specs.Did.{DidAudit, DidPlan, DidReplay, DidReplayMp, DidSheet}
use Rattle.crsm_app.specs.declared.status.Status.{Status}

module _ (result : Status) (b a d w : Option (List ℕ)) where
  pub no_replay : DidReplay result b a d w → result ≢ Status.LogTooLong
  unfolding DidReplay
  no_replay did is = subst (λ (s : Status). DidReplay s b a d w) is did

  pub no_replay_mp : DidReplayMp result b a d w → result ≢ Status.LogTooLong
  unfolding DidReplayMp
  no_replay_mp did is = subst (λ (s : Status). DidReplayMp s b a d w) is did

  pub no_sheet : (me n : ℕ) → DidSheet me n result b a d w → result ≢ Status.LogTooLong
  unfolding DidSheet
  no_sheet me n did is = subst (λ (s : Status). DidSheet me n s b a d w) is did

  pub no_audit : (n : ℕ) → DidAudit n result b a d w → result ≢ Status.LogTooLong
  unfolding DidAudit
  no_audit n did is = subst (λ (s : Status). DidAudit n s b a d w) is did

  pub no_plan : (wanted : Wanted) → DidPlan wanted result b a d w → result ≢ Status.LogTooLong
  unfolding DidPlan
  no_plan wanted did is = subst (λ (s : Status). DidPlan wanted s b a d w) is did
