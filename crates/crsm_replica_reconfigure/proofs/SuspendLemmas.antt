-- The suspension of the known epoch.
use Rattle.std.proofs.Common.{◌≡◌, ℕ, ◌<◌, ◌∙◌, arith, true, false}
use Rattle.std.specs.Prelude.{Option}
use Rattle.std.proofs.lemmas.Bool.Decides.{nat_tests}
use Rattle.crsm_spec.specs.Types.{Stamp, Rec}
use Rattle.crsm_spec.specs.Log.{known, suspended}
use Rattle.crsm_spec.specs.Draft.{Draft, keep, send_control, send_decision, send_retrieve}
use Rattle.crsm_spec.specs.Collect.{suspend_ok}
use Rattle.crsm_spec.specs.Coordinate.{suspend_once}
use Rattle.crsm_spec.specs.Controls.{on_suspend}
use Rattle.crsm_replica_reconfigure.proofs.DraftLemmas.{when_yes, when_no}

pub suspend_old : (k e : ℕ) (after : Option Stamp) (x : Draft) → e < known x.replica.log → on_suspend k e after x ≡ send_decision k x
unfolding on_suspend
suspend_old k e after x h = when_yes _ _ _ (grind (arith, nat_tests))

pub suspend_later : (k e : ℕ) (after : Option Stamp) (x : Draft) → known x.replica.log < e → on_suspend k e after x ≡ send_retrieve k x
unfolding on_suspend
suspend_later k e after x h = when_no _ _ _ (grind (arith, nat_tests)) ∙ when_yes _ _ _ (grind (arith, nat_tests))

pub suspend_now : (k e : ℕ) (after : Option Stamp) (x : Draft) → known x.replica.log ≡ e → on_suspend k e after x ≡ send_control (suspend_ok ((suspend_once x).replica.log) after) (suspend_once x) k
unfolding on_suspend
suspend_now k e after x h = when_no _ _ _ (grind (arith, nat_tests)) ∙ when_no _ _ _ (grind (arith, nat_tests))

pub once_done : (x : Draft) → suspended x.replica.log ≡ true → suspend_once x ≡ x
unfolding suspend_once
once_done x h = when_yes _ _ _ h

pub once_now : (x : Draft) → suspended x.replica.log ≡ false → suspend_once x ≡ keep (Rec.Suspend (known x.replica.log)) x
unfolding suspend_once
once_now x h = when_no _ _ _ h
