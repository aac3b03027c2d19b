-- An audit by its status.
use Rattle.std.proofs.Common.{◌≡◌, ℕ, inl, inr, List, Option, refl, ap, sym, ◌∙◌, subst}
use Rattle.crsm_audit.specs.Handled.{audited}
use Rattle.crsm_port_lines.specs.Exact as loop
use Rattle.crsm_port_lines.specs.Run as lines
use Rattle.crsm_port_lines.specs.declared.LineRefusal.{LineRefusal}
use Rattle.crsm_port_lines.specs.declared.InputEnd.{InputEnd}
use Rattle.crsm_cmd_replay_node.specs.Causes.{cause_in}
use Rattle.crsm_cmd_replay_node.specs.declared.cause.SheetCause.{SheetCause}
use Rattle.crsm_app.specs.Did.{DidAudit}
use Rattle.crsm_app.specs.Exact.{IsRefusedSheet}
use Rattle.crsm_app.specs.Statuses.{status_of_refused, status_of_sheet}
use Rattle.crsm_app.specs.declared.status.Status.{Status}
use Rattle.crsm_app.proofs.Sheets.{no_memory, told}

refused : (n line : ℕ) (why : LineRefusal SheetCause) (b a d w : Option (List ℕ)) → lines.RanToBad (audited n) b a d w line why → DidAudit n (status_of_refused line (cause_in why)) b a d w
unfolding DidAudit
refused n line (LineRefusal.Refused SheetCause.Unreadable) b a d w ran = (refl, LineRefusal.Refused SheetCause.Unreadable, refl, ran)
refused n line (LineRefusal.Refused (SheetCause.BadLog entry why)) b a d w ran = (line, ran)
refused n line LineRefusal.TooLong b a d w ran = (refl, LineRefusal.TooLong, refl, ran)
refused n line LineRefusal.Cut b a d w ran = (refl, LineRefusal.Cut, refl, ran)

did : (n : ℕ) (e : InputEnd SheetCause) (b a d w : Option (List ℕ)) → lines.Ran (audited n) e b a d w → DidAudit n (status_of_sheet e) b a d w
unfolding lines.Ran DidAudit
did n InputEnd.Done b a d w ran = ran
did n (InputEnd.BadLine line why) b a d w ran = refused n line why b a d w ran
did n InputEnd.ReadFault b a d w ran = ran
did n InputEnd.WriteFault b a d w ran = ran
did n InputEnd.NoMemory b a d w ran = ran
did n InputEnd.InputTooLong b a d w ran = ran

-- the cause to report for a bad line is that of the audit
cause_is : (n : ℕ) (x : loop.Exact (audited n)) → x.unreadable ≡ SheetCause.Unreadable → (bad : LineRefusal SheetCause) → loop.reason_of (audited n) x bad ≡ cause_in bad
cause_is n x same (LineRefusal.Refused cause) = refl
cause_is n x same LineRefusal.TooLong = same
cause_is n x same LineRefusal.Cut = same

module _ (e : InputEnd SheetCause) (result : Status) (is : result ≡ status_of_sheet e) where
  pub did_so : (n : ℕ) (b a d w : Option (List ℕ)) → lines.Ran (audited n) e b a d w → DidAudit n result b a d w
  did_so n b a d w ran = subst (λ (s : Status). DidAudit n s b a d w) (sym is) (did n e b a d w ran)

  pub refuses : (n : ℕ) (x : loop.Exact (audited n)) → x.unreadable ≡ SheetCause.Unreadable → (line : ℕ) (cause : SheetCause) → loop.IsRefused (audited n) x line cause e → IsRefusedSheet line cause result
  refuses n x same line cause (inl p) =
      told line cause result (is ∙ ap status_of_sheet p.is ∙ ap (λ (c : SheetCause). status_of_refused line c) (sym (cause_is n x same p.bad) ∙ p.told))
  refuses n x same line cause (inr p) = no_memory line cause result (is ∙ ap status_of_sheet p)
