-- A sheet by its status.
use Rattle.std.proofs.Common.{◌≡◌, ◌≢◌, ℕ, inl, inr, List, Option, refl, ap, sym, ◌∙◌, subst}
use Rattle.crsm_port_lines.specs.Exact as loop
use Rattle.crsm_port_lines.specs.declared.InputEnd.{InputEnd}
use Rattle.crsm_cmd_replay_node.specs.Causes.{cause_in}
use Rattle.crsm_cmd_replay_node.specs.Run as sheet
use Rattle.crsm_cmd_replay_node.specs.declared.cause.SheetCause.{SheetCause}
use Rattle.crsm_app.specs.Did.{DidSheet}
use Rattle.crsm_app.specs.Exact.{IsDone, IsRefusedSheet, IsTooLong}
use Rattle.crsm_app.specs.Statuses.{status_of_refused, status_of_sheet}
use Rattle.crsm_app.specs.declared.status.Status.{Status}

refused : (me n line : ℕ) (cause : SheetCause) (b a d w : Option (List ℕ)) → sheet.RanToBad me n b a d w line cause → DidSheet me n (status_of_refused line cause) b a d w
unfolding DidSheet
refused me n line SheetCause.Unreadable b a d w ran = (refl, ran)
refused me n line (SheetCause.BadLog entry why) b a d w ran = (line, ran)

did : (me n : ℕ) (e : InputEnd SheetCause) (b a d w : Option (List ℕ)) → sheet.Ran me n e b a d w → DidSheet me n (status_of_sheet e) b a d w
unfolding sheet.Ran DidSheet
did me n InputEnd.Done b a d w ran = ran
did me n (InputEnd.BadLine line why) b a d w ran = refused me n line (cause_in why) b a d w ran
did me n InputEnd.ReadFault b a d w ran = ran
did me n InputEnd.WriteFault b a d w ran = ran
did me n InputEnd.NoMemory b a d w ran = ran
did me n InputEnd.InputTooLong b a d w ran = ran

-- a refused line is no fault, no end, and not too long
refused_alone : (line : ℕ) (cause : SheetCause) → (status_of_refused line cause ≢ Status.ReadFault) × (status_of_refused line cause ≢ Status.WriteFault)
    × (status_of_refused line cause ≢ Status.Ok) × (status_of_refused line cause ≢ Status.InputTooLong)
refused_alone line SheetCause.Unreadable = (λ e. (cc e), λ e. (cc e), λ e. (cc e), λ e. (cc e))
refused_alone line (SheetCause.BadLog entry why) = (λ e. (cc e), λ e. (cc e), λ e. (cc e), λ e. (cc e))

read_fault : (e : InputEnd SheetCause) → status_of_sheet e ≡ Status.ReadFault → e ≡ InputEnd.ReadFault
read_fault InputEnd.Done is = absurd (cc is)
read_fault (InputEnd.BadLine line why) is = absurd ((refused_alone line (cause_in why)).0 is)
read_fault InputEnd.ReadFault is = refl
read_fault InputEnd.WriteFault is = absurd (cc is)
read_fault InputEnd.NoMemory is = absurd (cc is)
read_fault InputEnd.InputTooLong is = absurd (cc is)

write_fault : (e : InputEnd SheetCause) → status_of_sheet e ≡ Status.WriteFault → e ≡ InputEnd.WriteFault
write_fault InputEnd.Done is = absurd (cc is)
write_fault (InputEnd.BadLine line why) is = absurd ((refused_alone line (cause_in why)).1 is)
write_fault InputEnd.ReadFault is = absurd (cc is)
write_fault InputEnd.WriteFault is = refl
write_fault InputEnd.NoMemory is = absurd (cc is)
write_fault InputEnd.InputTooLong is = absurd (cc is)

done : (e : InputEnd SheetCause) → status_of_sheet e ≡ Status.Ok → e ≡ InputEnd.Done
done InputEnd.Done is = refl
done (InputEnd.BadLine line why) is = absurd ((refused_alone line (cause_in why)).2 is)
done InputEnd.ReadFault is = absurd (cc is)
done InputEnd.WriteFault is = absurd (cc is)
done InputEnd.NoMemory is = absurd (cc is)
done InputEnd.InputTooLong is = absurd (cc is)

long : (e : InputEnd SheetCause) → status_of_sheet e ≡ Status.InputTooLong → e ≡ InputEnd.InputTooLong
long InputEnd.Done is = absurd (cc is)
long (InputEnd.BadLine line why) is = absurd ((refused_alone line (cause_in why)).3 is)
long InputEnd.ReadFault is = absurd (cc is)
long InputEnd.WriteFault is = absurd (cc is)
long InputEnd.NoMemory is = absurd (cc is)
long InputEnd.InputTooLong is = refl

refused_over_no_port : (line : ℕ) (cause : SheetCause) → status_of_refused line cause ≢ Status.PortFault
refused_over_no_port line SheetCause.Unreadable is = cc is
refused_over_no_port line (SheetCause.BadLog entry why) is = cc is

no_port : (e : InputEnd SheetCause) → status_of_sheet e ≡ Status.PortFault → ⊥
no_port InputEnd.Done is = cc is
no_port (InputEnd.BadLine line why) is = refused_over_no_port line (cause_in why) is
no_port InputEnd.ReadFault is = cc is
no_port InputEnd.WriteFault is = cc is
no_port InputEnd.NoMemory is = cc is
no_port InputEnd.InputTooLong is = cc is

refused_over_no_disk : (line : ℕ) (cause : SheetCause) → status_of_refused line cause ≢ Status.DiskFault
refused_over_no_disk line SheetCause.Unreadable is = cc is
refused_over_no_disk line (SheetCause.BadLog entry why) is = cc is

no_disk : (e : InputEnd SheetCause) → status_of_sheet e ≡ Status.DiskFault → ⊥
no_disk InputEnd.Done is = cc is
no_disk (InputEnd.BadLine line why) is = refused_over_no_disk line (cause_in why) is
no_disk InputEnd.ReadFault is = cc is
no_disk InputEnd.WriteFault is = cc is
no_disk InputEnd.NoMemory is = cc is
no_disk InputEnd.InputTooLong is = cc is

pub told : (line : ℕ) (cause : SheetCause) (result : Status) → result ≡ status_of_refused line cause → IsRefusedSheet line cause result
told line SheetCause.Unreadable result is = inl is
told line (SheetCause.BadLog entry why) result is = inl is

pub no_memory : (line : ℕ) (cause : SheetCause) (result : Status) → result ≡ Status.NoMemory → IsRefusedSheet line cause result
no_memory line SheetCause.Unreadable result is = inr is
no_memory line (SheetCause.BadLog entry why) result is = inr is

module _ (e : InputEnd SheetCause) (result : Status) (is : result ≡ status_of_sheet e) where
  pub did_so : (me n : ℕ) (b a d w : Option (List ℕ)) → sheet.Ran me n e b a d w → DidSheet me n result b a d w
  did_so me n b a d w ran = subst (λ (s : Status). DidSheet me n s b a d w) (sym is) (did me n e b a d w ran)

  pub is_read_fault : result ≡ Status.ReadFault → e ≡ InputEnd.ReadFault
  is_read_fault fault = read_fault e (sym is ∙ fault)

  pub is_write_fault : result ≡ Status.WriteFault → e ≡ InputEnd.WriteFault
  is_write_fault fault = write_fault e (sym is ∙ fault)

  pub is_done : result ≡ Status.Ok → e ≡ InputEnd.Done
  is_done ok = done e (sym is ∙ ok)

  pub is_long : result ≡ Status.InputTooLong → e ≡ InputEnd.InputTooLong
  is_long too_long = long e (sym is ∙ too_long)

  pub is_no_port : result ≢ Status.PortFault
  is_no_port fault = no_port e (sym is ∙ fault)

  pub is_no_disk : result ≢ Status.DiskFault
  is_no_disk fault = no_disk e (sym is ∙ fault)

  pub completes : loop.IsDone e → IsDone result
  completes (inl p) = inl (is ∙ ap status_of_sheet p)
  completes (inr p) = inr (is ∙ ap status_of_sheet p)

  pub refuses : (line : ℕ) (cause : SheetCause) → sheet.IsRefused line cause e → IsRefusedSheet line cause result
  refuses line cause (inl p) = told line cause result (is ∙ ap status_of_sheet p.is ∙ ap (λ (c : SheetCause). status_of_refused line c) p.told)
  refuses line cause (inr p) = no_memory line cause result (is ∙ ap status_of_sheet p)

  pub is_too_long : loop.IsTooLong e → IsTooLong result
  is_too_long (inl p) = inl (is ∙ ap status_of_sheet p)
  is_too_long (inr p) = inr (is ∙ ap status_of_sheet p)
