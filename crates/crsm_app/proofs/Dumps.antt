-- A dump by its status.
use Rattle.std.proofs.Common.{◌≡◌, ◌≢◌, ◌⊎◌, ℕ, inl, inr, List, Option, refl, ap, sym, ◌∙◌, subst}
use Rattle.crsm_io.specs.Streams.{Puts}
use Rattle.crsm_cmd_dump.specs.Run as dumped
use Rattle.crsm_cmd_dump.specs.declared.ending.DumpEnd.{DumpEnd}
use Rattle.crsm_cmd_dump.specs.declared.part.Part.{Part}
use Rattle.crsm_text_words.specs.declared.order.DumpPart.{DumpPart}
use Rattle.crsm_app.specs.Did.{DidDump}
use Rattle.crsm_app.specs.Parts.{part_of}
use Rattle.crsm_app.specs.Statuses.{status_of_dump}
use Rattle.crsm_app.specs.declared.status.Status.{Status}

did : (me n : ℕ) (part : DumpPart) (e : DumpEnd) (b a d w : Option (List ℕ)) → dumped.Ran me n (part_of part) e b a d w → DidDump me n part (status_of_dump e) b a d w
unfolding dumped.Ran DidDump
did me n part DumpEnd.Done b a d w ran = ran
did me n part (DumpEnd.BadLog entry why) b a d w ran = ran
did me n part DumpEnd.ReadFault b a d w ran = ran
did me n part DumpEnd.WriteFault b a d w ran = ran
did me n part DumpEnd.NoMemory b a d w ran = ran
did me n part DumpEnd.LogTooLong b a d w ran = ran

read_fault : (e : DumpEnd) → status_of_dump e ≡ Status.ReadFault → e ≡ DumpEnd.ReadFault
read_fault DumpEnd.Done is = absurd (cc is)
read_fault (DumpEnd.BadLog entry why) is = absurd (cc is)
read_fault DumpEnd.ReadFault is = refl
read_fault DumpEnd.WriteFault is = absurd (cc is)
read_fault DumpEnd.NoMemory is = absurd (cc is)
read_fault DumpEnd.LogTooLong is = absurd (cc is)

write_fault : (e : DumpEnd) → status_of_dump e ≡ Status.WriteFault → e ≡ DumpEnd.WriteFault
write_fault DumpEnd.Done is = absurd (cc is)
write_fault (DumpEnd.BadLog entry why) is = absurd (cc is)
write_fault DumpEnd.ReadFault is = absurd (cc is)
write_fault DumpEnd.WriteFault is = refl
write_fault DumpEnd.NoMemory is = absurd (cc is)
write_fault DumpEnd.LogTooLong is = absurd (cc is)

done : (e : DumpEnd) → status_of_dump e ≡ Status.Ok → e ≡ DumpEnd.Done
done DumpEnd.Done is = refl
done (DumpEnd.BadLog entry why) is = absurd (cc is)
done DumpEnd.ReadFault is = absurd (cc is)
done DumpEnd.WriteFault is = absurd (cc is)
done DumpEnd.NoMemory is = absurd (cc is)
done DumpEnd.LogTooLong is = absurd (cc is)

long : (e : DumpEnd) → status_of_dump e ≡ Status.LogTooLong → e ≡ DumpEnd.LogTooLong
long DumpEnd.Done is = absurd (cc is)
long (DumpEnd.BadLog entry why) is = absurd (cc is)
long DumpEnd.ReadFault is = absurd (cc is)
long DumpEnd.WriteFault is = absurd (cc is)
long DumpEnd.NoMemory is = absurd (cc is)
long DumpEnd.LogTooLong is = refl

-- the statuses that no dump has
others : (e : DumpEnd) → (status_of_dump e ≢ Status.InputTooLong) × (status_of_dump e ≢ Status.PortFault) × (status_of_dump e ≢ Status.DiskFault)
others DumpEnd.Done = (λ e. (cc e), λ e. (cc e), λ e. (cc e))
others (DumpEnd.BadLog entry why) = (λ e. (cc e), λ e. (cc e), λ e. (cc e))
others DumpEnd.ReadFault = (λ e. (cc e), λ e. (cc e), λ e. (cc e))
others DumpEnd.WriteFault = (λ e. (cc e), λ e. (cc e), λ e. (cc e))
others DumpEnd.NoMemory = (λ e. (cc e), λ e. (cc e), λ e. (cc e))
others DumpEnd.LogTooLong = (λ e. (cc e), λ e. (cc e), λ e. (cc e))

module _ (e : DumpEnd) (result : Status) (is : result ≡ status_of_dump e) where
  pub did_so : (me n : ℕ) (part : DumpPart) (p : Part) → p ≡ part_of part → (b a d w : Option (List ℕ)) → dumped.Ran me n p e b a d w → DidDump me n part result b a d w
  did_so me n part p same b a d w ran = subst (λ (s : Status). DidDump me n part s b a d w) (sym is)
      (did me n part e b a d w (subst (λ (q : Part). dumped.Ran me n q e b a d w) same ran))

  pub is_read_fault : result ≡ Status.ReadFault → e ≡ DumpEnd.ReadFault
  is_read_fault fault = read_fault e (sym is ∙ fault)

  pub is_write_fault : result ≡ Status.WriteFault → e ≡ DumpEnd.WriteFault
  is_write_fault fault = write_fault e (sym is ∙ fault)

  pub is_done : result ≡ Status.Ok → e ≡ DumpEnd.Done
  is_done ok = done e (sym is ∙ ok)

  pub is_long : result ≡ Status.LogTooLong → e ≡ DumpEnd.LogTooLong
  is_long too_long = long e (sym is ∙ too_long)

  pub no_line : result ≢ Status.InputTooLong
  no_line too_long = (others e).0 (sym is ∙ too_long)

  pub no_port : result ≢ Status.PortFault
  no_port fault = (others e).1 (sym is ∙ fault)

  pub no_disk : result ≢ Status.DiskFault
  no_disk fault = (others e).2 (sym is ∙ fault)

  pub completes : (had has : Option (List ℕ)) (text : List ℕ) → dumped.Dumps had has e text → ((result ≡ Status.Ok) × Puts had has text) ⊎ (result ≡ Status.NoMemory)
  completes had has text (inl p) = inl (is ∙ ap status_of_dump p.0, p.1)
  completes had has text (inr p) = inr (is ∙ ap status_of_dump p)

  pub ends : (ending : DumpEnd) → dumped.Ends ending e → (result ≡ status_of_dump ending) ⊎ (result ≡ Status.NoMemory)
  ends ending (inl p) = inl (is ∙ ap status_of_dump p)
  ends ending (inr p) = inr (is ∙ ap status_of_dump p)
