-- A plan by its status.
use Rattle.std.proofs.Common.{◌≡◌, ◌≢◌, ℕ, inl, inr, List, Option, refl, ap, sym, ◌∙◌, subst}
use Rattle.crsm_delay.specs.Reading.{plans_of}
use Rattle.crsm_delay.specs.declared.handling.PlanCause.{PlanCause}
use Rattle.crsm_delay.specs.declared.handling.Wanted.{Wanted}
use Rattle.crsm_port_lines.specs.Exact as loop
use Rattle.crsm_port_lines.specs.Run as lines
use Rattle.crsm_port_lines.specs.declared.InputEnd.{InputEnd}
use Rattle.crsm_sim_schedule.specs.declared.Cause.{Cause}
use Rattle.crsm_app.specs.Did.{DidPlan}
use Rattle.crsm_app.specs.Exact.{IsDone, IsRefused, IsTooLong}
use Rattle.crsm_app.specs.Statuses.{status_of_delay}
use Rattle.crsm_app.specs.declared.status.Status.{Status}

did : (wanted : Wanted) (e : InputEnd PlanCause) (b a d w : Option (List ℕ)) → lines.Ran (plans_of wanted) e b a d w → DidPlan wanted (status_of_delay e) b a d w
unfolding lines.Ran DidPlan
did wanted InputEnd.Done b a d w ran = ran
did wanted (InputEnd.BadLine line why) b a d w ran = (refl, why, ran)
did wanted InputEnd.ReadFault b a d w ran = ran
did wanted InputEnd.WriteFault b a d w ran = ran
did wanted InputEnd.NoMemory b a d w ran = ran
did wanted InputEnd.InputTooLong b a d w ran = ran

read_fault : (e : InputEnd PlanCause) → status_of_delay e ≡ Status.ReadFault → e ≡ InputEnd.ReadFault
read_fault InputEnd.Done is = absurd (cc is)
read_fault (InputEnd.BadLine line why) is = absurd (cc is)
read_fault InputEnd.ReadFault is = refl
read_fault InputEnd.WriteFault is = absurd (cc is)
read_fault InputEnd.NoMemory is = absurd (cc is)
read_fault InputEnd.InputTooLong is = absurd (cc is)

write_fault : (e : InputEnd PlanCause) → status_of_delay e ≡ Status.WriteFault → e ≡ InputEnd.WriteFault
write_fault InputEnd.Done is = absurd (cc is)
write_fault (InputEnd.BadLine line why) is = absurd (cc is)
write_fault InputEnd.ReadFault is = absurd (cc is)
write_fault InputEnd.WriteFault is = refl
write_fault InputEnd.NoMemory is = absurd (cc is)
write_fault InputEnd.InputTooLong is = absurd (cc is)

done : (e : InputEnd PlanCause) → status_of_delay e ≡ Status.Ok → e ≡ InputEnd.Done
done InputEnd.Done is = refl
done (InputEnd.BadLine line why) is = absurd (cc is)
done InputEnd.ReadFault is = absurd (cc is)
done InputEnd.WriteFault is = absurd (cc is)
done InputEnd.NoMemory is = absurd (cc is)
done InputEnd.InputTooLong is = absurd (cc is)

long : (e : InputEnd PlanCause) → status_of_delay e ≡ Status.InputTooLong → e ≡ InputEnd.InputTooLong
long InputEnd.Done is = absurd (cc is)
long (InputEnd.BadLine line why) is = absurd (cc is)
long InputEnd.ReadFault is = absurd (cc is)
long InputEnd.WriteFault is = absurd (cc is)
long InputEnd.NoMemory is = absurd (cc is)
long InputEnd.InputTooLong is = refl

no_port : (e : InputEnd PlanCause) → status_of_delay e ≡ Status.PortFault → ⊥
no_port InputEnd.Done is = cc is
no_port (InputEnd.BadLine line why) is = cc is
no_port InputEnd.ReadFault is = cc is
no_port InputEnd.WriteFault is = cc is
no_port InputEnd.NoMemory is = cc is
no_port InputEnd.InputTooLong is = cc is

no_disk : (e : InputEnd PlanCause) → status_of_delay e ≡ Status.DiskFault → ⊥
no_disk InputEnd.Done is = cc is
no_disk (InputEnd.BadLine line why) is = cc is
no_disk InputEnd.ReadFault is = cc is
no_disk InputEnd.WriteFault is = cc is
no_disk InputEnd.NoMemory is = cc is
no_disk InputEnd.InputTooLong is = cc is

module _ (wanted : Wanted) (e : InputEnd PlanCause) (result : Status) (is : result ≡ status_of_delay e) where
  pub did_so : (b a d w : Option (List ℕ)) → lines.Ran (plans_of wanted) e b a d w → DidPlan wanted result b a d w
  did_so b a d w ran = subst (λ (s : Status). DidPlan wanted s b a d w) (sym is) (did wanted e b a d w ran)

  pub is_read_fault : result ≡ Status.ReadFault → e ≡ InputEnd.ReadFault
  is_read_fault fault = read_fault e (sym is ∙ fault)

  pub is_write_fault : result ≡ Status.WriteFault → e ≡ InputEnd.WriteFault
  is_write_fault fault = write_fault e (sym is ∙ fault)

  pub is_done : result ≡ Status.Ok → e ≡ InputEnd.Done
  is_done ok = done e (sym is ∙ ok)

  pub is_long : result ≡ Status.InputTooLong → e ≡ InputEnd.InputTooLong
  is_long too_long = long e (sym is ∙ too_long)

  pub is_no_port : result ≢ Status.PortFault
  is_no_port fault = no_port e (sym is ∙ fault)

  pub is_no_disk : result ≢ Status.DiskFault
  is_no_disk fault = no_disk e (sym is ∙ fault)

  pub completes : loop.IsDone e → IsDone result
  completes (inl p) = inl (is ∙ ap status_of_delay p)
  completes (inr p) = inr (is ∙ ap status_of_delay p)

  pub refuses : (x : loop.Exact (plans_of wanted)) (line : ℕ) (why : PlanCause) → loop.IsRefused (plans_of wanted) x line why e → IsRefused line Cause.Unreadable result
  refuses x line why (inl p) = inl (is ∙ ap status_of_delay p.is)
  refuses x line why (inr p) = inr (is ∙ ap status_of_delay p)

  pub is_too_long : loop.IsTooLong e → IsTooLong result
  is_too_long (inl p) = inl (is ∙ ap status_of_delay p)
  is_too_long (inr p) = inr (is ∙ ap status_of_delay p)
