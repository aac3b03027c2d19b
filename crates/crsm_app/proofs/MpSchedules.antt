-- A schedule of a store with a leader by its status.
use Rattle.std.proofs.Common.{◌≡◌, ◌≢◌, ℕ, inl, inr, List, Option, refl, ap, sym, ◌∙◌, subst}
use Rattle.crsm_port_lines.specs.Exact as loop
use Rattle.crsm_port_lines.specs.declared.InputEnd.{InputEnd}
use Rattle.crsm_mpreplay.specs.Run as led
use Rattle.crsm_sim_schedule.specs.declared.Cause.{Cause}
use Rattle.crsm_app.specs.Did.{DidReplayMp}
use Rattle.crsm_app.specs.Exact.{IsDone, IsRefusedMp, IsTooLong}
use Rattle.crsm_app.specs.Statuses.{status_of_replay_mp}
use Rattle.crsm_app.specs.declared.status.Status.{Status}

did : (e : InputEnd Cause) (b a d w : Option (List ℕ)) → led.Ran e b a d w → DidReplayMp (status_of_replay_mp e) b a d w
unfolding led.Ran DidReplayMp
did InputEnd.Done b a d w ran = ran
did (InputEnd.BadLine line why) b a d w ran = ran
did InputEnd.ReadFault b a d w ran = ran
did InputEnd.WriteFault b a d w ran = ran
did InputEnd.NoMemory b a d w ran = ran
did InputEnd.InputTooLong b a d w ran = ran

read_fault : (e : InputEnd Cause) → status_of_replay_mp e ≡ Status.ReadFault → e ≡ InputEnd.ReadFault
read_fault InputEnd.Done is = absurd (cc is)
read_fault (InputEnd.BadLine line why) is = absurd (cc is)
read_fault InputEnd.ReadFault is = refl
read_fault InputEnd.WriteFault is = absurd (cc is)
read_fault InputEnd.NoMemory is = absurd (cc is)
read_fault InputEnd.InputTooLong is = absurd (cc is)

write_fault : (e : InputEnd Cause) → status_of_replay_mp e ≡ Status.WriteFault → e ≡ InputEnd.WriteFault
write_fault InputEnd.Done is = absurd (cc is)
write_fault (InputEnd.BadLine line why) is = absurd (cc is)
write_fault InputEnd.ReadFault is = absurd (cc is)
write_fault InputEnd.WriteFault is = refl
write_fault InputEnd.NoMemory is = absurd (cc is)
write_fault InputEnd.InputTooLong is = absurd (cc is)

done : (e : InputEnd Cause) → status_of_replay_mp e ≡ Status.Ok → e ≡ InputEnd.Done
done InputEnd.Done is = refl
done (InputEnd.BadLine line why) is = absurd (cc is)
done InputEnd.ReadFault is = absurd (cc is)
done InputEnd.WriteFault is = absurd (cc is)
done InputEnd.NoMemory is = absurd (cc is)
done InputEnd.InputTooLong is = absurd (cc is)

long : (e : InputEnd Cause) → status_of_replay_mp e ≡ Status.InputTooLong → e ≡ InputEnd.InputTooLong
long InputEnd.Done is = absurd (cc is)
long (InputEnd.BadLine line why) is = absurd (cc is)
long InputEnd.ReadFault is = absurd (cc is)
long InputEnd.WriteFault is = absurd (cc is)
long InputEnd.NoMemory is = absurd (cc is)
long InputEnd.InputTooLong is = refl

no_port : (e : InputEnd Cause) → status_of_replay_mp e ≡ Status.PortFault → ⊥
no_port InputEnd.Done is = cc is
no_port (InputEnd.BadLine line why) is = cc is
no_port InputEnd.ReadFault is = cc is
no_port InputEnd.WriteFault is = cc is
no_port InputEnd.NoMemory is = cc is
no_port InputEnd.InputTooLong is = cc is

no_disk : (e : InputEnd Cause) → status_of_replay_mp e ≡ Status.DiskFault → ⊥
no_disk InputEnd.Done is = cc is
no_disk (InputEnd.BadLine line why) is = cc is
no_disk InputEnd.ReadFault is = cc is
no_disk InputEnd.WriteFault is = cc is
no_disk InputEnd.NoMemory is = cc is
no_disk InputEnd.InputTooLong is = cc is

module _ (e : InputEnd Cause) (result : Status) (is : result ≡ status_of_replay_mp e) where
  pub did_so : (b a d w : Option (List ℕ)) → led.Ran e b a d w → DidReplayMp result b a d w
  did_so b a d w ran = subst (λ (s : Status). DidReplayMp s b a d w) (sym is) (did e b a d w ran)

  pub is_read_fault : result ≡ Status.ReadFault → e ≡ InputEnd.ReadFault
  is_read_fault fault = read_fault e (sym is ∙ fault)

  pub is_write_fault : result ≡ Status.WriteFault → e ≡ InputEnd.WriteFault
  is_write_fault fault = write_fault e (sym is ∙ fault)

  pub is_done : result ≡ Status.Ok → e ≡ InputEnd.Done
  is_done ok = done e (sym is ∙ ok)

  pub is_long : result ≡ Status.InputTooLong → e ≡ InputEnd.InputTooLong
  is_long too_long = long e (sym is ∙ too_long)

  pub is_no_port : result ≢ Status.PortFault
  is_no_port fault = no_port e (sym is ∙ fault)

  pub is_no_disk : result ≢ Status.DiskFault
  is_no_disk fault = no_disk e (sym is ∙ fault)

  pub completes : loop.IsDone e → IsDone result
  completes (inl p) = inl (is ∙ ap status_of_replay_mp p)
  completes (inr p) = inr (is ∙ ap status_of_replay_mp p)

  pub refuses : (line : ℕ) (cause : Cause) → led.IsRefused line cause e → IsRefusedMp line cause result
  refuses line cause (inl p) = inl (is ∙ ap status_of_replay_mp p.is ∙ ap (λ (c : Cause). Status.BadMpInput line c) p.told)
  refuses line cause (inr p) = inr (is ∙ ap status_of_replay_mp p)

  pub is_too_long : loop.IsTooLong e → IsTooLong result
  is_too_long (inl p) = inl (is ∙ ap status_of_replay_mp p)
  is_too_long (inr p) = inr (is ∙ ap status_of_replay_mp p)
