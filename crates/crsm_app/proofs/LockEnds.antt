-- A client at a lock by its status.
use Rattle.std.proofs.Common.{◌≡◌, ◌⊎◌, ℕ, inl, inr, List, Option, refl, sym, ◌∙◌, subst}
use Rattle.crsm_client.specs.declared.error.AskError.TheVariants.{PortFault}
use Rattle.crsm_port_faults.specs.Counts.{Rose}
use Rattle.crsm_cmd_lock.specs.Commands.{IsDone as EndsDone, IsNoAnswer, LockRan}
use Rattle.crsm_cmd_lock.specs.Learning.{Fails}
use Rattle.crsm_cmd_lock.specs.declared.command.LockEnd.{LockEnd}
use Rattle.crsm_cmd_lock.specs.declared.command.LockOrder.{LockOrder}
use Rattle.crsm_port.specs.Meaning.{Meaning}
use Rattle.crsm_app.specs.Exact.{IsDone, IsUnanswered}
use Rattle.crsm_app.specs.Statuses.{status_of_lock}
use Rattle.crsm_app.specs.declared.status.Status.{Status}

write_fault : (e : LockEnd) → status_of_lock e ≡ Status.WriteFault → e ≡ LockEnd.WriteFault
write_fault LockEnd.Done is = absurd (cc is)
write_fault LockEnd.PortFault is = absurd (cc is)
write_fault LockEnd.NoAnswer is = absurd (cc is)
write_fault LockEnd.WriteFault is = refl
write_fault LockEnd.NoMemory is = absurd (cc is)

done : (e : LockEnd) → EndsDone e → IsDone (status_of_lock e)
done LockEnd.Done is = inl refl
done LockEnd.PortFault is = absurd is
done LockEnd.NoAnswer is = absurd is
done LockEnd.WriteFault is = absurd is
done LockEnd.NoMemory is = inr refl

no_answer : (e : LockEnd) → IsNoAnswer e → IsUnanswered (status_of_lock e)
no_answer LockEnd.Done is = absurd is
no_answer LockEnd.PortFault is = absurd is
no_answer LockEnd.NoAnswer is = inl refl
no_answer LockEnd.WriteFault is = absurd is
no_answer LockEnd.NoMemory is = inr refl

-- the first request failed, or the second one, and no failure was counted in the first
fault_of : (order : LockOrder) (old new : Meaning) → Fails order old new PortFault → Rose old.faults new.faults ⊎ Rose old.losses new.losses
fault_of order old new (inl asks) = elim asks.ended.fault [
  | inl lost ↦ inr lost.0
  | inr failed ↦ inl failed.0
]
fault_of order old new (inr next) = elim next.1.asks.ended.fault [
  | inl lost ↦ inr (subst (λ (k : ℕ). Rose k new.losses) next.1.looks.ended.quiet.losses lost.0)
  | inr failed ↦ inl (subst (λ (k : ℕ). Rose k new.faults) next.1.looks.ended.quiet.faults failed.0)
]

port_failed : (order : LockOrder) (old new : Meaning) (had has : Option (List ℕ)) (e : LockEnd) → LockRan order old new had has e →
    status_of_lock e ≡ Status.PortFault → Rose old.faults new.faults ⊎ Rose old.losses new.losses
port_failed order old new had has LockEnd.Done ran is = absurd (cc is)
port_failed order old new had has LockEnd.PortFault ran is = fault_of order old new ran.0
port_failed order old new had has LockEnd.NoAnswer ran is = absurd (cc is)
port_failed order old new had has LockEnd.WriteFault ran is = absurd (cc is)
port_failed order old new had has LockEnd.NoMemory ran is = absurd (cc is)

module _ (e : LockEnd) (result : Status) (is : result ≡ status_of_lock e) where
  pub is_write_fault : result ≡ Status.WriteFault → e ≡ LockEnd.WriteFault
  is_write_fault fault = write_fault e (sym is ∙ fault)

  pub completes : EndsDone e → IsDone result
  completes ends = subst IsDone (sym is) (done e ends)

  pub is_unanswered : IsNoAnswer e → IsUnanswered result
  is_unanswered ends = subst IsUnanswered (sym is) (no_answer e ends)

  pub is_port_fault : (order : LockOrder) (old new : Meaning) (had has : Option (List ℕ)) → LockRan order old new had has e →
      result ≡ Status.PortFault → Rose old.faults new.faults ⊎ Rose old.losses new.losses
  is_port_fault order old new had has ran fault = port_failed order old new had has e ran (sym is ∙ fault)
