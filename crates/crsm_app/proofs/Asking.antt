-- A client and an operator by their statuses.
use Rattle.std.proofs.Common.{◌≡◌, ◌≢◌, ◌⊎◌, ℕ, inl, inr, List, Option, Result, Ok, Err, refl, sym, ◌∙◌, subst}
use Rattle.crsm_client.specs.Commands.{ClientRan, IsDone as EndsDone, IsNoAnswer}
use Rattle.crsm_client.specs.Operating.{Operates}
use Rattle.crsm_client.specs.declared.command.ClientEnd.{ClientEnd}
use Rattle.crsm_client.specs.declared.command.ClientOrder.{ClientOrder}
use Rattle.crsm_client.specs.declared.error.OperateError.{OperateError}
use Rattle.crsm_port_faults.specs.Counts.{Rose}
use Rattle.crsm_port.specs.Meaning.{Meaning}
use Rattle.crsm_app.specs.Exact.{IsDone, IsUnanswered}
use Rattle.crsm_app.specs.Statuses.{status_of_client, status_of_operate}
use Rattle.crsm_app.specs.declared.status.Status.{Status}

-- ---- a client

write_fault : (e : ClientEnd) → status_of_client e ≡ Status.WriteFault → e ≡ ClientEnd.WriteFault
write_fault ClientEnd.Done is = absurd (cc is)
write_fault ClientEnd.PortFault is = absurd (cc is)
write_fault ClientEnd.NoAnswer is = absurd (cc is)
write_fault ClientEnd.WriteFault is = refl
write_fault ClientEnd.NoMemory is = absurd (cc is)

done : (e : ClientEnd) → EndsDone e → IsDone (status_of_client e)
done ClientEnd.Done is = inl refl
done ClientEnd.PortFault is = absurd is
done ClientEnd.NoAnswer is = absurd is
done ClientEnd.WriteFault is = absurd is
done ClientEnd.NoMemory is = inr refl

no_answer : (e : ClientEnd) → IsNoAnswer e → IsUnanswered (status_of_client e)
no_answer ClientEnd.Done is = absurd is
no_answer ClientEnd.PortFault is = absurd is
no_answer ClientEnd.NoAnswer is = inl refl
no_answer ClientEnd.WriteFault is = absurd is
no_answer ClientEnd.NoMemory is = inr refl

-- it reads no input
reads_none : (e : ClientEnd) → (status_of_client e ≢ Status.ReadFault) × (status_of_client e ≢ Status.InputTooLong)
reads_none ClientEnd.Done = (λ is. (cc is), λ is. (cc is))
reads_none ClientEnd.PortFault = (λ is. (cc is), λ is. (cc is))
reads_none ClientEnd.NoAnswer = (λ is. (cc is), λ is. (cc is))
reads_none ClientEnd.WriteFault = (λ is. (cc is), λ is. (cc is))
reads_none ClientEnd.NoMemory = (λ is. (cc is), λ is. (cc is))

port_failed : (cluster : ℕ) (order : ClientOrder) (old new : Meaning) (had has : Option (List ℕ)) (e : ClientEnd) → ClientRan cluster order old new had has e →
    status_of_client e ≡ Status.PortFault → Rose old.faults new.faults ⊎ Rose old.losses new.losses
port_failed cluster order old new had has ClientEnd.Done ran is = absurd (cc is)
port_failed cluster order old new had has ClientEnd.PortFault ran is = elim ran.0.ended.fault [
  | inl lost ↦ inr lost.0
  | inr failed ↦ inl failed.0
]
port_failed cluster order old new had has ClientEnd.NoAnswer ran is = absurd (cc is)
port_failed cluster order old new had has ClientEnd.WriteFault ran is = absurd (cc is)
port_failed cluster order old new had has ClientEnd.NoMemory ran is = absurd (cc is)

module _ (e : ClientEnd) (result : Status) (is : result ≡ status_of_client e) where
  pub is_write_fault : result ≡ Status.WriteFault → e ≡ ClientEnd.WriteFault
  is_write_fault fault = write_fault e (sym is ∙ fault)

  pub completes : EndsDone e → IsDone result
  completes ends = subst IsDone (sym is) (done e ends)

  pub is_unanswered : IsNoAnswer e → IsUnanswered result
  is_unanswered ends = subst IsUnanswered (sym is) (no_answer e ends)

  pub client_reads_none : (result ≢ Status.ReadFault) × (result ≢ Status.InputTooLong)
  client_reads_none = let none = reads_none e in (λ (f : result ≡ Status.ReadFault). none.0 (sym is ∙ f), λ (f : result ≡ Status.InputTooLong). none.1 (sym is ∙ f))

  pub is_port_fault : (cluster : ℕ) (order : ClientOrder) (old new : Meaning) (had has : Option (List ℕ)) → ClientRan cluster order old new had has e →
      result ≡ Status.PortFault → Rose old.faults new.faults ⊎ Rose old.losses new.losses
  is_port_fault cluster order old new had has ran fault = port_failed cluster order old new had has e ran (sym is ∙ fault)

-- ---- an operator

operated : (cluster to : ℕ) (members : List ℕ) (old new : Meaning) (e : Result (Unit {0}) OperateError) → Operates cluster to members old new e →
    ¬ (Rose old.losses new.losses) → IsDone (status_of_operate e)
operated cluster to members old new (Ok u) did no_loss = inl refl
operated cluster to members old new (Err OperateError.PortFault) did no_loss = absurd (no_loss (did.fault refl))
operated cluster to members old new (Err OperateError.NoMemory) did no_loss = inr refl

lost : (cluster to : ℕ) (members : List ℕ) (old new : Meaning) (e : Result (Unit {0}) OperateError) → Operates cluster to members old new e →
    status_of_operate e ≡ Status.PortFault → Rose old.losses new.losses
lost cluster to members old new (Ok u) did is = absurd (cc is)
lost cluster to members old new (Err OperateError.PortFault) did is = did.fault refl
lost cluster to members old new (Err OperateError.NoMemory) did is = absurd (cc is)

operate_no_stream : (e : Result (Unit {0}) OperateError) →
    (status_of_operate e ≢ Status.ReadFault) × (status_of_operate e ≢ Status.WriteFault) × (status_of_operate e ≢ Status.InputTooLong)
operate_no_stream (Ok u) = (λ is. (cc is), λ is. (cc is), λ is. (cc is))
operate_no_stream (Err OperateError.PortFault) = (λ is. (cc is), λ is. (cc is), λ is. (cc is))
operate_no_stream (Err OperateError.NoMemory) = (λ is. (cc is), λ is. (cc is), λ is. (cc is))

module _ (e : Result (Unit {0}) OperateError) (result : Status) (is : result ≡ status_of_operate e) where
  pub operates : (cluster to : ℕ) (members : List ℕ) (old new : Meaning) → Operates cluster to members old new e → ¬ (Rose old.losses new.losses) → IsDone result
  operates cluster to members old new did no_loss = subst IsDone (sym is) (operated cluster to members old new e did no_loss)

  pub is_lost : (cluster to : ℕ) (members : List ℕ) (old new : Meaning) → Operates cluster to members old new e → result ≡ Status.PortFault → Rose old.losses new.losses
  is_lost cluster to members old new did fault = lost cluster to members old new e did (sym is ∙ fault)

  pub operate_uses_no_stream : (result ≢ Status.ReadFault) × (result ≢ Status.WriteFault) × (result ≢ Status.InputTooLong)
  operate_uses_no_stream =
      let none = operate_no_stream e in
      (λ (f : result ≡ Status.ReadFault). none.0 (sym is ∙ f), λ (f : result ≡ Status.WriteFault). none.1 (sym is ∙ f), λ (f : result ≡ Status.InputTooLong). none.2 (sym is ∙ f))
