-- A request with reserved memory, which was sent or not.
use Rattle.std.proofs.Common.{◌≡◌, ◌∙◌, ℕ, List, Result, Ok, Err, IsErrAnd, ap, subst, arith}
use Rattle.crsm_base.specs.declared.memory.Failed.{Failed}
use Rattle.crsm_port_faults.specs.Counts.{Rose}
use Rattle.crsm_port.specs.Cluster.{over, wrapped}
use Rattle.crsm_port.specs.Meaning.{Framing, Meaning, Packet, Sends}
use Rattle.crsm_client.specs.Exchange.{Exchanges}
use Rattle.crsm_client.specs.Turns.{SendsRequests, requests}
use Rattle.crsm_client.specs.declared.error.AskError.{AskError}
use Rattle.crsm_client.specs.declared.error.AskError.TheVariants.{PortFault, NoMemory}
use Rattle.crsm_client.proofs.Exchanging.{none_exchanged, sent, with_room}

module _ (T : Type 0) (cluster to : ℕ) (datagram : List ℕ) where
  no_room : (old mid : Meaning) → mid ≡ record old { plan = mid.plan } → SendsRequests {T = T} 1 cluster (record { address = to; bytes = datagram }) old mid (Err NoMemory)
  no_room old mid same = (
    none_exchanged (over cluster old.framing) (record { address = to; bytes = datagram }) old mid (ap (λ (m : Meaning). m.traffic) same) (ap (λ (m : Meaning). m.empties) same)
        (ap (λ (m : Meaning). m.framing) same) (ap (λ (m : Meaning). m.borrowed_as) same),
    record { faults = ap (λ (m : Meaning). m.faults) same; losses = ap (λ (m : Meaning). m.losses) same },
  )

  pub had_no_room : (old mid : Meaning) (r : Result T AskError) → mid ≡ record old { plan = mid.plan } → IsErrAnd r (λ e. e ≡ NoMemory)
      → SendsRequests 1 cluster (record { address = to; bytes = datagram }) old mid r
  had_no_room old mid (Ok x) same is = absurd is
  had_no_room old mid (Err e) same is = rw is (no_room old mid same)

module _ {T : Type 0} (cluster to : ℕ) (datagram bytes : List ℕ) (old mid new : Meaning) (same : mid ≡ record old { plan = mid.plan }) (is : bytes ≡ wrapped cluster datagram) where
  pub was_lost : (e : Failed) → Sends {T = T} to bytes mid new (Err e) → SendsRequests {T = T} 1 cluster (record { address = to; bytes = datagram }) old new (Err PortFault)
  was_lost e s =
      let faults : mid.faults ≡ old.faults = ap (λ (m : Meaning). m.faults) same in
      let losses : mid.losses ≡ old.losses = ap (λ (m : Meaning). m.losses) same in (
        none_exchanged (over cluster old.framing) (record { address = to; bytes = datagram }) old new (s.unsent ∙ ap (λ (m : Meaning). m.traffic) same) (s.empties ∙ ap (λ (m : Meaning). m.empties) same)
            (s.framing ∙ ap (λ (m : Meaning). m.framing) same) (s.borrowed_as ∙ ap (λ (m : Meaning). m.borrowed_as) same),
        subst (λ (n : ℕ). Rose n new.losses) losses s.failed,
        record { faults = omega (arith, s.faults, faults); losses = omega (arith, s.later, losses) },
      )

  pub was_sent : (x : T) → Sends to bytes mid new (Ok x) → SendsRequests 1 cluster (record { address = to; bytes = datagram }) old new (Ok x)
  was_sent x s =
      let faults : mid.faults ≡ old.faults = ap (λ (m : Meaning). m.faults) same in
      let losses : mid.losses ≡ old.losses = ap (λ (m : Meaning). m.losses) same in
      let request : Packet = record { address = to; bytes = datagram } in
      let P : Framing → Type 0 = λ k. Exchanges (over cluster k) request (requests 1) mid new in (
        with_room (over cluster old.framing) request (requests 1) old mid new same (subst P (ap (λ (m : Meaning). m.framing) same) (sent cluster to bytes datagram mid new x is s)),
        record { faults = s.faults ∙ faults; losses = s.no_loss ∙ losses },
      )
