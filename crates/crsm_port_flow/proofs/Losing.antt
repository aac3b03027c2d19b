-- A datagram that goes no further is counted, by the reason.
use Rattle.std.proofs.Common.{◌≡◌, ℕ, List, inl, inr, refl}
use Rattle.crsm_port_flow.specs.Losses.{CountsLoss}
use Rattle.crsm_port_flow.specs.Lost.{ComesUnlessEarly, IsLost, MayDrop, MayLackMemory, TakesIn, WaitsForNone}
use Rattle.crsm_port_flow.specs.Taken.{IsPeer}
use Rattle.crsm_port_flow.specs.declared.datagram.Loss.{Loss}
use Rattle.crsm_port_flow.specs.declared.datagram.Loss.TheVariants.{Dropped, NoMemory}
use Rattle.crsm_port_flow.specs.declared.datagram.Losses.{Losses}
use Rattle.crsm_port_flow.specs.declared.hearing.Peer.{Peer}
use Rattle.crsm_port_flow.specs.declared.inbound.Inbound.{Inbound}

pub lost_as : (from : ℕ) (bytes : List ℕ) (peers : List Peer) (i : Inbound) (loss : Loss) (lost lost_now : Losses) → (loss ≡ Dropped → MayDrop from bytes peers i) → (loss ≡ NoMemory → MayLackMemory from bytes peers i) → CountsLoss loss lost lost_now → IsLost from bytes peers i lost lost_now
lost_as from bytes peers i Dropped lost lost_now may lacks counts = inl (may refl, counts)
lost_as from bytes peers i NoMemory lost lost_now may lacks counts = inr (lacks refl, counts)

-- what waits for no other frame is not dropped
pub not_dropped : (from : ℕ) (bytes : List ℕ) (peers : List Peer) (i : Inbound) → IsPeer from peers → WaitsForNone bytes i.peers → MayDrop from bytes peers i → ⊥
not_dropped from bytes peers i is none (inl (_, (sender, to, epoch, number, head, early, _))) = none sender to epoch number head early
not_dropped from bytes peers i is none (inr (stranger, _)) = stranger is

pub comes_unless_early : (from : ℕ) (bytes : List ℕ) (now : ℕ) (peers : List Peer) (i j : Inbound) (lost lost_now : Losses) → TakesIn from bytes now peers i j lost lost_now → ComesUnlessEarly from bytes now peers i j lost lost_now
comes_unless_early from bytes now peers i j lost lost_now (inl (comes, _)) is none = inl comes
comes_unless_early from bytes now peers i j lost lost_now (inr (_, _, inl (may, _))) is none = absurd (not_dropped from bytes peers i is none may)
comes_unless_early from bytes now peers i j lost lost_now (inr (_, _, inr (lacks, counts))) is none = inr (lacks is, counts)
