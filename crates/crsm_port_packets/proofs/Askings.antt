-- What the port below is asked until a datagram goes up.
use Rattle.std.proofs.Common.{◌≡◌, ◌+◌, ℕ, suc, List, Option, Some, None, Ok, Err, Result, take, true, refl, sym, subst, inl, inr, arith}
use Rattle.std.specs.Prelude.{IfSome, IsErrAnd}
use Rattle.crsm_base.specs.declared.memory.Failed.{Failed}
use Rattle.crsm_port.specs.Meaning.{Receives}
use Rattle.crsm_port.specs.declared.port.Recv.{Recv}
use Rattle.crsm_port.specs.declared.port.Recv.TheVariants.{Nothing, Datagram}
use Rattle.crsm_port_packets.specs.Asking.{Asks, AsksUntil, PacketsCome, Taker}
use Rattle.crsm_port_packets.specs.Format.{is_packed}
use Rattle.crsm_port_packets.specs.Receiving.{IsAsItIs, IsDatagram, IsOpenedOf, NoneLeft, TakesNext}

module _ (addresses : List ℕ) (now most : ℕ) (buffer : List ℕ) (old new : Taker) where
  -- the next datagram of a bundle goes up
  pub bundle_asks : (got : Recv) → new.below ≡ old.below → IsDatagram got → TakesNext old.held.unpacking new.held.unpacking most buffer got → Asks addresses now most buffer old new (Ok (Some got))
  bundle_asks Nothing same is goes = absurd is
  bundle_asks (Datagram from len) same is goes = inl (same, goes)

  -- a packet comes
  pub packet_asks : (before room : List ℕ) (from len : ℕ) (got : Option Recv) → NoneLeft old.held.unpacking → Receives old.below new.below before room (Ok (Datagram from len)) → (got ≡ None → is_packed (take len room) ≡ true)
      → (got ≡ None → IsOpenedOf addresses from now (take len room) old.held new.held) → IfSome got IsDatagram → IfSome got (IsAsItIs from (take len room) most buffer) → Asks addresses now most buffer old new (Ok got)
  packet_asks before room from len None none receives packed opened is goes = (before, room, from, len, none, receives, packed refl, opened refl)
  packet_asks before room from len (Some Nothing) none receives packed opened is goes = absurd is
  packet_asks before room from len (Some (Datagram address size)) none receives packed opened is goes = inr (before, room, from, len, none, receives, goes)

pub one_came : (addresses : List ℕ) (now most : ℕ) (buffer : List ℕ) (n : ℕ) (old mid new : Taker) (got : Option Recv) → got ≡ None → PacketsCome addresses now n old mid → Asks addresses now most buffer mid new (Ok got) → PacketsCome addresses now (n + 1) old new
one_came addresses now most buffer n old mid new got none came asks =
    let next : n + 1 ≡ suc n = omega arith in
    subst (λ (k : ℕ). PacketsCome addresses now k old new) (sym next) (mid, came, subst (λ (g : Option Recv). Asks addresses now most buffer mid new (Ok g)) none asks)

module _ (addresses : List ℕ) (now most : ℕ) (buffer : List ℕ) (n : ℕ) (old last new : Taker) (came : PacketsCome addresses now n old last) where
  pub ends_some : (got : Recv) → Asks addresses now most buffer last new (Ok (Some got)) → AsksUntil addresses now most buffer old new (Ok got)
  ends_some Nothing asks = (n, last, came, inl asks)
  ends_some (Datagram from len) asks = (n, last, came, asks)

  -- it fails, and the error is passed on
  pub ends_failed : (e : Failed) (r : Result Recv Failed) → IsErrAnd r (λ x. x ≡ e) → Asks addresses now most buffer last new (Err e) → AsksUntil addresses now most buffer old new r
  ends_failed e (Ok got) is asks = absurd is
  ends_failed e (Err x) is asks = (n, last, came, asks)

pub fails_so : (addresses : List ℕ) (now most : ℕ) (buffer : List ℕ) (old new : Taker) (e : Failed) (r : Result (Option Recv) Failed) → IsErrAnd r (λ x. x ≡ e) → Asks addresses now most buffer old new (Err e) → Asks addresses now most buffer old new r
fails_so addresses now most buffer old new e (Ok got) is asks = absurd is
fails_so addresses now most buffer old new e (Err x) is asks = asks
