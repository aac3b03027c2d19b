-- How the first waiting datagram is returned.
use Rattle.std.proofs.Common.{◌≡◌, ℕ, inl, inr, [], false, min, List, ◌++◌, length, take, drop, Ok, refl, ◌∙◌, sym, ap, subst, arith, length-take}
use Rattle.std.specs.Prelude.{IsTrue}
use Rattle.std.proofs.lemmas.List.{take_at, take_min}
use Rattle.crsm_port.specs.Meaning.{Meaning, Packet, Receives, Takes, Traffic}
use Rattle.crsm_port.specs.declared.port.Recv.TheVariants.{Datagram}
use Rattle.crsm_port.specs.Passing.{Datagrams, IsOf, NoMore}
use Rattle.crsm_port_peers.specs.Senders.{IsFirst, IsOfFirst, SpeaksForItself, own_of}

pub never : IsTrue false → ⊥
never is = cc

-- what was copied into the buffer is what the room holds of the datagram
copied : (room len : ℕ) (bytes after rest : List ℕ) → len ≡ min room (length bytes) → after ≡ take len bytes ++ rest → take len after ≡ take room bytes
copied room len bytes after rest size is =
    ap (take len) is ∙ take_at (take len bytes) rest len (omega (arith, length-take len bytes, size)) ∙ ap (λ (n : ℕ). take n bytes) size ∙ take_min room bytes

module _ (peers : List ℕ) (before after : List ℕ) (from len : ℕ) where
  module _ (d : Packet) (address : from ≡ d.address) (bytes : take len after ≡ take (length before) d.bytes) where
    -- the datagram may come from its address, where what was received may
    of_datagram : SpeaksForItself peers from (take len after) → SpeaksForItself peers d.address (take (length before) d.bytes)
    of_datagram own =
        subst (λ (a : ℕ). SpeaksForItself peers a (take (length before) d.bytes)) address (subst (λ (b : List ℕ). SpeaksForItself peers from b) bytes own)

    of_received : SpeaksForItself peers d.address (take (length before) d.bytes) → SpeaksForItself peers from (take len after)
    of_received own =
        subst (λ (b : List ℕ). SpeaksForItself peers from b) (sym bytes) (subst (λ (a : ℕ). SpeaksForItself peers a (take (length before) d.bytes)) (sym address) own)

  module _ (old new : Meaning) (r : Receives old new before after (Ok (Datagram from len))) where
    pub whole : SpeaksForItself peers from (take len after) → IsOfFirst peers old new (length before) after (Datagram from len)
    whole own = record { told = r.told; first = λ t u a b. is t u (r.taken t u a b) }
      where
        is : (t u : Traffic) → Takes old.framing t u before after (Datagram from len) → IsFirst peers old.framing (length before) t u after (Datagram from len)
        is t u (d, rest, waits, address, size, filled, gone) =
            let seen = old.framing.unwrap d in
            let bytes = copied (length before) len seen.bytes after (drop len before) size filled in
            (d, rest, waits, gone, record { address = address; own = λ _. (size, bytes); foreign = λ no. absurd (no (of_datagram seen address bytes own)) })

    pub nothing : (SpeaksForItself peers from (take len after) → ⊥) → IsOfFirst peers old new (length before) after (Datagram from 0)
    nothing foreign = record { told = r.told; first = λ t u a b. is t u (r.taken t u a b) }
      where
        is : (t u : Traffic) → Takes old.framing t u before after (Datagram from len) → IsFirst peers old.framing (length before) t u after (Datagram from 0)
        is t u (d, rest, waits, address, size, filled, gone) =
            let seen = old.framing.unwrap d in
            let bytes = copied (length before) len seen.bytes after (drop len before) size filled in
            (d, rest, waits, gone, record { address = address; own = λ own. absurd (foreign (of_received seen address bytes own)); foreign = λ _. refl })

-- ---- what is given

pub own_more : (peers : List ℕ) (D E : Datagrams) → NoMore D E → NoMore (own_of peers D) (own_of peers E)
own_more peers D E more a b is = elim is [
  | inl none ↦ inl none
  | inr w ↦ inr (w.0, more a b w.1)
]
