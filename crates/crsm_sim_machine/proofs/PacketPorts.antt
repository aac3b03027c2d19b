-- The receive of a `PacketPort` whose datagram waits.
use Rattle.std.proofs.Common.{◌≡◌, ℕ, min, List, [], ◌++◌, length, take, drop, Option, Some, None, Ok, Bor, refl, sym, ◌∙◌, ap, subst, arith}
use Rattle.crsm_port_faults.specs.Plan.{Plan}
use Rattle.crsm_port.specs.declared.port.Recv.TheVariants as got
use Rattle.crsm_port.specs.Meaning.{Packet, Receives, Takes, Traffic, plain}
use Rattle.crsm_sim_machine.specs.declared.packet_port.PacketPort.{PacketPort}
use Rattle.crsm_sim_machine.specs.declared.packet_port.Slot.{Slot}
use Rattle.crsm_sim_machine.specs.declared.packet_port.Slot.TheVariants as slot
use Rattle.crsm_sim_machine.specs.PacketPorts.{meaning_of, traffic_of}

abbrev nothing_told : Traffic
nothing_told = record { waiting = []; taken = []; sent = [] }

abbrev traffic_or : Option Traffic → Traffic
traffic_or None = nothing_told
traffic_or (Some t) = t

no_plan : (p : Plan) → None ≡ Some p → ⊥
no_plan p h = cc

-- the datagram that waits is taken
takes : (from : ℕ) (bytes : Bor (List ℕ)) (before after : List ℕ) (len : ℕ) → len ≡ min (length before) (length bytes.now) → after ≡ take len bytes.now ++ drop len before → (t u : Traffic) →
    Some (traffic_of (slot.Waits from bytes)) ≡ Some t → Some (traffic_of (slot.Taken from bytes)) ≡ Some u → Takes plain t u before after (got.Datagram from len)
takes from bytes before after len size copied t u told new =
    let d : Packet = record { address = from; bytes = bytes.now } in
    let first : Takes plain (traffic_of (slot.Waits from bytes)) (traffic_of (slot.Taken from bytes)) before after (got.Datagram from len) = (d, [], refl, refl, size, copied, refl) in
    subst (λ (x : Traffic). Takes plain x u before after (got.Datagram from len)) (ap traffic_or told)
    (subst (λ (x : Traffic). Takes plain (traffic_of (slot.Waits from bytes)) x before after (got.Datagram from len)) (ap traffic_or new) first)

-- the inlet before and after
abbrev packet_port_of : Slot → (empties losses : ℕ) → PacketPort
packet_port_of l empties losses = record { slot = l; empties = empties; losses = losses }

pub came : (l : Slot) (from : ℕ) (bytes : Bor (List ℕ)) (empties losses : ℕ) (before after : List ℕ) (len : ℕ) → l ≡ slot.Waits from bytes → len ≡ min (length before) (length bytes.now)
    → after ≡ take len bytes.now ++ drop len before
    → Receives (meaning_of (packet_port_of l empties losses)) (meaning_of (packet_port_of (slot.Taken from bytes) empties losses)) before after (Ok (got.Datagram from len))
came l from bytes empties losses before after len is size copied = record {
  within = omega (arith, size);
  losses = refl;
  later = omega arith;
  failed = tt;
  no_fault = refl;
  empties = refl;
  not_empty = tt;
  taken = λ t u told new. takes from bytes before after len size copied t u (ap (λ (k : Slot). Some (traffic_of k)) (sym is) ∙ told) new;
  untaken = tt;
  too_long = refl;
  told = (λ _. refl, λ _. refl);
  framing = refl;
  borrowed_as = refl;
  plan = record {
    untold = λ _. refl;
    told = λ p h. absurd (no_plan p h);
    exact = λ p h. absurd (no_plan p h);
    spends = λ p h. absurd (no_plan p h);
  };
}
