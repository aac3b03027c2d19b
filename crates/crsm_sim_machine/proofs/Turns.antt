-- The input that a shell takes at an arrival at its machine.
use Rattle.std.proofs.Common.{◌≡◌, ℕ, ◌≤◌, List, [], ◌∷◌, length, take, Result, Ok, Err, Option, Some, None, is_some, refl, sym, ◌∙◌, ap, subst}
use mathlib.Core.Bool.{false≢true}
use Rattle.crsm_port.specs.Meaning.{Packet, Traffic, plain}
use Rattle.crsm_spec.specs.Node.{Turn}
use Rattle.crsm_replica_io.specs.declared.input.WantedInput.{WantedInput}
use Rattle.crsm_replica_io.specs.declared.input.WantedInput.TheVariants as what
use Rattle.crsm_replica_io.specs.declared.input.ReceivedInput.{ReceivedInput}
use Rattle.crsm_replica_io.specs.declared.input.ReceivedInput.TheVariants as taken
use Rattle.crsm_replica_io.specs.declared.input.TakeError.{TakeError}
use Rattle.crsm_replica_io.specs.Input.{TakesInput, IsFirst}
use Rattle.crsm_shell.specs.Taking.{turn_of as turn_taken}
use Rattle.crsm_sim_machine.specs.declared.arrival.Arrival.{Arrival}
use Rattle.crsm_sim_machine.specs.declared.arrival.Arrival.TheVariants as arrival
use Rattle.crsm_sim_machine.specs.declared.packet_port.PacketPort.{PacketPort}
use Rattle.crsm_sim_machine.specs.Arriving.{turn_of, Asks}
use Rattle.crsm_sim_machine.specs.PacketPorts.{meaning_of, traffic_of}

-- what was taken, if anything
abbrev taken_of : Result ReceivedInput TakeError → ReceivedInput
taken_of (Ok t) = t
taken_of (Err e) = taken.Tick

abbrev first_packet : List Packet → Option Packet
first_packet [] = None
first_packet (d ∷ packets) = Some d

abbrev packet_or : Packet → Option Packet → Packet
packet_or d None = d
packet_or d (Some e) = e

nothing : (d : Packet) → [] ≡ d ∷ [] → ⊥
nothing d e = false≢true (ap (λ (ds : List Packet). is_some (first_packet ds)) e)

-- of one datagram that waits, all that the buffer holds is taken
received : (from : ℕ) (bytes : List ℕ) → (t u : Traffic) → t.waiting ≡ (record { address = from; bytes = bytes }) ∷ [] → (buffer : List ℕ) (got : ReceivedInput) → IsFirst 8192 buffer plain t u got →
    turn_taken buffer got ≡ Turn.In from (take 8192 bytes)
unfolding turn_taken
received from bytes t u waits buffer taken.Tick first =
    let one : Packet = record { address = from; bytes = bytes } in
    let none : [] ≡ one ∷ [] = sym first.0 ∙ waits in
    absurd (nothing one none)
received from bytes t u waits buffer (taken.Datagram k len) first =
    let one : Packet = record { address = from; bytes = bytes } in
    let same : first.0 ≡ one = ap (λ (ds : List Packet). packet_or one (first_packet ds)) (sym first.2 ∙ waits) in
    let address : k ≡ from = first.3 ∙ ap (λ (d : Packet). d.address) same in
    let whole : take len buffer ≡ take 8192 bytes = first.4 ∙ ap (λ (d : Packet). take 8192 d.bytes) same in
    ap (λ (x : ℕ). Turn.In x (take len buffer)) address ∙ ap (Turn.In from) whole
received from bytes t u waits buffer (taken.Suspect ms) first = absurd first

-- what is taken off a port where this waits is the turn of it
pub turn_arrives : (c : Arrival) (p u : PacketPort) (wanted : WantedInput) (buffer : List ℕ) (got : ReceivedInput) → Asks c wanted p → TakesInput wanted 8192 buffer (meaning_of p) (meaning_of u) (Ok got) →
    turn_taken buffer got ≡ turn_of c
unfolding turn_of turn_taken
turn_arrives (arrival.Bytes from bytes) p u wanted buffer got asks takes =
    let it : TakesInput what.Receive 8192 buffer (meaning_of p) (meaning_of u) (Ok got) = subst (λ w. TakesInput w 8192 buffer (meaning_of p) (meaning_of u) (Ok got)) asks.0 takes in
    received from bytes.now (traffic_of p.slot) (traffic_of u.slot) asks.1 buffer got (it.first (traffic_of p.slot) (traffic_of u.slot) refl refl)
turn_arrives arrival.Tick p u wanted buffer got asks takes =
    let it : TakesInput what.Tick 8192 buffer (meaning_of p) (meaning_of u) (Ok got) = subst (λ w. TakesInput w 8192 buffer (meaning_of p) (meaning_of u) (Ok got)) asks takes in
    ap (λ (r : Result ReceivedInput TakeError). turn_taken buffer (taken_of r)) it.1
turn_arrives (arrival.Suspect ms) p u wanted buffer got asks takes =
    let it : TakesInput (what.Suspect ms) 8192 buffer (meaning_of p) (meaning_of u) (Ok got) = subst (λ w. TakesInput w 8192 buffer (meaning_of p) (meaning_of u) (Ok got)) asks takes in
    ap (λ (r : Result ReceivedInput TakeError). turn_taken buffer (taken_of r)) it.1
