use Rattle.std.proofs.Common.{◌≡◌, ◌⊎◌, List, ℕ, [], ap, inl, inr, refl, rules, sym, subst, arith, length, take}
use Rattle.crsm_port.specs.Passing.{Among, NoMore, either}
use Rattle.crsm_port.specs.Sent.{packets_of}
use Rattle.crsm_port_packets.specs.Carrying.{carried}
use Rattle.crsm_port_packets.specs.Given.{PacketGoes}
use Rattle.crsm_port_packets.specs.Sent.{IsBundle, standing_in}
use Rattle.crsm_port_packets.proofs.Bundles.{filled_after, got_waits, went_waiting}
use Rattle.crsm_port_packets.proofs.Goings.{all_go, is_bundle, none_so_far, passed_over, take_whole, taken_in}
use Rattle.crsm_port_packets.proofs.bundle.send_waiting.Goals as goal
use Rattle.crsm_port_packets.proofs.bundle.send_waiting.Goals.{in-Some, in-Some+then-address-to+else-bytes-le-MOST_BYTES, in-Some+else-address-to, in-None-1}

pub loop-index-init : goal.loop-index-init
loop-index-init g c = record {
  gives = λ a d h. h;
  sends = λ a d h. inl h;
  filled = inl c.clear.ensures.items;
  so_far = none_so_far c.args.to (packets_of c.args.waiting.now) c.clear.new.self.items (g.P.Port.meaning c.args.port.now);
  roomy = omega arith;
}

pub make_room-has_packed-requires : goal.make_room-has_packed-requires
make_room-has_packed-requires g c = is_bundle c.args.to (packets_of c.args.waiting.now) c.loop-index.packet.items c.loop-index.invariant.filled

pub send_packet-requires : goal.send_packet-requires
send_packet-requires g c = subst (λ (x : List ℕ). IsBundle x) (sym c.as_slice.ensures.value) (is_bundle c.args.to (packets_of c.args.waiting.now) c.loop-index.packet.items c.loop-index.invariant.filled)

pub loop-index-preserved : goal.loop-index-preserved
loop-index-preserved g c =
    let waiting = packets_of c.args.waiting.now in
    let before = c.loop-index.invariant in
    let M = g.P.Port.meaning in
    elim c.match-get.branch [
      | in-Some w ↦
          let waits : Among waiting c.args.to w.in-Some.bytes.now = got_waits waiting c.loop-index.index w.in-Some.address c.args.to w.in-Some.bytes.now w.in-Some.ensures.some w.if-address-to.true in
          let stays : (w.make_room-has_packed.new.packet.items ≡ c.loop-index.packet.items) ⊎ (w.make_room-has_packed.new.packet.items ≡ []) = elim w.make_room-has_packed.ensures.kept [
            | inl same ↦ inl same.0
            | inr none ↦ inr none.0
          ] in
          rw (w.port-is, w.packet-is) (record {
            gives = λ a d h. before.gives a d (w.make_room-has_packed.ensures.gives a d h);
            sends = went_waiting (g.P.Port.may_send c.args.port.now) (g.P.Port.may_send c.loop-index.port) (g.P.Port.may_send w.make_room-has_packed.new.port) waiting c.args.to c.loop-index.packet.items before.filled before.sends
                w.make_room-has_packed.ensures.sends;
            filled = filled_after c.args.to waiting c.loop-index.packet.items w.make_room-has_packed.new.packet.items w.take_in.new.packet.items w.in-Some.bytes.now waits stays (inr w.take_in.ensures.one_more)
                before.filled;
            so_far = taken_in c.args.to waiting c.loop-index.index w.in-Some.address w.in-Some.bytes.now w.in-Some.ensures.some c.loop-index.packet.items w.make_room-has_packed.new.packet.items w.take_in.new.packet.items
                (M c.args.port.now) (M c.loop-index.port) (M w.make_room-has_packed.new.port) before.filled w.take_in.ensures.one_more before.so_far M c.loop-index.port w.make_room-has_packed.new.port refl refl
                w.make_room-has_packed.ensures.kept;
            roomy = omega (arith, w.make_room-has_packed.ensures.capacity, w.take_in.ensures.capacity, before.roomy);
          })
      | in-Some+then-address-to+else-bytes-le-MOST_BYTES w ↦ rw (w.port-is, w.packet-is) (record {
        gives = before.gives;
        sends = before.sends;
        filled = before.filled;
        roomy = before.roomy;
        so_far = passed_over c.args.to waiting c.loop-index.index w.in-Some.address w.in-Some.bytes.now w.in-Some.ensures.some c.loop-index.packet.items (M c.args.port.now) (M c.loop-index.port)
            (λ d at is short. omega (arith, ap length is, short, w.if-bytes-le-MOST_BYTES.false)) before.so_far;
      })
      | in-Some+else-address-to w ↦ rw (w.port-is, w.packet-is) (record {
        gives = before.gives;
        sends = before.sends;
        filled = before.filled;
        roomy = before.roomy;
        so_far = passed_over c.args.to waiting c.loop-index.index w.in-Some.address w.in-Some.bytes.now w.in-Some.ensures.some c.loop-index.packet.items (M c.args.port.now) (M c.loop-index.port)
            (λ d at is short. w.if-address-to.false at) before.so_far;
      })
      | in-None-1 w ↦ absurd (omega (arith, c.get.ensures.none.0 (search rules), c.len-index-end.ensures, c.loop-index-test.true))
    ]

pub returns-clause-sends : goal.returns-clause-sends
returns-clause-sends g c =
    let mid = g.P.Port.may_send c.loop-index.port in
    let after = g.P.Port.may_send c.send_packet.new.port in
    let now = subst (λ (x : List ℕ). NoMore (either (carried mid) (standing_in c.args.to x)) (carried after)) c.as_slice.ensures.value c.send_packet.ensures.sends in
    went_waiting (g.P.Port.may_send c.args.port.now) mid after (packets_of c.args.waiting.now) c.args.to c.loop-index.packet.items c.loop-index.invariant.filled c.loop-index.invariant.sends now

pub returns-clause-goes : goal.returns-clause-goes
returns-clause-goes g c =
    let waiting = packets_of c.args.waiting.now in
    let inv = c.loop-index.invariant in
    let all : take c.loop-index.index waiting ≡ waiting = take_whole waiting c.loop-index.index (omega (arith, c.len-index-end.ensures, c.loop-index-test.false)) in
    all_go c.args.to (take c.loop-index.index waiting) waiting c.loop-index.packet.items (g.P.Port.meaning c.args.port.now) (g.P.Port.meaning c.loop-index.port) (g.P.Port.meaning c.send_packet.new.port) all inv.filled inv.so_far
    (subst (λ (x : List ℕ). PacketGoes c.args.to x (g.P.Port.meaning c.loop-index.port) (g.P.Port.meaning c.send_packet.new.port)) c.as_slice.ensures.value c.send_packet.ensures.goes)
