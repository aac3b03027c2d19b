use Rattle.std.proofs.Common.{◌≡◌, ◌<◌, arith, length, refl, rules}
use Rattle.crsm_port_flow.proofs.Hearings.{heard_known, known_of, said_known}
use Rattle.crsm_port_flow.proofs.hearing.Hearing.note.Goals as goal

pub returns-in-Some-said-clause-known : goal.returns-in-Some-said-clause-known
returns-in-Some-said-clause-known c =
    let h = c.args.self.now in
    let p = c.in-Some-get_mut.peer.now in
    let within : c.in-Some.place < length h.peers.items = omega (arith, c.in-Some-get_mut.ensures.variant.0 refl, h.peers.ok) in
    let here : p.address ≡ c.args.from = search rules in
    known_of h.me c.args.from c.args.now c.args.bytes.now h.peers.items c.in-Some.place p c.note_said.new.self within c.in-Some-get_mut.ensures.value here
    (said_known h.me c.args.from c.args.now c.args.bytes.now c.in-Some-said.hears_me p c.note_said.new.self c.note_said.ensures.hears c.note_said.ensures.not c.in-Some-said.ensures.said.0 c.in-Some-said.ensures.said.1)

pub returns-then-peer-ge-MOST_DEAF-clause-known : goal.returns-then-peer-ge-MOST_DEAF-clause-known
returns-then-peer-ge-MOST_DEAF-clause-known c =
    let h = c.args.self.now in
    let p = c.in-Some-get_mut.peer.now in
    let within : c.in-Some.place < length h.peers.items = omega (arith, c.in-Some-get_mut.ensures.variant.0 refl, h.peers.ok) in
    let here : p.address ≡ c.args.from = search rules in
    known_of h.me c.args.from c.args.now c.args.bytes.now h.peers.items c.in-Some.place p _ within c.in-Some-get_mut.ensures.value here (heard_known h.me c.args.from c.args.now c.args.bytes.now p (c.in_default-said.ensures.nothing refl))

pub returns-else-peer-ge-MOST_DEAF-clause-known : goal.returns-else-peer-ge-MOST_DEAF-clause-known
returns-else-peer-ge-MOST_DEAF-clause-known c =
    let h = c.args.self.now in
    let p = c.in-Some-get_mut.peer.now in
    let within : c.in-Some.place < length h.peers.items = omega (arith, c.in-Some-get_mut.ensures.variant.0 refl, h.peers.ok) in
    let here : p.address ≡ c.args.from = search rules in
    known_of h.me c.args.from c.args.now c.args.bytes.now h.peers.items c.in-Some.place p _ within c.in-Some-get_mut.ensures.value here (heard_known h.me c.args.from c.args.now c.args.bytes.now p (c.in_default-said.ensures.nothing refl))
