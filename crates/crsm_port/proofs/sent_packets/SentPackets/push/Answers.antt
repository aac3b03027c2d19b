use Rattle.std.proofs.Common.{◌≡◌, ◌∙◌, ◌+◌, ◌∷◌, ◌++◌, [], IsTrue, List, ℕ, ap, ap₂, subst, sym, arith, length, length-append}
use Rattle.crsm_port.specs.Packets.{is_within, packets}
use Rattle.crsm_port.specs.declared.sent_packets.Label.{Label}
use Rattle.crsm_port.proofs.Kept.{packets_more, within_more}
use Rattle.crsm_port.proofs.sent_packets.SentPackets.push.Goals as goal

pub invariant_of-self : goal.invariant_of-self
invariant_of-self c =
    let label : Label = record { address = c.args.address; start = c.len-start.result; len = length c.args.bytes.now } in
    let start : c.len-start.result ≡ length c.args.self.now.bytes.items = omega (arith, c.len-start.ensures, c.args.self.now.bytes.ok) in
    let written = c.append_reserved.ensures.items in
    let longer : length c.append_reserved.new.all.items ≡ length c.args.self.now.bytes.items + length c.args.bytes.now = ap length written ∙ length-append c.args.self.now.bytes.items c.args.bytes.now in
    let within = within_more c.args.self.now.labels.items label (length c.args.self.now.bytes.items) (length c.append_reserved.new.all.items) (omega (arith, longer)) (omega (arith, start, longer)) c.args.self.now.within in
    let P : List Label → Type 0 = λ ls. IsTrue (is_within ls (length c.append_reserved.new.all.items)) in
    record { within = subst P (sym c.push_reserved.ensures.items) within }

pub returns-clause-packets : goal.returns-clause-packets
returns-clause-packets c =
    let start : c.len-start.result ≡ length c.args.self.now.bytes.items = omega (arith, c.len-start.ensures, c.args.self.now.bytes.ok) in
    let written = c.append_reserved.ensures.items in
    ap₂ packets (c.push_reserved.ensures.items ∙ ap (λ (s : ℕ). let l : Label = record { address = c.args.address; start = s; len = length c.args.bytes.now } in c.args.self.now.labels.items ++ l ∷ []) start) written
    ∙ packets_more c.args.self.now.labels.items c.args.self.now.bytes.items c.args.address c.args.bytes.now c.args.self.now.within
