use Rattle.std.proofs.Common.{◌≡◌, refl, ◌∙◌, ℕ, List, ◌<◌, ◌≤◌, length, take, drop, ap, subst, sym, arith}
use Rattle.std.proofs.lemmas.Bool.Decides.{nat_tests}
use Rattle.std.specs.Prelude.{Some, slice_index_or}
use Rattle.crsm_port.specs.declared.sent_packets.Label.{Label}
use Rattle.crsm_port.specs.Meaning.{Packet}
use Rattle.crsm_port.proofs.Kept.{length-packets, packet_at, within_at}
use Rattle.crsm_port.proofs.sent_packets.SentPackets.get.Goals as goal

pub part-requires : goal.part-requires
part-requires c =
    let l = c.in-Some.label.now in
    let here = c.in-Some.ensures.lookup in
    let inside : c.args.index < length c.args.self.now.labels.items = subst (λ (xs : List Label). c.args.index < length xs) c.deref.ensures.value here.3.0 in
    let is : l ≡ slice_index_or c.args.self.now.labels.items c.args.index c.in-Some.label.now = here.3.1 c.in-Some.label.now ∙ ap (λ (xs : List Label). slice_index_or xs c.args.index c.in-Some.label.now) c.deref.ensures.value in
    let end = within_at c.args.self.now.labels.items c.args.index (length c.args.self.now.bytes.items) l inside is c.args.self.now.within in
    omega (arith, end, ap length c.deref-in-Some.ensures.value)

pub returns-in-Some-clause-none : goal.returns-in-Some-clause-none
returns-in-Some-clause-none c =
    let here = c.in-Some.ensures.lookup in
    let inside : c.args.index < length c.args.self.now.labels.items = subst (λ (xs : List Label). c.args.index < length xs) c.deref.ensures.value here.3.0 in
    let count = length-packets c.args.self.now.labels.items c.args.self.now.bytes.items in
    (λ e. absurd (cc), λ le. absurd (omega (arith, le, count, inside)))

pub returns-in-Some-clause-some : goal.returns-in-Some-clause-some
returns-in-Some-clause-some c =
    let l = c.in-Some.label.now in
    let here = c.in-Some.ensures.lookup in
    let inside : c.args.index < length c.args.self.now.labels.items = subst (λ (xs : List Label). c.args.index < length xs) c.deref.ensures.value here.3.0 in
    let is : l ≡ slice_index_or c.args.self.now.labels.items c.args.index c.in-Some.label.now = here.3.1 c.in-Some.label.now ∙ ap (λ (xs : List Label). slice_index_or xs c.args.index c.in-Some.label.now) c.deref.ensures.value in
    packet_at c.args.self.now.labels.items c.args.self.now.bytes.items c.args.index l inside is
    ∙ ap (λ (b : List ℕ). let p : Packet = record { address = c.in-Some.label.now.address; bytes = b } in Some p)
    (ap (λ (b : List ℕ). take c.in-Some.label.now.len (drop c.in-Some.label.now.start b)) (sym c.deref-in-Some.ensures.value) ∙ sym c.part.ensures)

pub returns-in-None-clause-none : goal.returns-in-None-clause-none
returns-in-None-clause-none c =
    let count = length-packets c.args.self.now.labels.items c.args.self.now.bytes.items in
    let here = c.in-None.ensures.lookup in
    let past : length c.args.self.now.labels.items ≤ c.args.index = subst (λ (xs : List Label). length xs ≤ c.args.index) c.deref.ensures.value (grind (arith, nat_tests)) in
    (λ _. omega (arith, count, past), λ _. refl)
