use Rattle.std.proofs.Common.{◌≡◌, ◌∙◌, ◌++◌, ℕ, List, ◌+◌, ◌<◌, length, min, ap, subst, refl, map, take, drop}
use Rattle.std.specs.Prelude.{slice_index_or}
use Rattle.crsm_port.specs.Inside.{arrival_of}
use Rattle.crsm_port.specs.Meaning.{Packet, Traffic}
use Rattle.crsm_port.specs.Sent.{packets_of}
use Rattle.crsm_port.specs.declared.memory.QueuedDatagram.{QueuedDatagram}
use Rattle.crsm_port.proofs.Kept.{next_waits, next_taken}
use Rattle.crsm_port.proofs.memory.MemPort.take.Goals as goal

pub returns-in-Some-clause-got : goal.returns-in-Some-clause-got
returns-in-Some-clause-got c =
    let ls = c.self.inside.arrivals.items in
    let n = c.self.inside.next in
    let l = c.in-Some.arrival.now in
    let here = c.in-Some.ensures.lookup in
    let inside : c.self.inside.next < length c.self.inside.arrivals.items = subst (λ (xs : List QueuedDatagram). c.self.inside.next < length xs) c.deref.ensures.value here.3.0 in
    let is : c.in-Some.arrival.now ≡ slice_index_or c.self.inside.arrivals.items c.self.inside.next c.in-Some.arrival.now = here.3.1 c.in-Some.arrival.now ∙ ap (λ (xs : List QueuedDatagram). slice_index_or xs c.self.inside.next c.in-Some.arrival.now) c.deref.ensures.value in
    rw (← c.self.view_is) (
      arrival_of l,
      drop (n + 1) (map arrival_of ls),
      next_waits ls n l inside is,
      refl,
      c.copy-len.ensures.len ∙ ap (λ (b : List ℕ). min (length c.args.buf.now) (length b)) c.deref-in-Some.ensures.value,
      c.copy-len.ensures.bytes ∙ ap (λ (b : List ℕ). take c.copy-len.result b ++ drop c.copy-len.result c.args.buf.now) c.deref-in-Some.ensures.value,
      ap (λ (ps : List Packet). let t : Traffic = record { waiting = drop (n + 1) (map arrival_of ls); taken = ps; sent = packets_of c.self.inside.sent } in t) (next_taken ls n l inside is),
    )
