use Rattle.std.proofs.Common.{◌≡◌, ◌<◌, ◌≤◌, ◌+◌, ℕ, List, [], ◌++◌, take, drop, ap, ◌∙◌, subst, arith, length, length-take}
use Rattle.std.proofs.lemmas.List.{take-append-le}
use Rattle.crsm_io.specs.Streams.{Takes, AtEnd}
use Rattle.crsm_port_lines.specs.Run.{SoFar}
use Rattle.crsm_port_lines.specs.State.{state_of}
use Rattle.crsm_port_lines.proofs.Texts.{one_byte}
use Rattle.crsm_port_lines.proofs.Pieces.{read_fault_at, too_long_at, ends_at, carries_at, finishes_at}
use Rattle.crsm_port_lines.proofs.run.run_through.Goals as goal

pub returns-in_default-clause-ran : goal.returns-in_default-clause-ran
returns-in_default-clause-ran g c =
    read_fault_at (g.H.Handler.handling c.args.handler) _ _ (g.I.Source.left c.read.new.self) _ _ (state_of c.loop-count.lines) c.loop-count.total c.loop-count.invariant.so_far c.loop-count.invariant.pending c.in_default.ensures.taken

pub returns-in-Err-clause-ran : goal.returns-in-Err-clause-ran
returns-in-Err-clause-ran g c =
    let taken : Takes (g.I.Source.left c.loop-count.input) (g.I.Source.left c.read.new.self) [] = rw c.if-count-eq0.true at c.in-Ok.ensures.taken in
    let some = c.room-want.ensures.some in
    let left = c.loop-count.auto.buf in
    let whole = c.requires in
    let ended : AtEnd (g.I.Source.left c.read.new.self) = c.in-Ok.ensures.end c.if-count-eq0.true (omega (arith, length-take {A = ℕ}, c.read.auto.buf, left, whole, some)) in
    rw c.halted.ensures (finishes_at (g.H.Handler.handling c.args.handler) _ _ _ (g.I.Source.left c.read.new.self) _ _ _ (state_of c.loop-count.lines) c.loop-count.total c.loop-count.invariant.so_far taken
    c.loop-count.invariant.within ended (c.in-Err.ensures.err c.args.handler))

pub returns-then-count-eq0-clause-ran : goal.returns-then-count-eq0-clause-ran
returns-then-count-eq0-clause-ran g c =
    let taken : Takes (g.I.Source.left c.loop-count.input) (g.I.Source.left c.read.new.self) [] = rw c.if-count-eq0.true at c.in-Ok.ensures.taken in
    let some = c.room-want.ensures.some in
    let left = c.loop-count.auto.buf in
    let whole = c.requires in
    let ended : AtEnd (g.I.Source.left c.read.new.self) = c.in-Ok.ensures.end c.if-count-eq0.true (omega (arith, length-take {A = ℕ}, c.read.auto.buf, left, whole, some)) in
    finishes_at (g.H.Handler.handling c.args.handler) _ _ _ (g.I.Source.left c.read.new.self) _ _ _ (state_of c.loop-count.lines) c.loop-count.total c.loop-count.invariant.so_far taken
    c.loop-count.invariant.within ended (c.in_default-finish.ensures.ok c.args.handler)

pub returns-then-total-eq-MAX_INPUT_BYTES-clause-ran : goal.returns-then-total-eq-MAX_INPUT_BYTES-clause-ran
returns-then-total-eq-MAX_INPUT_BYTES-clause-ran g c =
    let s = subst (λ n. SoFar (g.H.Handler.handling c.args.handler) (g.I.Source.left c.args.input.now) (g.I.Source.left c.loop-count.input) (g.O.Sink.written c.args.output.now) (g.O.Sink.written c.loop-count.output) (state_of c.loop-count.lines) [] n)
    c.if-total-eq-MAX_INPUT_BYTES.true c.loop-count.invariant.so_far in
    let want : c.room-want.result ≡ 1 = c.room-want.ensures.one c.if-total-eq-MAX_INPUT_BYTES.true in
    let left = c.loop-count.auto.buf in
    let whole = c.requires in
    let one : length c.read.new.buf ≡ 1 = omega (arith, length-take {A = ℕ}, c.read.auto.buf, left, whole, want) in
    let byte = one_byte c.read.new.buf c.in-Ok.count (omega (arith, c.if-count-eq0.false)) c.in-Ok.ensures.bound one in
    too_long_at (g.H.Handler.handling c.args.handler) _ _ (g.I.Source.left c.read.new.self) _ _ (state_of c.loop-count.lines) byte.0 s c.loop-count.invariant.pending
    (subst (λ x. Takes (g.I.Source.left c.loop-count.input) (g.I.Source.left c.read.new.self) x) byte.1 c.in-Ok.ensures.taken)

-- what was read stands at the prefix of the buffer
prefix_is : (count : ℕ) (read rest : List ℕ) → count ≤ length read → take count (read ++ rest) ≡ take count read
prefix_is count read rest within = take-append-le count read rest within

pub returns-in-Err-feed-clause-ran : goal.returns-in-Err-feed-clause-ran
returns-in-Err-feed-clause-ran g c =
    let text : take c.in-Ok.count (c.read.new.buf ++ drop c.room-want.result c.loop-count.buf) ≡ take c.in-Ok.count c.read.new.buf =
    prefix_is c.in-Ok.count c.read.new.buf (drop c.room-want.result c.loop-count.buf) c.in-Ok.ensures.bound in
    let bound = c.in-Ok.ensures.bound in
    let len : length (take c.in-Ok.count c.read.new.buf) ≡ c.in-Ok.count = omega (arith, length-take {A = ℕ}, bound) in
    let within = c.loop-count.invariant.within in
    let room = c.room-want.ensures.within in
    let want : length c.read.new.buf ≤ c.room-want.result = omega (arith, length-take {A = ℕ}, c.read.auto.buf) in
    let below : c.loop-count.total < 1073741824 = omega (arith, within, c.if-total-eq-MAX_INPUT_BYTES.false) in
    let fits = room below in
    rw c.halted-in-Err-feed.ensures (ends_at (g.H.Handler.handling c.args.handler) _ _ _ (g.I.Source.left c.read.new.self) _ _ _ (state_of c.loop-count.lines) c.loop-count.total (take c.in-Ok.count c.read.new.buf)
    c.loop-count.invariant.so_far c.in-Ok.ensures.taken (omega (arith, fits, want, bound, len)) (rw text at (c.in-Err-feed.ensures.err c.args.handler)))

pub loop-count-preserved : goal.loop-count-preserved
loop-count-preserved g c =
    let text : take c.in-Ok.count (c.read.new.buf ++ drop c.room-want.result c.loop-count.buf) ≡ take c.in-Ok.count c.read.new.buf =
    prefix_is c.in-Ok.count c.read.new.buf (drop c.room-want.result c.loop-count.buf) c.in-Ok.ensures.bound in
    let on = rw text at (c.in_default-feed.ensures.ok c.args.handler) in
    let bound = c.in-Ok.ensures.bound in
    let len : length (take c.in-Ok.count c.read.new.buf) ≡ c.in-Ok.count = omega (arith, length-take {A = ℕ}, bound) in
    let so_far = carries_at (g.H.Handler.handling c.args.handler) _ _ (g.I.Source.left c.read.new.self) _ _ _ (state_of c.loop-count.lines) (state_of c.feed.new.self) c.loop-count.total (take c.in-Ok.count c.read.new.buf)
    c.loop-count.invariant.so_far c.in-Ok.ensures.taken on in
    let left = c.loop-count.auto.buf in
    let whole = c.requires in
    let room = c.room-want.ensures.within in
    let some = c.room-want.ensures.some in
    let within = c.loop-count.invariant.within in
    let number = c.loop-count.invariant.number in
    let more = c.in_default-feed.ensures.number in
    let before = c.loop-count.invariant.read_later in
    let read = c.in-Ok.ensures.later in
    let had = c.loop-count.invariant.write_later in
    let wrote = c.in_default-feed.ensures.later in
    let fed : length (take c.in-Ok.count (c.read.new.buf ++ drop c.room-want.result c.loop-count.buf)) ≡ c.in-Ok.count = ap length text ∙ len in
    let want : length c.read.new.buf ≤ c.room-want.result = omega (arith, length-take {A = ℕ}, c.read.auto.buf) in
    let below : c.loop-count.total < 1073741824 = omega (arith, within, c.if-total-eq-MAX_INPUT_BYTES.false) in
    let fits = room below in
    record {
      so_far = subst (λ n. SoFar (g.H.Handler.handling c.args.handler) (g.I.Source.left c.args.input.now) (g.I.Source.left c.read.new.self) (g.O.Sink.written c.args.output.now) (g.O.Sink.written c.feed.new.output) (state_of c.feed.new.self) [] n)
          (ap (λ n. c.loop-count.total + n) len) so_far;
      pending = c.in_default-feed.ensures.pending;
      within = omega (arith, fits, want, bound);
      number = omega (arith, number, more, fed);
      read_later = omega (arith, before, read);
      write_later = omega (arith, had, wrote);
    }
