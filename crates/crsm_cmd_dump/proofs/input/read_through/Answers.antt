use Rattle.std.proofs.Common.{◌≡◌, ◌++◌, [], take, length, arith, length-append, length-take, ap, subst, sym}
use Rattle.crsm_io.specs.Streams.{AtEnd, Takes}
use Rattle.crsm_cmd_dump.specs.Texts.{Text}
use Rattle.crsm_cmd_dump.proofs.TakenBytes.{taken_all, taken_more, taken_none}
use Rattle.crsm_cmd_dump.proofs.input.read_through.Goals as goal

pub loop-count-init : goal.loop-count-init
loop-count-init g c = record { takes = rw c.new-file.ensures.items (taken_none _); within = omega (arith, c.new-file.ensures.len); later = omega arith }

pub returns-in_default-clause-stopped : goal.returns-in_default-clause-stopped
returns-in_default-clause-stopped g c = (c.loop-count.file.items, taken_all _ _ _ _ c.loop-count.invariant.takes c.in_default.ensures.taken)

pub returns-then-count-eq0-clause-read : goal.returns-then-count-eq0-clause-read
returns-then-count-eq0-clause-read g c =
    let taken : Takes (g.I.Source.left c.loop-count.input) (g.I.Source.left c.read.new.self) [] = rw c.if-count-eq0.true at c.in-Ok.ensures.taken in
    let kept = c.loop-count.auto.buf in
    let whole = c.requires in
    let ended : AtEnd (g.I.Source.left c.read.new.self) = c.in-Ok.ensures.end c.if-count-eq0.true (omega (arith, c.read.auto.buf, kept, whole)) in
    record { takes = taken_all _ _ _ _ c.loop-count.invariant.takes taken; ended = ended; within = c.loop-count.invariant.within }

pub returns-then-count-len-clause-stopped : goal.returns-then-count-len-clause-stopped
returns-then-count-len-clause-stopped g c =
    let bound = c.in-Ok.ensures.bound in
    let more = c.if-count-len.true in
    let len = c.len.ensures in
    let within = c.loop-count.invariant.within in
    record {
      taken = c.loop-count.file.items ++ take c.in-Ok.count c.read.new.buf;
      takes = taken_more _ _ _ _ _ c.loop-count.invariant.takes c.in-Ok.ensures.taken;
      more = omega (arith, length-append c.loop-count.file.items (take c.in-Ok.count c.read.new.buf), length-take c.in-Ok.count c.read.new.buf, bound, more, len, within);
    }

pub returns-in_default-extend_from_slice-clause-stopped : goal.returns-in_default-extend_from_slice-clause-stopped
returns-in_default-extend_from_slice-clause-stopped g c =
    (c.loop-count.file.items ++ take c.in-Ok.count c.read.new.buf, taken_more _ _ _ _ _ c.loop-count.invariant.takes c.in-Ok.ensures.taken)

pub loop-count-preserved : goal.loop-count-preserved
loop-count-preserved g c =
    let bound = c.in-Ok.ensures.bound in
    let fits = c.if-count-len.false in
    let len = c.len.ensures in
    let within = c.loop-count.invariant.within in
    let before = c.loop-count.invariant.later in
    let read = c.in-Ok.ensures.later in
    let items : c.extend_from_slice.new.self.items ≡ c.loop-count.file.items ++ take c.in-Ok.count c.read.new.buf = c.in-Ok-extend_from_slice.ensures.items in
    record {
      takes = subst (λ (t : Text). Takes (g.I.Source.left c.args.input.now) (g.I.Source.left c.read.new.self) t) (sym items) (taken_more _ _ _ _ _ c.loop-count.invariant.takes c.in-Ok.ensures.taken);
      within = omega (arith, ap length items, length-append c.loop-count.file.items (take c.in-Ok.count c.read.new.buf), length-take c.in-Ok.count c.read.new.buf, bound, fits, len, within);
      later = omega (arith, before, read);
    }
