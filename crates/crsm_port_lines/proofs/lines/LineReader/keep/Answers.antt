use Rattle.std.proofs.Common.{[], refl, sym, subst, arith}
use Rattle.std.proofs.lemmas.List.{append-nil, nil_from_length}
use Rattle.crsm_port_lines.specs.Run.{CarriesOn}
use Rattle.crsm_port_lines.specs.State.{state_of}
use Rattle.crsm_port_lines.proofs.Pieces.{nothing_carries, prefix_carries, prefix_halts, no_memory_halts}
use Rattle.crsm_port_lines.proofs.lines.LineReader.keep.Goals as goal

pub returns-then-is_empty-clause-ok : goal.returns-then-is_empty-clause-ok
returns-then-is_empty-clause-ok g c = λ first has.
    subst (λ ys. CarriesOn (g.H.Handler.handling first) has has (state_of c.args.self.now) (state_of c.args.self.now) ys []) (sym (nil_from_length c.args.prefix.now (grind (arith, c.is_empty.ensures, c.if-is_empty.true))))
    (nothing_carries (g.H.Handler.handling first) has (state_of c.args.self.now) [])

pub overflow_add-line : goal.overflow_add-line
overflow_add-line g c =
    let below = c.requires.number in
    let some = c.is_empty.ensures in
    let is = c.if-is_empty.false in
    grind (arith, below, some, is)

pub returns-then-saturating_add-gt-MAX_LINE_BYTES-clause-err : goal.returns-then-saturating_add-gt-MAX_LINE_BYTES-clause-err
returns-then-saturating_add-gt-MAX_LINE_BYTES-clause-err g c = λ first has.
    let is = c.len.ensures in
    let sum = c.saturating_add.ensures in
    let long = c.if-saturating_add-gt-MAX_LINE_BYTES.true in
    prefix_halts (g.H.Handler.handling first) has (state_of c.args.self.now) (state_of c.args.self.now) c.args.prefix.now c.requires.lacks (omega (arith, is, sum, long)) refl

pub returns-in_default-clause-err : goal.returns-in_default-clause-err
returns-in_default-clause-err g c = λ first has. no_memory_halts (g.H.Handler.handling first) has (state_of c.args.self.now) _ _ [] (sym (append-nil c.args.self.now.pending))

pub returns-clause-ok : goal.returns-clause-ok
returns-clause-ok g c = λ first has.
    let is = c.len.ensures in
    let sum = c.saturating_add.ensures in
    let short = c.if-saturating_add-gt-MAX_LINE_BYTES.false in
    prefix_carries (g.H.Handler.handling first) has (state_of c.args.self.now) _ c.args.prefix.now c.requires.lacks (omega (arith, is, sum, short)) refl refl c.in-Ok.ensures.items refl
