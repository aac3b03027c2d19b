use Rattle.std.proofs.Common.{◌≡◌, ◌∙◌, ◌<◌, ◌≤◌, List, ap, arith, length, subst, sym}
use Rattle.std.specs.List.{remove}
use Rattle.std.specs.Prelude.{slice_index_or}
use Rattle.crsm_port_packets.specs.Kept.{Forgets, StaysBut, crowd}
use Rattle.crsm_port_packets.specs.declared.fragments.Fragments.{Fragments}
use Rattle.crsm_port_packets.specs.declared.fragments.Piece.{Piece}
use Rattle.crsm_port_packets.proofs.Crowds.{crowd_none, few_removed, stays_removed}
use Rattle.crsm_port_packets.proofs.Keepings.{forgets_one}
use Rattle.crsm_port_packets.proofs.fragments.Fragments.make_room.Goals as goal

pub returns-then-index-from-clause-only : goal.returns-then-index-from-clause-only
returns-then-index-from-clause-only c =
    let old = c.args.self.now.pieces.items in
    let mid = ap (λ (f : Fragments). f.pieces.items) c.loop-index.invariant.same in
    let gone : c.remove.new.self.items ≡ remove old c.loop-index.index = c.remove.ensures.items ∙ ap (λ (ps : List Piece). remove ps c.loop-index.index) mid in
    subst (λ (ps : List Piece). Forgets old ps) (sym gone) (forgets_one old c.loop-index.index)

pub returns-then-index-from-clause-stays : goal.returns-then-index-from-clause-stays
returns-then-index-from-clause-stays c =
    let mid = c.loop-index.self.pieces.items in
    let i = c.loop-index.index in
    let p = c.index.result.now in
    let same = ap (λ (f : Fragments). f.pieces.items) c.loop-index.invariant.same in
    let lt : i < length mid = omega (arith, c.loop-index-test.true, c.len-index-end.ensures, ap (λ (ps : List Piece). length ps) same, c.args.self.now.pieces.ok) in
    let at : (slice_index_or mid i p).from ≡ c.args.from = sym (ap (λ (q : Piece). q.from) c.index.ensures) ∙ c.if-index-from.true in
    let many : 28 ≤ crowd c.args.from mid = subst (λ (ps : List Piece). 28 ≤ crowd c.args.from ps) (sym same) (omega (arith, c.if-crowd-lt-MOST_KEPT.false, c.crowd.ensures)) in
    let stays = subst (λ (ps : List Piece). StaysBut c.args.from mid ps) (sym c.remove.ensures.items) (stays_removed c.args.from mid i p lt at many) in
    subst (λ (ps : List Piece). StaysBut c.args.from ps c.remove.new.self.items) same stays

pub returns-then-index-from-clause-few : goal.returns-then-index-from-clause-few
returns-then-index-from-clause-few c = λ address few.
    let mid = c.loop-index.self.pieces.items in
    let i = c.loop-index.index in
    let p = c.index.result.now in
    let same = ap (λ (f : Fragments). f.pieces.items) c.loop-index.invariant.same in
    let lt : i < length mid = omega (arith, c.loop-index-test.true, c.len-index-end.ensures, ap (λ (ps : List Piece). length ps) same, c.args.self.now.pieces.ok) in
    let at : (slice_index_or mid i p).from ≡ c.args.from = sym (ap (λ (q : Piece). q.from) c.index.ensures) ∙ c.if-index-from.true in
    subst (λ (ps : List Piece). crowd address ps ≤ 28) (sym c.remove.ensures.items) ((few_removed c.args.from mid i p lt at).1 address (subst (λ (ps : List Piece). crowd address ps ≤ 28) (sym same) few))

pub returns-then-index-from-clause-room : goal.returns-then-index-from-clause-room
returns-then-index-from-clause-room c = λ few.
    let mid = c.loop-index.self.pieces.items in
    let i = c.loop-index.index in
    let p = c.index.result.now in
    let same = ap (λ (f : Fragments). f.pieces.items) c.loop-index.invariant.same in
    let lt : i < length mid = omega (arith, c.loop-index-test.true, c.len-index-end.ensures, ap (λ (ps : List Piece). length ps) same, c.args.self.now.pieces.ok) in
    let at : (slice_index_or mid i p).from ≡ c.args.from = sym (ap (λ (q : Piece). q.from) c.index.ensures) ∙ c.if-index-from.true in
    subst (λ (ps : List Piece). crowd c.args.from ps < 28) (sym c.remove.ensures.items) ((few_removed c.args.from mid i p lt at).0 (subst (λ (ps : List Piece). crowd c.args.from ps ≤ 28) (sym same) few))

pub returns-clause-room : goal.returns-clause-room
returns-clause-room c = λ _.
    let mid = ap (λ (f : Fragments). f.pieces.items) c.loop-index.invariant.same in
    omega (arith, crowd_none c.args.from c.loop-index.self.pieces.items (λ k d lt is. c.loop-index.invariant.none k d (omega (arith, lt, c.loop-index-test.false, c.len-index-end.ensures, ap (λ (ps : List Piece). length ps) mid, c.args.self.now.pieces.ok)) is))
