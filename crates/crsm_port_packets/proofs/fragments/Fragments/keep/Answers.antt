use Rattle.std.proofs.Common.{◌≤◌, List, subst, sym}
use Rattle.crsm_port_packets.specs.Kept.{StaysBut, crowd}
use Rattle.crsm_port_packets.specs.declared.fragments.Piece.{Piece}
use Rattle.crsm_port_packets.proofs.Crowds.{few_pushed, stays_pushed}
use Rattle.crsm_port_packets.proofs.fragments.Fragments.keep.Goals as goal

pub returns-in_err-push-clause-stays : goal.returns-in_err-push-clause-stays
returns-in_err-push-clause-stays c =
    subst (λ (ps : List Piece). StaysBut c.args.piece.from c.args.self.now.pieces.items ps) (sym c.in_err-push.ensures.items) c.make_room.ensures.stays

pub returns-clause-stays : goal.returns-clause-stays
returns-clause-stays c =
    subst (λ (ps : List Piece). StaysBut c.args.piece.from c.args.self.now.pieces.items ps) (sym c.in_ok-push.ensures.items)
    (stays_pushed c.args.piece.from c.args.self.now.pieces.items c.make_room.new.self.pieces.items c.args.piece c.make_room.ensures.stays)

pub returns-clause-few : goal.returns-clause-few
returns-clause-few c = λ address before.
    subst (λ (ps : List Piece). crowd address ps ≤ 28) (sym c.in_ok-push.ensures.items)
    (few_pushed c.args.self.now.pieces.items c.make_room.new.self.pieces.items c.args.piece c.make_room.ensures.few c.make_room.ensures.room address before)
