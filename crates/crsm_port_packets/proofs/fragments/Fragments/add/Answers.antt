use Rattle.std.proofs.Common.{ℕ, List, subst}
use Rattle.crsm_port_packets.specs.Kept.{GainsOnly}
use Rattle.crsm_port_packets.proofs.fragments.Fragments.add.Goals as goal

pub returns-in_err-keep-clause-kept : goal.returns-in_err-keep-clause-kept
returns-in_err-keep-clause-kept c =
    let f = c.args.fragment.now in
    let P : List ℕ → Type 0 = λ bytes. GainsOnly (record { from = c.args.from; at = c.args.now; fragment = record { name = f.name.now; index = f.index; count = f.count; bytes = bytes } }) c.args.self.now.pieces.items c.keep.new.self.pieces.items in
    subst P c.in_ok-bytes.ensures.items c.keep.ensures.only

pub returns-clause-kept : goal.returns-clause-kept
returns-clause-kept c =
    let f = c.args.fragment.now in
    let P : List ℕ → Type 0 = λ bytes. GainsOnly (record { from = c.args.from; at = c.args.now; fragment = record { name = f.name.now; index = f.index; count = f.count; bytes = bytes } }) c.args.self.now.pieces.items c.keep.new.self.pieces.items in
    subst P c.in_ok-bytes.ensures.items c.keep.ensures.only
