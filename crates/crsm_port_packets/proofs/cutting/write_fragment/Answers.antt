use Rattle.std.proofs.Common.{◌≡◌, ◌∙◌, ◌++◌, List, ℕ, [], ◌∷◌, ap, ap₂}
use Rattle.crsm_port_packets.proofs.Cuttings.{written}
use Rattle.crsm_port_packets.proofs.cutting.write_fragment.Goals as goal

pub returns-clause-items : goal.returns-clause-items
returns-clause-items c =
    let name = c.args.name.now in
    let ends : List ℕ = c.args.index ∷ c.args.count ∷ [] in
    let start : c.append.new.packet.items ≡ 20 ∷ 1 ∷ [] = c.append.ensures.items ∙ ap (λ (x : List ℕ). x ++ 20 ∷ 1 ∷ []) c.clear.ensures.items in
    let named : c.append-2.new.packet.items ≡ 20 ∷ 1 ∷ name = c.append-2.ensures.items ∙ ap (λ (x : List ℕ). x ++ name) start in
    let head : c.append-3.new.packet.items ≡ 20 ∷ 1 ∷ (name ++ ends) = c.append-3.ensures.items ∙ ap (λ (x : List ℕ). x ++ ends) named in
    c.append-4.ensures.items ∙ ap₂ (λ (x y : List ℕ). x ++ y) head c.piece_at.ensures.bytes

pub returns-clause-fragment : goal.returns-clause-fragment
returns-clause-fragment c =
    written c.args.bytes.now c.args.name.now c.args.index c.args.count c.append-4.new.packet.items c.requires.name (returns-clause-items c) c.requires.all
