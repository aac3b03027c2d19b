use Rattle.std.proofs.Common.{◌≡◌, ◌∙◌, ◌++◌, List, ℕ, ◌∷◌, length, drop, ap, ap₂, arith, refl, sym, take-append-drop}
use Rattle.std.proofs.lemmas.List.{drop_at, length-take-le}
use Rattle.crsm_port_packets.proofs.format.fragment_of.Goals as goal

pub returns-in_err-index-clause-none : goal.returns-in_err-index-clause-none
returns-in_err-index-clause-none c = λ _ name index count rest long is lt.
    c.in_err-index.ensures.none refl index count rest (c.in_ok-name.ensures.cases.1 ∙ ap (drop 36) is ∙ drop_at name (index ∷ count ∷ rest) 36 long) lt

pub returns-clause-name : goal.returns-clause-name
returns-clause-name c =
    let cases = c.in_ok-name.ensures.cases in
    ap length cases.0 ∙ length-take-le 36 c.args.bytes.now (omega (arith, cases.2))

pub returns-clause-fields : goal.returns-clause-fields
returns-clause-fields c =
    let bytes = c.args.bytes.now in
    let cases = c.in_ok-name.ensures.cases in
    let name = c.in_ok-name.name.now in
    let whole : bytes ≡ name ++ c.in_ok-name.rest.now = sym (ap₂ (λ (x y : List ℕ). x ++ y) cases.0 cases.1 ∙ take-append-drop 36 bytes) in
    whole ∙ ap (λ (r : List ℕ). name ++ r) c.in_ok-index.ensures.fields
