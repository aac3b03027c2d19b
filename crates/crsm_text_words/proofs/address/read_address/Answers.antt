use Rattle.std.proofs.Common.{◌≡◌, Some, ap, sym, ◌∙◌}
use Rattle.crsm_text_words.specs.Addresses.{joined, parts_of}
use Rattle.crsm_text_words.specs.declared.address.AddressParts.{AddressParts}
use Rattle.crsm_text_words.proofs.AddressLaws.{joined_parts, parts_are, parts_joined}
use Rattle.crsm_text_words.proofs.address.read_address.Goals as goal

pub returns-in_err-parts-clause-only : goal.returns-in_err-parts-clause-only
returns-in_err-parts-clause-only c = λ a below e. let read = c.in_err-parts.ensures.only (parts_of a) (parts_are a below) e in absurd (cc read)

pub returns-clause-found : goal.returns-clause-found
returns-clause-found c =
    let are = c.in_ok-parts.ensures.found.0 in
    let text = c.in_ok-parts.ensures.found.1 in
    (c.number.ensures.below, rw c.number.ensures.value (text ∙ parts_joined c.in_ok-parts.parts are))

pub returns-clause-only : goal.returns-clause-only
returns-clause-only c = λ a below e.
    let read = c.in_ok-parts.ensures.only (parts_of a) (parts_are a below) e in
    let same : c.in_ok-parts.parts ≡ parts_of a = cc read in
    ap (λ (n : Rattle.std.proofs.Common.ℕ). Some n) (c.number.ensures.value ∙ ap joined same ∙ joined_parts a below)
