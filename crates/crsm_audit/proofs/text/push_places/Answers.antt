use Rattle.std.proofs.Common.{length, ap, sym, ◌∙◌, arith}
use Rattle.std.proofs.lemmas.List.{length-map}
use Rattle.crsm_base.specs.Spelling.{entry_bytes}
use Rattle.crsm_audit.specs.Lists.{place_of, places_of}
use Rattle.crsm_audit.proofs.PlaceTexts.{all_places, place_more}
use Rattle.crsm_audit.proofs.text.push_places.Goals as goal

pub loop-index-preserved : goal.loop-index-preserved
loop-index-preserved c = λ es fit is.
    place_more (places_of es) c.loop-index.index c.in_ok-place.place c.args.out.now c.loop-index.out c.push_place.new.out
    (c.in_ok-place.ensures es fit is) c.in_ok-push_place.ensures (c.loop-index.invariant es fit is)

pub returns : goal.returns
returns c = λ es fit is.
    let size = c.list_len-index-end.ensures in
    let count = ap length is ∙ length-map es entry_bytes ∙ sym (length-map es place_of) in
    let beyond = c.loop-index-test.false in
    all_places (places_of es) c.loop-index.index c.args.out.now c.loop-index.out (omega (arith, size, count, beyond)) (c.loop-index.invariant es fit is)
