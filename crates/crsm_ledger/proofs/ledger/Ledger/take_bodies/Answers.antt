use Rattle.std.proofs.Common.{◌≡◌, ◌∙◌, ℕ, ◌+◌, ◌<◌, List, [], ◌∷◌, ◌++◌, length, take, refl, ap, slice_get, Some}
use Rattle.std.proofs.lemmas.List.{take_more}
use Rattle.std.proofs.lemmas.Option.{slice_get_within, get_or_from_slice_get}
use Rattle.crsm_ledger.specs.Recovered.{with_records}
use Rattle.crsm_ledger.proofs.RecoverLemmas.{kept-more}
use Rattle.crsm_ledger.proofs.ledger.Ledger.take_bodies.Goals as goal

pub loop-index-preserved : goal.loop-index-preserved
loop-index-preserved c =
    let so_far = c.loop-index.invariant.0 in
    let bodies : List (List ℕ) = c.args.bodies.now in
    let body : List ℕ = c.in-Some.body.now in
    let there : slice_get bodies c.loop-index.index ≡ Some body = c.in-Some.ensures in
    let within : c.loop-index.index < length bodies = slice_get_within bodies c.loop-index.index body there in
    let more : take (c.loop-index.index + 1) bodies ≡ take c.loop-index.index bodies ++ body ∷ [] =
    take_more bodies c.loop-index.index [] within ∙ ap (λ (b : List ℕ). take c.loop-index.index bodies ++ b ∷ []) (get_or_from_slice_get bodies c.loop-index.index body [] there) in
    let step = c.in-Ok.ensures.taken in (
      (λ me n s.
          let before = so_far me n s in
          let kept = step me n before.0 before.2 in (
            with_records before.0 kept.0,
            kept-more me n bodies c.loop-index.index body body before.0 kept.0 more refl before.1 kept.1 kept.2,
            kept.3,
          )),
      c.in-Ok.ensures.accepted,
      c.in-Ok.ensures.tail,
    )
