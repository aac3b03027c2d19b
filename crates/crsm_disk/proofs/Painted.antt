-- A disk's ranges, painted, are its image.
use Rattle.std.proofs.Common.{◌≡◌, ℕ, List, [], ◌∷◌, ◌++◌, length, refl, ◌∙◌, ap}
use Rattle.crsm_port_image.specs.Calls.{Call, wrote, cut, synced, contents}
use Rattle.crsm_port_image.specs.Image.{painted, ranged, image_of}
use Rattle.crsm_disk.specs.Ranges.{unsynced, painted_on}
use Rattle.crsm_disk.specs.declared.content.Range.{Range}

painted_more : (ranges : List Range) (range : Range) (fill : ℕ) (image : List ℕ) → painted_on (ranges ++ range ∷ []) fill image ≡ ranged range.at range.count fill (painted_on ranges fill image)
painted_more [] range fill image = refl
painted_more (r ∷ ranges) range fill image = painted_more ranges range fill (ranged r.at r.count fill image)

painted_unsynced : (calls : List Call) (fill : ℕ) (bytes : List ℕ) → painted_on (unsynced calls) fill bytes ≡ painted calls fill bytes
painted_unsynced [] fill bytes = refl
painted_unsynced (wrote at piece ∷ calls) fill bytes =
    painted_more (unsynced calls) (record { at = at; count = length piece }) fill bytes ∙ ap (ranged at (length piece) fill) (painted_unsynced calls fill bytes)
painted_unsynced (cut n ∷ calls) fill bytes = painted_unsynced calls fill bytes
painted_unsynced (synced ∷ calls) fill bytes = refl

-- bytes that these calls made, painted in the ranges that they left unsynced
pub painted_is_image : (first bytes : List ℕ) (calls : List Call) (ranges : List Range) (fill : ℕ) → bytes ≡ contents first calls → ranges ≡ unsynced calls → painted_on ranges fill bytes ≡ image_of first calls fill
painted_is_image first bytes calls ranges fill made left =
    ap (λ (l : List ℕ). painted_on ranges fill l) made ∙ ap (λ (rs : List Range). painted_on rs fill (contents first calls)) left ∙ painted_unsynced calls fill (contents first calls)
