-- Words joined by spaces, while the text is written.
use Rattle.std.proofs.Common.{◌≡◌, List, [], ◌∷◌, ◌++◌, ap, sym}
use Rattle.std.proofs.lemmas.List.{append-nil}
use Rattle.clap.specs.Words.{Text}
use Rattle.crsm_text.specs.Words.{spaced}

abbrev pub spaced_after : List Text → Text
spaced_after [] = []
spaced_after (w ∷ ws) = 32 ∷ w ++ spaced_after ws

pub spaced-spaced_after : (w : Text) (ws : List Text) → spaced (w ∷ ws) ≡ w ++ spaced_after ws
spaced-spaced_after w [] = sym (append-nil w)
spaced-spaced_after w (v ∷ ws) = ap (λ (s : Text). w ++ 32 ∷ s) (spaced-spaced_after v ws)
