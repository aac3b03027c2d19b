use Rattle.std.proofs.Common.{◌≡◌, ◌∙◌, ◌-◌, ap, sym, arith, length, map, take, drop, string_bytes, codes, ◌∷◌, List}
use Rattle.std.proofs.lemmas.List.{length-map}
use Rattle.std.proofs.lemmas.Slice.Eq.{bytes_eq-Decides}
use Rattle.clap.specs.Words.{Text}
use Rattle.crsm_text_words.proofs.Clusters.{few_words, two_words}
use Rattle.crsm_text_words.proofs.read.cluster_words.Goals as goal

pub returns-then-words-lt2-clause-none : goal.returns-then-words-lt2-clause-none
returns-then-words-lt2-clause-none c =
    let few = c.if-words-lt2.true in
    let len = length-map c.args.words.now string_bytes in
    few_words (map string_bytes c.args.words.now) (omega (arith, few, len))

pub returns-then-eq-clause-found : goal.returns-then-eq-clause-found
returns-then-eq-clause-found c =
    let all = two_words string_bytes c.args.words.now c.index-words-0.result c.index-words-1.result c.if-words-lt2.false c.index-words-0.is c.index-words-1.is in
    let first : string_bytes c.index-words-0.result ≡ codes "cluster" = sym c.as_str.ensures.value ∙ (bytes_eq-Decides c.as_str.result.now (codes "cluster")).0 (sym c.eq.ensures ∙ c.if-eq.true) in
    let rest : List Text = map string_bytes (take (length c.args.words.now - 2) (drop 2 c.args.words.now)) in
    all ∙ ap (λ (w : Text). w ∷ string_bytes c.index-words-1.result ∷ rest) first ∙ ap (λ (w : Text). codes "cluster" ∷ w ∷ rest) (sym c.as_str-then-eq.ensures.value)
