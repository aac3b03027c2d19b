-- The elements at which a test is true, taken one after another.
use Rattle.std.proofs.Common.{◌≡◌, ◌∙◌, ℕ, ◌+◌, ◌<◌, ◌≤◌, ap, sym, List, [], ◌∷◌, ◌++◌, length, take, get_or, Bool, true, false, cond}
use Rattle.std.specs.Prelude.{filter}
use Rattle.std.proofs.lemmas.List.{take_more, take_all, append-nil}
use Rattle.std.proofs.lemmas.List.Elements.{filter-append}

more : (p : ℕ → Bool) (ks : List ℕ) (i : ℕ) (b : Bool) → i < length ks → p (get_or ks i 0) ≡ b →
    filter p (take (i + 1) ks) ≡ filter p (take i ks) ++ cond b (get_or ks i 0 ∷ []) []
more p ks i b l e =
    ap (filter p) (take_more ks i 0 l) ∙ filter-append p (take i ks) (get_or ks i 0 ∷ [])
    ∙ ap (λ b. filter p (take i ks) ++ cond b (get_or ks i 0 ∷ []) []) e

pub skips : (p : ℕ → Bool) (ks kept : List ℕ) (i : ℕ) → i < length ks → p (get_or ks i 0) ≡ false → kept ≡ filter p (take i ks) → kept ≡ filter p (take (i + 1) ks)
skips p ks kept i l e h = h ∙ sym (append-nil (filter p (take i ks))) ∙ sym (more p ks i false l e)

pub takes : (p : ℕ → Bool) (ks kept now : List ℕ) (i : ℕ) → i < length ks → p (get_or ks i 0) ≡ true → now ≡ kept ++ get_or ks i 0 ∷ [] → kept ≡ filter p (take i ks) →
    now ≡ filter p (take (i + 1) ks)
takes p ks kept now i l e n h = n ∙ ap (λ zs. zs ++ get_or ks i 0 ∷ []) h ∙ sym (more p ks i true l e)

pub whole : (p : ℕ → Bool) (ks : List ℕ) (i : ℕ) → length ks ≤ i → filter p (take i ks) ≡ filter p ks
whole p ks i l = ap (filter p) (take_all i ks l)
