-- The frames taken, with one more frame, and from the frames of one sender.
use Rattle.std.proofs.Common.{◌≡◌, ℕ, ◌+◌, Bool, true, false, cond, refl, sym, ◌∙◌, ap, subst, arith, List, [], ◌∷◌, ◌++◌, length, length-append, drop, Some, suc, add-zero}
use Rattle.std.specs.Prelude.{◌==◌, slice_get, if◌then◌else◌}
use Rattle.std.specs.List.{AllByRecursion}
use Rattle.std.proofs.lemmas.Bool.{eqb-true}
use Rattle.std.proofs.lemmas.Bool.Decides.{nat_tests}
use Rattle.std.proofs.lemmas.Option.{slice_get_within, get_or_from_slice_get}
use Rattle.std.proofs.lemmas.List.{append-nil, drop_more}
use Rattle.crsm_base.specs.declared.InEpoch.{InEpoch}
use Rattle.crsm_spec.specs.Link.{taken, taken_from}
use Rattle.crsm_spec.specs.Lists.{IsPrefixOf}
use Rattle.crsm_link.specs.Sent.{IsFrameOf}

-- a frame's payload where the test passes
given : {A : Type 0} → Bool → A → List A
given b x = if b then x ∷ [] else []

more_from : (next : ℕ) (frames : List (ℕ × InEpoch)) (frame : ℕ × InEpoch) →
    taken_from next (frames ++ frame ∷ []) ≡ taken_from next frames ++ given (frame.0 == next + length (taken_from next frames)) frame.1
unfolding taken_from given
more_from next [] frame = rw add-zero refl
more_from next (f ∷ frames) frame = go (f.0 == next) (more_from (next + 1) frames frame) (more_from next frames frame)
  where
    go : (b : Bool) →
        taken_from (next + 1) (frames ++ frame ∷ []) ≡ taken_from (next + 1) frames ++ given (frame.0 == next + 1 + length (taken_from (next + 1) frames)) frame.1 →
        taken_from next (frames ++ frame ∷ []) ≡ taken_from next frames ++ given (frame.0 == next + length (taken_from next frames)) frame.1 →
        (cond b (f.1 ∷ taken_from (next + 1) (frames ++ frame ∷ [])) (taken_from next (frames ++ frame ∷ []))
        ≡ cond b (f.1 ∷ taken_from (next + 1) frames) (taken_from next frames)
        ++ given (frame.0 == next + length (cond b (f.1 ∷ taken_from (next + 1) frames) (taken_from next frames))) frame.1)
    go true i j =
        let e : next + 1 + length (taken_from (next + 1) frames) ≡ next + suc (length (taken_from (next + 1) frames)) = omega arith in
        ap (λ ys. f.1 ∷ ys) (i ∙ ap (λ n. taken_from (next + 1) frames ++ given (frame.0 == n) frame.1) e)
    go false i j = j

-- the frame of the next number is taken
pub taken_next : (frames : List (ℕ × InEpoch)) (number : ℕ) (payload : InEpoch) → number ≡ length (taken frames) →
    taken (frames ++ (number, payload) ∷ []) ≡ taken frames ++ payload ∷ []
unfolding taken given
taken_next frames number payload e =
    let test : (number == 0 + length (taken_from 0 frames)) ≡ true = grind (arith, nat_tests) in
    more_from 0 frames (number, payload) ∙ ap (λ b. taken_from 0 frames ++ given b payload) test

-- another frame is not
pub taken_other : (frames : List (ℕ × InEpoch)) (number : ℕ) (payload : InEpoch) → (number ≡ length (taken frames) → ⊥) →
    taken (frames ++ (number, payload) ∷ []) ≡ taken frames
unfolding taken given
taken_other frames number payload differs =
    let test : (number == 0 + length (taken_from 0 frames)) ≡ false = grind (arith, nat_tests) in
    more_from 0 frames (number, payload) ∙ ap (λ b. taken_from 0 frames ++ given b payload) test ∙ append-nil (taken_from 0 frames)

pub nothing_taken : length (taken {A = InEpoch} []) ≡ 0
unfolding taken taken_from
nothing_taken = refl

no_longer : (xs : List InEpoch) (x : InEpoch) → xs ≡ xs ++ x ∷ [] → ⊥
no_longer xs x e = absurd (omega (arith, ap length e, length-append xs (x ∷ [])))

-- taking a payload lengthens what was taken
pub same_is_not_more : (frames : List (ℕ × InEpoch)) (number : ℕ) (payload : InEpoch) → (number ≡ length (taken frames) → ⊥) →
    taken (frames ++ (number, payload) ∷ []) ≡ taken frames ++ payload ∷ [] → ⊥
same_is_not_more frames number payload differs e =
    no_longer (taken frames) payload (sym (taken_other frames number payload differs) ∙ e)

-- ---- frames of one sender

here : (pushed : List InEpoch) (next : ℕ) (payload : InEpoch) → slice_get pushed next ≡ Some payload →
    drop next pushed ≡ payload ∷ drop (next + 1) pushed
here pushed next payload e =
    drop_more pushed next payload (slice_get_within pushed next payload e)
    ∙ ap (λ x. x ∷ drop (next + 1) pushed) (get_or_from_slice_get pushed next payload payload e)

one_more : (x : InEpoch) (xs ys zs : List InEpoch) → zs ≡ x ∷ ys → IsPrefixOf xs ys → IsPrefixOf (x ∷ xs) zs
one_more x xs ys zs e prefix = (prefix.0, ap (λ l. x ∷ l) prefix.1 ∙ sym e)

prefix_from : (pushed : List InEpoch) (next : ℕ) (frames : List (ℕ × InEpoch)) → AllByRecursion (IsFrameOf pushed) frames →
    IsPrefixOf (taken_from next frames) (drop next pushed)
unfolding taken_from
prefix_from pushed next [] all = (drop next pushed, refl)
prefix_from pushed next (f ∷ frames) all = go (f.0 == next) refl (prefix_from pushed (next + 1) frames all.1) (prefix_from pushed next frames all.1)
  where
    go : (b : Bool) → (f.0 == next) ≡ b → IsPrefixOf (taken_from (next + 1) frames) (drop (next + 1) pushed) →
        IsPrefixOf (taken_from next frames) (drop next pushed) →
        IsPrefixOf (cond b (f.1 ∷ taken_from (next + 1) frames) (taken_from next frames)) (drop next pushed)
    go true e i j = one_more f.1 _ _ _ (here pushed next f.1 (subst (λ n. slice_get pushed n ≡ Some f.1) (eqb-true f.0 next e) all.0)) i
    go false e i j = j

pub taken_is_prefix : (pushed : List InEpoch) (frames : List (ℕ × InEpoch)) → AllByRecursion (IsFrameOf pushed) frames → IsPrefixOf (taken frames) pushed
unfolding taken
taken_is_prefix pushed frames all = prefix_from pushed 0 frames all
