-- A message to several receivers.
use Rattle.std.proofs.Common.{◌≡◌, ℕ, ◌+◌, ◌<◌, true, false, List, [], ◌∷◌, ◌++◌, length, map, refl, ap, ◌∙◌, append-nil, arith}
use Rattle.std.specs.Prelude.{◌==◌, not, filter}
use Rattle.std.specs.List.{AllByRecursion}
use Rattle.std.proofs.lemmas.List.Elements.{filter-append}
use Rattle.crsm_spec.specs.Lists.{numbers_below}
use Rattle.crsm_mpspec.specs.declared.message.MpMessage.{MpMessage}
use Rattle.crsm_mpspec.specs.declared.send.MpSend.{MpSend}
use Rattle.crsm_mpspec.specs.Sends.{others_below, sends_to}
use Rattle.crsm_mpreplica.specs.Fitting.{FitsMessage}
use Rattle.crsm_mpreplica.specs.Made.{to_send}
use Rattle.crsm_mpworld.specs.Effects.{to_each}
use Rattle.crsm_mpworld.specs.Fits.{FitsSend}
use Rattle.crsm_mpworld.proofs.Numbers.{range_to}

-- the messages, in the words of the batch
pub each_sent : (m : MpMessage) (ks : List ℕ) → sends_to m ks ≡ map to_send (to_each m ks)
unfolding to_send
each_sent m [] = refl
each_sent m (k ∷ ks) = ap (λ (xs : List MpSend). to_send (k, m) ∷ xs) (each_sent m ks)

-- what holds of all holds of the first and of the rest
pub all_split : {A : Type 0} (P : A → Type 0) (xs ys : List A) → AllByRecursion P (xs ++ ys) → AllByRecursion P xs × AllByRecursion P ys
all_split P [] ys all = (tt, all)
all_split P (x ∷ xs) ys all = let rest = all_split P xs ys all.1 in ((all.0, rest.0), rest.1)

-- a message that has a receiver fits
pub fits_first : (m : MpMessage) (ks : List ℕ) → 0 < length ks → AllByRecursion FitsSend (sends_to m ks) → FitsMessage m
fits_first m [] some fit = absurd (omega (arith, some))
fits_first m (k ∷ ks) some fit = fit.0

-- ---- all but one

-- those below one number more
below_next : (me k : ℕ) → others_below me (k + 1) ≡ others_below me k ++ filter (λ j. not (j == me)) (k ∷ [])
unfolding numbers_below
below_next me k = ap (filter (λ j. not (j == me))) (range_to k) ∙ filter-append (λ j. not (j == me)) (numbers_below k) (k ∷ [])

pub others_next : (m : MpMessage) (me k : ℕ) → (k == me) ≡ false → to_each m (others_below me (k + 1)) ≡ to_each m (others_below me k) ++ (k, m) ∷ []
others_next m me k other = ap (to_each m) (below_next me k ∙ rw other refl) ∙ each_more (others_below me k)
  where
    each_more : (ks : List ℕ) → to_each m (ks ++ k ∷ []) ≡ to_each m ks ++ (k, m) ∷ []
    each_more [] = refl
    each_more (j ∷ ks) = ap (λ (xs : List (ℕ × MpMessage)). (j, m) ∷ xs) (each_more ks)

pub others_same : (me k : ℕ) → (k == me) ≡ true → others_below me (k + 1) ≡ others_below me k
others_same me k same = below_next me k ∙ rw same (append-nil (others_below me k))
