-- Datagrams sent one after another.
use Rattle.std.proofs.Common.{◌≡◌, ℕ, ◌+◌, ◌<◌, List, [], ◌∷◌, ◌++◌, sym, ◌∙◌, ap, subst, length, get_or, take, map, refl}
use Rattle.std.specs.Prelude.{◌≢◌}
use Rattle.std.proofs.lemmas.List.{map-append, append-nil, append_assoc, take_more}
use Rattle.crsm_replica_output.specs.declared.output.Output.{Output}
use Rattle.crsm_replica_output.specs.Made.{Made, OutputStands}
use Rattle.crsm_spec.specs.Types.{InEpoch, Datagram}
use Rattle.crsm_spec.specs.Log.{known}
use Rattle.crsm_spec.specs.Replica.{Replica, frames_to}
use Rattle.crsm_spec.specs.Draft.{next_frame}
use Rattle.crsm_replica.specs.Again.{frame_again}
use Rattle.crsm_replica.proofs.Excepting.{but_for, skips, takes}

-- none is sent
pub sent-none : (output : Output) (m : Made) → OutputStands output m → OutputStands output (record m { sends = m.sends ++ [] })
sent-none output m h = subst (λ sends. OutputStands output (record m { sends = sends })) (sym (append-nil m.sends)) h

-- one more is sent
pub sent-more : {X : Type 0} (old new : Output) (m : Made) (f : X → ℕ × Datagram) (xs : List X) (i : ℕ) (d : X) (s : ℕ × Datagram) → i < length xs → s ≡ f (get_or xs i d) →
    OutputStands old (record m { sends = m.sends ++ map f (take i xs) }) → ((m : Made) → OutputStands old m → OutputStands new (record m { sends = m.sends ++ s ∷ [] })) →
    OutputStands new (record m { sends = m.sends ++ map f (take (i + 1) xs) })
sent-more old new m f xs i d s within e h sends =
    let same : (m.sends ++ map f (take i xs)) ++ s ∷ [] ≡ m.sends ++ map f (take (i + 1) xs) =
    append_assoc m.sends (map f (take i xs)) (s ∷ [])
    ∙ ap (λ ss. m.sends ++ ss) (ap (λ t. map f (take i xs) ++ t ∷ []) e ∙ sym (map-append f (take i xs) (get_or xs i d ∷ [])) ∙ ap (map f) (sym (take_more xs i d within))) in
    subst (λ ss. OutputStands new (record m { sends = ss })) same (sends _ h)

-- the next frame to k
pub next-is : (r : Replica) (payload copy : InEpoch) (me epoch seq k : ℕ) → me ≡ r.me → epoch ≡ known r.log → seq ≡ length (frames_to r k) → copy ≡ payload →
    (k, Datagram.Frame me k epoch seq copy) ≡ next_frame r payload k
unfolding next_frame
next-is r payload copy me epoch seq k mine now number same =
    ap (λ m. (k, Datagram.Frame m k epoch seq copy)) mine ∙ ap (λ e. (k, Datagram.Frame r.me k e seq copy)) now
    ∙ ap (λ n. (k, Datagram.Frame r.me k (known r.log) n copy)) number ∙ ap (λ p. (k, Datagram.Frame r.me k (known r.log) (length (frames_to r k)) p)) same

-- a frame that goes again
pub again-is : (me epoch k : ℕ) (f : ℕ × InEpoch) (copy : InEpoch) → copy ≡ f.1 → (k, Datagram.Frame me k epoch f.0 copy) ≡ frame_again me epoch k f
unfolding frame_again
again-is me epoch k f copy same = ap (λ p. (k, Datagram.Frame me k epoch f.0 p)) same

-- ---- one frame to each member but me

-- the next member is me
pub passed-me : (output : Output) (m : Made) (f : ℕ → ℕ × Datagram) (ks : List ℕ) (i me : ℕ) → i < length ks → get_or ks i 0 ≡ me →
    OutputStands output (record m { sends = m.sends ++ map f (but_for me (take i ks)) }) → OutputStands output (record m { sends = m.sends ++ map f (but_for me (take (i + 1) ks)) })
passed-me output m f ks i me within e h =
    subst (λ js. OutputStands output (record m { sends = m.sends ++ map f js })) (skips ks (but_for me (take i ks)) i me within e refl) h

-- a frame went to the next member
pub sent-other : (old new : Output) (m : Made) (f : ℕ → ℕ × Datagram) (ks : List ℕ) (i me : ℕ) → i < length ks → get_or ks i 0 ≢ me →
    OutputStands old (record m { sends = m.sends ++ map f (but_for me (take i ks)) }) →
    ((m : Made) → OutputStands old m → OutputStands new (record m { sends = m.sends ++ f (get_or ks i 0) ∷ [] })) →
    OutputStands new (record m { sends = m.sends ++ map f (but_for me (take (i + 1) ks)) })
sent-other old new m f ks i me within e h sends =
    let same : (m.sends ++ map f (but_for me (take i ks))) ++ f (get_or ks i 0) ∷ [] ≡ m.sends ++ map f (but_for me (take (i + 1) ks)) =
    append_assoc m.sends (map f (but_for me (take i ks))) (f (get_or ks i 0) ∷ [])
    ∙ ap (λ ss. m.sends ++ ss) (sym (map-append f (but_for me (take i ks)) (get_or ks i 0 ∷ []))
    ∙ ap (map f) (takes ks (but_for me (take i ks)) (but_for me (take i ks) ++ get_or ks i 0 ∷ []) i me within e refl refl)) in
    subst (λ ss. OutputStands new (record m { sends = ss })) same (sends _ h)
