-- The effect of a sync on a disk in memory.
use Rattle.std.proofs.Common.{◌≡◌, inl, inr, ⊎_elim, ℕ, List, ◌∷◌, length, sym, ap, subst, arith}
use Rattle.crsm_port_image.specs.Calls.{Call, synced, contents}
use Rattle.crsm_disk.specs.Contract.{Goes}
use Rattle.crsm_port_image.specs.Image.{IsImage, IsLeftSince}
use Rattle.crsm_disk.specs.Memory.{Memory, meaning_of}
use Rattle.crsm_port_image.proofs.Images.{reads_image}

-- a sync leaves what a read gives
module _ (m n : Memory) (first : n.first ≡ m.first) (calls : n.calls ≡ synced ∷ m.calls) where
  image : (c : List ℕ) → IsImage n.first n.calls c → IsImage m.first (synced ∷ m.calls) c
  image c now = subst (λ (a : List ℕ). IsImage a (synced ∷ m.calls) c) first (subst (λ (b : List Call). IsImage n.first b c) calls now)

  image_back : (c : List ℕ) → IsImage m.first (synced ∷ m.calls) c → IsImage n.first n.calls c
  image_back c now = subst (λ (b : List Call). IsImage n.first b c) (sym calls) (subst (λ (a : List ℕ). IsImage a (synced ∷ m.calls) c) (sym first) now)

  left : (t : ℕ) (c : List ℕ) → IsLeftSince n.first n.calls t c → IsLeftSince m.first (synced ∷ m.calls) t c
  left t c now = subst (λ (a : List ℕ). IsLeftSince a (synced ∷ m.calls) t c) first (subst (λ (b : List Call). IsLeftSince n.first b t c) calls now)

  left_back : (t : ℕ) (c : List ℕ) → IsLeftSince m.first (synced ∷ m.calls) t c → IsLeftSince n.first n.calls t c
  left_back t c now = subst (λ (b : List Call). IsLeftSince n.first b t c) (sym calls) (subst (λ (a : List ℕ). IsLeftSince a (synced ∷ m.calls) t c) (sym first) now)

  pub sync_goes : Goes (λ d c. c ≡ d) (meaning_of m) (meaning_of n)
  sync_goes = record {
    follows = λ c now. (contents m.first m.calls, reads_image m.first m.calls, image c now);
    time = record {
      later = omega (arith, ap length calls);
      nothing_else = λ t c le was. ⊎_elim (λ now. inr (image_back c now)) (λ before. inl before.1) (left t c was);
      keeps = λ t c le was. left_back t c (inr (le, was));
    };
  }
