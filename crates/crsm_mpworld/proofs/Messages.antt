-- Messages that are kept once, and the packets with them.
use Rattle.std.proofs.Common.{◌≡◌, ◌<◌, ◌≤◌, ℕ, true, List, [], ◌∷◌, ◌++◌, length, map, set, Option, Some, None, refl, ap, sym, ◌∙◌, arith}
use Rattle.std.specs.Prelude.{slice_get, option_map}
use Rattle.std.specs.List.{AllByRecursion}
use Rattle.std.specs.Option.{option_map_or}
use Rattle.std.proofs.lemmas.List.{length-map}
use Rattle.std.proofs.lemmas.Option.{slice_get_past, slice_get-map}
use Rattle.crsm_mpworld.specs.declared.sent.Message.{Message}
use Rattle.crsm_mpworld.specs.declared.sent.Packet.{Packet}
use Rattle.crsm_mpworld.specs.Sent.{PacketInMemory, marked, whole}
use Rattle.crsm_mpworld.proofs.Gets.{get_before, map_set}

-- ---- a message that is kept

-- the packets have the messages that they had
before_kept : (ms : List Message) (m : Message) (ps : List Packet) → AllByRecursion (λ p. p.message < length ms) ps → map (whole (ms ++ m ∷ [])) ps ≡ map (whole ms) ps
before_kept ms m [] all = refl
before_kept ms m (p ∷ ps) all =
    ap (λ (o : Option Message). record { to = p.to; is_used = p.is_used; message = o } ∷ map (whole (ms ++ m ∷ [])) ps) (get_before ms m p.message all.0)
    ∙ ap (λ qs. whole ms p ∷ qs) (before_kept ms m ps all.1)

pub still_whole : (ms all : List Message) (m : Message) (ps : List Packet) → all ≡ ms ++ m ∷ [] → AllByRecursion (λ p. p.message < length ms) ps → map (whole all) ps ≡ map (whole ms) ps
still_whole ms all m ps e within = ap (λ xs. map (whole xs) ps) e ∙ before_kept ms m ps within

-- ---- a packet that is used up

pub marked_here : (ps : List PacketInMemory) (i : ℕ) (p : PacketInMemory) → slice_get ps i ≡ Some p → marked i ps ≡ set ps i (record p { is_used = true })
unfolding marked
marked_here ps i p e = ap (λ o. option_map_or (λ q. set ps i (record q { is_used = true })) o ps) e

pub marked_nowhere : (ps : List PacketInMemory) (i : ℕ) → slice_get ps i ≡ None → marked i ps ≡ ps
unfolding marked
marked_nowhere ps i e = ap (λ o. option_map_or (λ q. set ps i (record q { is_used = true })) o ps) e

pub marks_one : (ms : List Message) (ps : List Packet) (i : ℕ) (p : Packet) → slice_get ps i ≡ Some p
    → map (whole ms) (set ps i (record p { is_used = true })) ≡ marked i (map (whole ms) ps)
marks_one ms ps i p e =
    map_set (whole ms) ps i (record p { is_used = true })
    ∙ sym (marked_here (map (whole ms) ps) i (whole ms p) (slice_get-map (whole ms) ps i ∙ ap (option_map (whole ms)) e))

pub marks_none : (ms : List Message) (ps : List Packet) (i : ℕ) → length ps ≤ i → map (whole ms) ps ≡ marked i (map (whole ms) ps)
marks_none ms ps i l = sym (marked_nowhere (map (whole ms) ps) i (slice_get_past (map (whole ms) ps) i (omega (arith, l, length-map ps (whole ms)))))
