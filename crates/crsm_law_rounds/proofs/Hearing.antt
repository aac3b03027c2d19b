-- A control message whose parts were all sent within a calm round is the one that its parts complete.
use Rattle.std.proofs.Common.{◌≡◌, ℕ, suc, ◌<◌, List, [], ◌∷◌, length, refl, sym, ◌∙◌, ap, subst, inl, inr, arith, get_or}
use Rattle.std.specs.Prelude.{IsTrue, Some, slice_get}
use Rattle.std.proofs.lemmas.Option.{same_Some}
use Rattle.crsm_base.specs.Messages.{control_bytes, FitsControl}
use Rattle.crsm_base.specs.MessageReading.{control_of}
use Rattle.crsm_base.proofs.ControlLaws.{control_of-bytes}
use Rattle.crsm_spec.specs.Types.{Datagram, Control}
use Rattle.crsm_spec.specs.Parts.{Piece, cut, is_same_message, whole_with}
use Rattle.crsm_spec.specs.Replica.{Replica}
use Rattle.crsm_spec.specs.World.{Site, World}
use Rattle.crsm_law_steps.specs.Happenings.{IsReached, WasSent}
use Rattle.crsm_law_messages.proofs.Gathered.{same_keys, with_among, whole_is}
use Rattle.crsm_law_messages.proofs.SendingControls.{IsFor, piece}
use Rattle.crsm_law_messages.proofs.Worlds.{all_known}
use Rattle.crsm_law_active.specs.Staying.{IsMild}

-- All parts of a mild message were sent by one replica to another, under this boot and number.
pub record ToldMildly (e : ℕ) (w : World) (from to boot number count : ℕ) : Type 0 where
  pub message : Control
  pub mild : IsMild e message
  pub fits : FitsControl message
  pub count_is : count ≡ length (cut (control_bytes message))
  pub parts : (i : ℕ) → i < count → WasSent w from to (Datagram.Part from to boot number i count (get_or (cut (control_bytes message)) i []))

-- lists with the same elements at their places
same_places : (xs ys : List (List ℕ)) → length xs ≡ length ys → ((i : ℕ) → i < length xs → get_or xs i [] ≡ get_or ys i []) → xs ≡ ys
same_places [] [] l h = refl
same_places [] (y ∷ ys) l h = absurd (omega (arith, l))
same_places (x ∷ xs) [] l h = absurd (omega (arith, l))
same_places (x ∷ xs) (y ∷ ys) l h =
    let head : x ≡ y = h 0 (omega arith) in
    ap (λ z. z ∷ xs) head ∙ ap (λ zs. y ∷ zs) (same_places xs ys (omega (arith, l)) (λ i lt. h (suc i) (omega (arith, lt))))

-- What is whole of parts whose message was mild is that message.
pub whole_is_mild : (n e : ℕ) (u : World) (q : IsReached n u) (j : ℕ) (r : Replica) → slice_get u.sites j ≡ Some (Site.Up r) → (a : ℕ) (p : Piece) →
    WasSent u a j (Datagram.Part p.from j p.boot p.number p.index p.count p.bytes) → ToldMildly e u p.from j p.boot p.number p.count →
    (message : List ℕ) (c : Control) → whole_with p r.parts ≡ Some message → control_of message ≡ Some c → IsMild e c
whole_is_mild n e u q j r up a p came told message c whole read =
    let g = all_known n u q in
    let here = g.up j r up in
    let f : IsFor g.sent j p = g.packets a j (Datagram.Part p.from j p.boot p.number p.index p.count p.bytes) came p.from j p.boot p.number p.index p.count p.bytes refl in
    let m = control_bytes f.sent_message.message in
    let one : ((o : Piece) → IsTrue (is_same_message p o) → IsFor g.sent j o → o.bytes ≡ get_or (cut m) o.index []) = λ o same x.
    (let keys = same_keys p o same in
    let is = g.apart x.sent_message f.sent_message x.was f.was
    (x.piece.from ∙ sym keys.0 ∙ sym f.piece.from) (x.piece.boot ∙ sym keys.1 ∙ sym f.piece.boot) (x.piece.number ∙ sym keys.2 ∙ sym f.piece.number) in
    x.piece.bytes ∙ ap (λ s. get_or (cut (control_bytes s.message)) o.index []) is) in
    let each : ((i : ℕ) → i < length (cut (control_bytes told.message)) → get_or (cut (control_bytes told.message)) i [] ≡ get_or (cut m) i []) = λ i lt.
    (let within : i < p.count = subst (λ z. i < z) (sym told.count_is) lt in
    let bytes = get_or (cut (control_bytes told.message)) i [] in
    let x : IsFor g.sent j (piece p.from p.boot p.number i p.count bytes) =
    g.packets p.from j (Datagram.Part p.from j p.boot p.number i p.count bytes) (told.parts i within) p.from j p.boot p.number i p.count bytes refl in
    let same_one = g.apart x.sent_message f.sent_message x.was f.was (x.piece.from ∙ sym f.piece.from) (x.piece.boot ∙ sym f.piece.boot) (x.piece.number ∙ sym f.piece.number) in
    x.piece.bytes ∙ ap (λ s. get_or (cut (control_bytes s.message)) i []) same_one) in
    let same_parts : cut (control_bytes told.message) ≡ cut m = same_places (cut (control_bytes told.message)) (cut m) (sym told.count_is ∙ f.piece.count) each in
    let same_bytes : ((o : Piece) → IsTrue (is_same_message p o) → IsFor g.sent j o → o.bytes ≡ get_or (cut (control_bytes told.message)) o.index []) =
    λ o same x. one o same x ∙ ap (λ l. get_or l o.index []) (sym same_parts) in
    let is : message ≡ control_bytes told.message = whole_is (control_bytes told.message) p r.parts message here.once told.count_is
    (λ o x same. elim (with_among p r.parts o x) [ inl b ↦ same_bytes o same (here.parts o b) | inr z ↦ same_bytes o same (subst (IsFor g.sent j) z f) ]) whole in
    let same_control : told.message ≡ c = same_Some told.message c (sym (control_of-bytes told.message told.fits) ∙ ap control_of (sym is) ∙ read) in
    subst (IsMild e) same_control told.mild
