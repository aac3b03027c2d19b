-- Messages in memory and in the definitions, one by one.
use Rattle.std.proofs.Common.{◌≡◌, ℕ, zero, suc, List, [], ◌∷◌, ◌++◌, length, map, set, true, Option, Some, None, refl, ap, sym, ◌∙◌, subst}
use Rattle.std.specs.Prelude.{slice_get, option_map, MatchOption}
use Rattle.std.specs.List.{AllByRecursion}
use Rattle.std.specs.Option.{option_map_or}
use Rattle.std.proofs.lemmas.List.{length-map}
use Rattle.std.proofs.lemmas.Option.{slice_get-map}
use Rattle.crsm_mpspec.specs.World.{Packet}
use Rattle.crsm_mpreplica.specs.Fitting.{FitsMessage}
use Rattle.crsm_mpworld.specs.declared.sent.Message.{Message}
use Rattle.crsm_mpworld.specs.declared.sent.PacketView.{PacketView}
use Rattle.crsm_mpworld.specs.Packets.{in_memory, IsPacketAt, used_up}
use Rattle.crsm_mpworld.specs.Sent.{PacketInMemory, marked, message_from}
use Rattle.crsm_mpworld.specs.Views.{viewed}
use Rattle.crsm_mpworld.proofs.Gets.{map_set}
use Rattle.crsm_mpworld.proofs.Messages.{marked_here, marked_nowhere}

-- each message of the packets fits
abbrev pub Fit : List Packet → Type 0
Fit ps = AllByRecursion (λ p. FitsMessage p.message) ps

-- ---- lists

all_get : {A : Type 0} (P : A → Type 0) (xs : List A) (i : ℕ) (x : A) → AllByRecursion P xs → slice_get xs i ≡ Some x → P x
all_get P [] i x all e = absurd (cc)
all_get P (y ∷ ys) zero x all e = let same : y ≡ x = cc in subst P same all.0
all_get P (y ∷ ys) (suc i) x all e = all_get P ys i x all.1 e

all_set : {A : Type 0} (P : A → Type 0) (xs : List A) (i : ℕ) (x : A) → AllByRecursion P xs → P x → AllByRecursion P (set xs i x)
all_set P [] i x all p = tt
all_set P (y ∷ ys) zero x all p = (p, all.1)
all_set P (y ∷ ys) (suc i) x all p = (all.0, all_set P ys i x all.1 p)

pub all_more : {A : Type 0} (P : A → Type 0) (xs : List A) (x : A) → AllByRecursion P xs → P x → AllByRecursion P (xs ++ x ∷ [])
all_more P [] x all p = (p, tt)
all_more P (y ∷ ys) x all p = (all.0, all_more P ys x all.1 p)

-- ---- packets

pub packets_length : (ms : List PacketInMemory) (ps : List Packet) → ms ≡ map in_memory ps → length ms ≡ length ps
packets_length ms ps e = ap length e ∙ length-map ps in_memory

-- packet i in memory is packet i of the definitions
some_mapped : {A B : Type 0} (f : A → B) (o : Option A) (y : B) → option_map f o ≡ Some y → (x : A) × (o ≡ Some x) × (y ≡ f x)
some_mapped f (Some x) y e = (x, refl, let same : f x ≡ y = cc in sym same)
some_mapped f None y e = absurd (cc)

none_mapped : {A B : Type 0} (f : A → B) (o : Option A) → option_map f o ≡ None → o ≡ None
none_mapped f (Some x) e = absurd (cc)
none_mapped f None e = refl

same_some : (m n : Message) → Some m ≡ Some n → m ≡ n
same_some m n e = cc

packets_here : (ms : List PacketInMemory) (ps : List Packet) (i : ℕ) (v : PacketView) → ms ≡ map in_memory ps → Fit ps → slice_get ms i ≡ Some (viewed v) → IsPacketAt ps i v
unfolding in_memory
packets_here ms ps i v e fit f =
    let found = some_mapped in_memory (slice_get ps i) (viewed v) (sym (slice_get-map in_memory ps i) ∙ ap (λ xs. slice_get xs i) (sym e) ∙ f) in
    let message = same_some (record { from = v.from; input = v.input.now }) (message_from found.0.from found.0.message) (ap (λ q. q.message) found.2) in (
      found.0,
      found.1,
      record {
        from = ap (λ m. m.from) message;
        to = ap (λ q. q.to) found.2;
        input = ap (λ m. m.input) message;
        used = ap (λ q. q.is_used) found.2;
        fits = all_get (λ p. FitsMessage p.message) ps i found.0 fit found.1;
      },
    )

packets_nowhere : (ms : List PacketInMemory) (ps : List Packet) (i : ℕ) → ms ≡ map in_memory ps → slice_get ms i ≡ None → slice_get ps i ≡ None
packets_nowhere ms ps i e f = none_mapped in_memory (slice_get ps i) (sym (slice_get-map in_memory ps i) ∙ ap (λ xs. slice_get xs i) (sym e) ∙ f)

-- what a look-up gives
pub packets_got : (ms : List PacketInMemory) (ps : List Packet) (i : ℕ) (r : Option PacketView) → ms ≡ map in_memory ps → Fit ps
    → MatchOption r (slice_get ms i ≡ None) (λ v. slice_get ms i ≡ Some (viewed v)) → MatchOption r (slice_get ps i ≡ None) (λ v. IsPacketAt ps i v)
packets_got ms ps i None e fit f = packets_nowhere ms ps i e f
packets_got ms ps i (Some v) e fit f = packets_here ms ps i v e fit f

-- ---- a packet that is used up

used_here : (ps : List Packet) (i : ℕ) (p : Packet) → slice_get ps i ≡ Some p → used_up i ps ≡ set ps i (record p { used = true })
unfolding used_up
used_here ps i p e = ap (λ o. option_map_or (λ q. set ps i (record q { used = true })) o ps) e

used_nowhere : (ps : List Packet) (i : ℕ) → slice_get ps i ≡ None → used_up i ps ≡ ps
unfolding used_up
used_nowhere ps i e = ap (λ o. option_map_or (λ q. set ps i (record q { used = true })) o ps) e

pub marked_used : (ps : List Packet) (i : ℕ) → marked i (map in_memory ps) ≡ map in_memory (used_up i ps)
unfolding in_memory
marked_used ps i = at (slice_get ps i) refl
  where
    at : (o : Option Packet) → slice_get ps i ≡ o → marked i (map in_memory ps) ≡ map in_memory (used_up i ps)
    at (Some p) e =
        marked_here (map in_memory ps) i (in_memory p) (slice_get-map in_memory ps i ∙ ap (option_map in_memory) e)
        ∙ sym (map_set in_memory ps i (record p { used = true })) ∙ ap (map in_memory) (sym (used_here ps i p e))
    at None e = marked_nowhere (map in_memory ps) i (slice_get-map in_memory ps i ∙ ap (option_map in_memory) e) ∙ ap (map in_memory) (sym (used_nowhere ps i e))

pub fit_used : (ps : List Packet) (i : ℕ) → Fit ps → Fit (used_up i ps)
fit_used ps i fit = at (slice_get ps i) refl
  where
    at : (o : Option Packet) → slice_get ps i ≡ o → Fit (used_up i ps)
    at (Some p) e = subst Fit (sym (used_here ps i p e)) (all_set (λ q. FitsMessage q.message) ps i (record p { used = true }) fit (all_get (λ q. FitsMessage q.message) ps i p fit e))
    at None e = subst Fit (sym (used_nowhere ps i e)) fit
