-- Nobody forges where requests are all that is taken.
use Rattle.std.proofs.Common.{List, [], subst, suc, sym, zero, ℕ, ◌∙◌, ◌∷◌, ◌≡◌}
use Rattle.std.specs.Prelude.{Some, slice_get}
use Rattle.std.specs.List.{AllByRecursion}
use Rattle.std.proofs.lemmas.Option.{none-some, same_Some}
use Rattle.crsm_base.specs.MessageReading.{datagram_of}
use Rattle.crsm_spec.specs.Types.{Command, Datagram}
use Rattle.crsm_spec.specs.Node.{Turn}
use Rattle.crsm_law_cluster.specs.Clusters.{Event}
use Rattle.crsm_law_lives.specs.Premises.{NobodyForges, SpeaksTrue}

-- if the event takes bytes, they are a request
abbrev pub Asks : Event → Type 0
Asks (Event.Takes k (Turn.In address bytes) reading) = (c : Command) × (datagram_of bytes ≡ Some (Datagram.Request c))
Asks (Event.Takes k Turn.Tick reading) = Unit {0}
Asks (Event.Takes k (Turn.Suspect members) reading) = Unit {0}
Asks (Event.Boots k) = Unit {0}
Asks (Event.Keeps k) = Unit {0}
Asks (Event.Sends k) = Unit {0}
Asks (Event.Fails k) = Unit {0}
Asks (Event.Stops k) = Unit {0}

at_place : {A : Type 0} (P : A → Type 0) (xs : List A) (i : ℕ) (x : A) → AllByRecursion P xs → slice_get xs i ≡ Some x → P x
at_place P [] i x all is = absurd (none-some x is)
at_place P (y ∷ ys) zero x all is = subst P (same_Some y x is) all.0
at_place P (y ∷ ys) (suc i) x all is = at_place P ys i x all.1 is

speaks : (n : ℕ) (h : List Event) (i k : ℕ) (bytes : List ℕ) (c : Command) (d : Datagram) → datagram_of bytes ≡ Some (Datagram.Request c) → datagram_of bytes ≡ Some d → SpeaksTrue n h i k d
speaks n h i k bytes c d asks is = subst (SpeaksTrue n h i k) (same_Some (Datagram.Request c) d (sym asks ∙ is)) tt

pub nobody_forges : (n : ℕ) (h : List Event) → AllByRecursion Asks h → NobodyForges n h
nobody_forges n h all i k address reading bytes c d at is =
    let asks = at_place Asks h i (Event.Takes k (Turn.In address bytes) reading) all at.event in
    speaks n h i k bytes asks.0 d asks.1 is
