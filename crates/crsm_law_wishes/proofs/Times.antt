-- What the times of a node's watch are, by its turns.
use Rattle.std.proofs.Common.{◌≡◌, ℕ, Bool, true, false, ◌⊎◌, inl, inr, List, [], ◌∷◌, refl, sym, ap, ◌∙◌, arith}
use Rattle.std.specs.Prelude.{◌==◌, if◌then◌else◌, Option, Some, None}
use Rattle.std.proofs.lemmas.Bool.{eqb-true}
use Rattle.std.proofs.lemmas.Option.{none-some}
use Rattle.std.proofs.lemmas.Bool.Decides.{nat_tests}
use Rattle.crsm_spec.specs.Node.{Turn}
use Rattle.crsm_shell.specs.Taking.{heard_in}
use Rattle.crsm_replica_detector.specs.Watching.{Times, begun, further, unwatched, watched, with_heard}
use Rattle.crsm_replica_detector.specs.Wished.{watch_after}
use Rattle.crsm_law_wishes.specs.Readings.{HearsFrom, IsAny, IsLast, IsTick}
use Rattle.crsm_law_wishes.proofs.Last.{LastOrOld, MovesTo, go_on, is_last, one_alone, stays}

-- ---- one turn

-- the times after a turn
abbrev pub next : Times → Turn → ℕ → Times
next t (Turn.In address bytes) reading = further (heard_in (Turn.In address bytes)) reading t
next t Turn.Tick reading = record (further None reading t) { ticked = reading }
next t (Turn.Suspect ms) reading = further None reading (record t { suspected = t.newest })

pub next_is : (t : Times) (y : Turn) (reading : ℕ) → watched (Some t) (y, reading) ≡ Some (next t y reading)
next_is t (Turn.In address bytes) reading = refl
next_is t Turn.Tick reading = refl
next_is t (Turn.Suspect ms) reading = refl

first_is : (y : Turn) (reading : ℕ) → watched unwatched (y, reading) ≡ Some (begun reading)
first_is (Turn.In address bytes) reading = refl
first_is Turn.Tick reading = refl
first_is (Turn.Suspect ms) reading = refl

newest_moves : (t : Times) (y : Turn) (reading : ℕ) → MovesTo IsAny y reading t.newest (next t y reading).newest
newest_moves t (Turn.In address bytes) reading = inl (tt, refl)
newest_moves t Turn.Tick reading = inl (tt, refl)
newest_moves t (Turn.Suspect ms) reading = inl (tt, refl)

ticked_moves : (t : Times) (y : Turn) (reading : ℕ) → MovesTo IsTick y reading t.ticked (next t y reading).ticked
ticked_moves t (Turn.In address bytes) reading = inr ((λ e. absurd cc), refl)
ticked_moves t Turn.Tick reading = inl (refl, refl)
ticked_moves t (Turn.Suspect ms) reading = inr ((λ e. absurd cc), refl)

-- whom a turn hears
abbrev ByHearing : Option ℕ → ℕ → (ℕ → ℕ) → ℕ → Type 0
ByHearing from reading heard k =
    ((from ≡ Some k) × (with_heard from reading heard k ≡ reading)) ⊎ ((from ≡ Some k → ⊥) × (with_heard from reading heard k ≡ heard k))

by_number : (j reading : ℕ) (heard : ℕ → ℕ) (k : ℕ) (b : Bool) → (k == j) ≡ b → ByHearing (Some j) reading heard k
by_number j reading heard k true e = inl (ap (λ (i : ℕ). Some i) (sym (eqb-true k j e)), ap (λ b. if b then reading else heard k) e)
by_number j reading heard k false e = inr ((λ same. absurd (differ same)), ap (λ b. if b then reading else heard k) e)
  where
    differ : Some j ≡ Some k → ⊥
    differ same = let one : j ≡ k = cc in grind (arith, nat_tests)

by_hearing : (from : Option ℕ) (reading : ℕ) (heard : ℕ → ℕ) (k : ℕ) → ByHearing from reading heard k
by_hearing None reading heard k = inr ((λ e. absurd (none-some k e)), refl)
by_hearing (Some j) reading heard k = by_number j reading heard k (k == j) refl

heard_moves : (t : Times) (y : Turn) (reading k : ℕ) → MovesTo (HearsFrom k) y reading (t.heard k) ((next t y reading).heard k)
unfolding heard_in
heard_moves t (Turn.In address bytes) reading k = by_hearing (heard_in (Turn.In address bytes)) reading t.heard k
heard_moves t Turn.Tick reading k = by_hearing None reading t.heard k
heard_moves t (Turn.Suspect ms) reading k = by_hearing None reading t.heard k

-- ---- many turns

-- each time of the second is the reading of the last turn of its kind, or the time of the first
record Moves (us : List (Turn × ℕ)) (t new : Times) : Type 0 where
  newest : LastOrOld IsAny us t.newest new.newest
  heard : (k : ℕ) → LastOrOld (HearsFrom k) us (t.heard k) (new.heard k)
  ticked : LastOrOld IsTick us t.ticked new.ticked

record Goes (us : List (Turn × ℕ)) (t : Times) : Type 0 where
  new : Times
  is : watch_after (Some t) us ≡ Some new
  moves : Moves us t new

goes : (us : List (Turn × ℕ)) (t : Times) → Goes us t
unfolding watch_after
goes [] t = record { new = t; is = refl; moves = record { newest = stays IsAny t.newest; heard = λ k. stays (HearsFrom k) (t.heard k); ticked = stays IsTick t.ticked } }
goes (x ∷ us) t =
    let rest = goes us (next t x.0 x.1) in
    record {
      new = rest.new;
      is = ap (λ w. watch_after w us) (next_is t x.0 x.1) ∙ rest.is;
      moves = record {
        newest = go_on IsAny x us _ _ _ (newest_moves t x.0 x.1) rest.moves.newest;
        heard = λ k. go_on (HearsFrom k) x us _ _ _ (heard_moves t x.0 x.1 k) (rest.moves.heard k);
        ticked = go_on IsTick x us _ _ _ (ticked_moves t x.0 x.1) rest.moves.ticked;
      };
    }

-- The node has times, and these are the readings of its last turns.
pub record AreKnown (turns : List (Turn × ℕ)) : Type 0 where
  pub times : Times
  pub is : watch_after unwatched turns ≡ Some times
  pub newest : (reading : ℕ) → IsLast IsAny turns reading → reading ≡ times.newest
  pub heard : (k reading : ℕ) → IsLast (HearsFrom k) turns reading → reading ≡ times.heard k
  pub ticked : (reading : ℕ) → IsLast IsTick turns reading → reading ≡ times.ticked

pub known : (turns : List (Turn × ℕ)) (now : ℕ) → IsLast IsAny turns now → AreKnown turns
unfolding watch_after
known [] now l = absurd (none-some (l.turn, now) l.there)
known (x ∷ us) now l =
    let rest = goes us (begun x.1) in
    record {
      times = rest.new;
      is = ap (λ w. watch_after w us) (first_is x.0 x.1) ∙ rest.is;
      newest = λ reading h. one_alone IsAny (x ∷ us) _ _ h (is_last IsAny x us _ rest.moves.newest);
      heard = λ k reading h. one_alone (HearsFrom k) (x ∷ us) _ _ h (is_last (HearsFrom k) x us _ (rest.moves.heard k));
      ticked = λ reading h. one_alone IsTick (x ∷ us) _ _ h (is_last IsTick x us _ rest.moves.ticked);
    }
