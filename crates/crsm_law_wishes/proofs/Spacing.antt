-- The time of the last suspicion only rises, by 5 seconds at least.
use Rattle.std.proofs.Common.{◌≡◌, ℕ, zero, suc, Bool, true, false, ◌+◌, ◌<◌, ◌≤◌, List, [], ◌∷◌, ◌++◌, take, drop, refl, sym, ap, ◌∙◌, subst, arith}
use Rattle.std.specs.Prelude.{if◌then◌else◌, Some, IsTrue, nat_le, slice_get}
use Rattle.std.proofs.lemmas.Bool.{and_parts}
use Rattle.std.proofs.lemmas.Bool.Decides.{nat_tests}
use Rattle.std.proofs.lemmas.Option.{none-some, same_Some}
use Rattle.crsm_spec.specs.Log.{Log, spec}
use Rattle.crsm_spec.specs.Node.{Turn, turn}
use Rattle.crsm_spec.specs.Replica.{Replica}
use Rattle.crsm_replica_io.specs.declared.input.WantedInput.TheVariants as what
use Rattle.crsm_replica_detector.specs.Watching.{Times, Watch, unwatched, watched}
use Rattle.crsm_spec_process.specs.Turns.{replica_after}
use Rattle.crsm_replica_detector.specs.Wished.{AreWished, Fulfils, watch_after, wish_of}
use Rattle.crsm_replica_detector.specs.Wishing.{may_suspect, suspects, tick_is_due, wanted, wish, wish_at}
use Rattle.crsm_law_wishes.specs.Laws.{SuspicionsAreSpaced, patience}
use Rattle.crsm_law_wishes.proofs.Laws.{WishedInTurn, fulfilled_at, here, split_at}
use Rattle.crsm_law_wishes.proofs.Times.{next, next_is}

-- turns that follow others begin with the times that those leave
abbrev pub WatchedInTurn : Type 0
WatchedInTurn = (w : Watch) (ts us : List (Turn × ℕ)) → watch_after w (ts ++ us) ≡ watch_after (watch_after w ts) us

-- ---- first elements

get_take : {A : Type 0} (xs : List A) (i j : ℕ) (x : A) → i < j → slice_get xs i ≡ Some x → slice_get (take j xs) i ≡ Some x
get_take [] i j x lt at = absurd (none-some x at)
get_take (y ∷ ys) i zero x lt at = absurd (omega (arith, lt))
get_take (y ∷ ys) zero (suc j) x lt at = at
get_take (y ∷ ys) (suc i) (suc j) x lt at = get_take ys i j x (omega (arith, lt)) at

take_take : {A : Type 0} (xs : List A) (i j : ℕ) → i < j → take i (take j xs) ≡ take i xs
take_take xs zero j lt = refl
take_take xs (suc i) zero lt = absurd (omega (arith, lt))
take_take [] (suc i) (suc j) lt = refl
take_take (y ∷ ys) (suc i) (suc j) lt = ap (λ l. y ∷ l) (take_take ys i j (omega (arith, lt)))

-- ---- one suspicion

suspects_of : (due sus : Bool) (ks ms : List ℕ) → Fulfils (if due then what.Tick else if sus then what.Suspect ks else what.Receive) (Turn.Suspect ms) → sus ≡ true
suspects_of true sus ks ms h = absurd h
suspects_of false true ks ms h = refl
suspects_of false false ks ms h = absurd h

spaced_at : (me : ℕ) (ks : List ℕ) (t : Times) → IsTrue (may_suspect me ks t) → t.suspected + patience ≤ t.newest
unfolding may_suspect
spaced_at me ks t h = go (and_parts _ _ h).1
  where
    go : IsTrue (nat_le (t.suspected + 5000000) t.newest) → t.suspected + patience ≤ t.newest
    go le = grind (arith, nat_tests)

-- where others are suspected, the last suspicion was 5 seconds before
spaced_wish : (me n : ℕ) (t : Times) (log : Log) (ms : List ℕ) → Fulfils (wish_at me n t log) (Turn.Suspect ms) → t.suspected + patience ≤ t.newest
unfolding wish_at suspects
spaced_wish me n t log ms h =
    spaced_at me (spec n log) t (and_parts _ _ (suspects_of (tick_is_due t) (suspects me n t log (wanted me n t log)) (wanted me n t log) ms h)).0

-- ---- many turns

later_next : (r : Replica) (t : Times) (y : Turn) (reading : ℕ) → Fulfils (wish_of (Some t) r) y → t.suspected ≤ (next t y reading).suspected
unfolding wish
later_next r t (Turn.In address bytes) reading h = omega arith
later_next r t Turn.Tick reading h = omega arith
later_next r t (Turn.Suspect ms) reading h = let le = spaced_wish r.me r.n t r.log ms h in omega (arith, le)

later_all : (us : List (Turn × ℕ)) (r : Replica) (t : Times) → AreWished (Some t) r us → (new : Times) → watch_after (Some t) us ≡ Some new → t.suspected ≤ new.suspected
unfolding AreWished watch_after
later_all [] r t h new is = let same_times = ap (λ (z : Times). z.suspected) (same_Some t new is) in omega (arith, same_times)
later_all (x ∷ us) r t h new is =
    let moved = next_is t x.0 x.1 in
    let first = later_next r t x.0 x.1 h.0 in
    let rest = later_all us (turn r x).replica (next t x.0 x.1) (subst (λ w. AreWished w (turn r x).replica us) moved h.1) new (ap (λ w. watch_after w us) (sym moved) ∙ is) in
    omega (arith, first, rest)

pub suspicions_spaced : WishedInTurn → WatchedInTurn → SuspicionsAreSpaced
unfolding AreWished watch_after
suspicions_spaced wished watch r turns are i j ms others lt s s2 before now now_i now_j =
    let y : Turn × ℕ = (Turn.Suspect ms, s.reading) in
    let first = take j turns in
    let mid = drop (suc i) first in
    let at_i = here wished r turns are i s.reading before (Turn.Suspect ms) s.there now_i in
    let at_j = here wished r turns are j s2.reading now (Turn.Suspect others) s2.there now_j in
    let here_i = replica_after r (take i turns) in
    let q = replica_after r first in
    let cut : first ≡ take i turns ++ y ∷ mid = split_at first i y (get_take turns i j y lt s.there) ∙ ap (λ l. l ++ y ∷ mid) (take_take turns i j lt) in
    let are_first = (wished unwatched r first ((Turn.Suspect others, s2.reading) ∷ drop (suc j) turns)).0 (subst (AreWished unwatched r) (split_at turns j (Turn.Suspect others, s2.reading) s2.there) are) in
    let are_mid = ((wished unwatched r (take i turns) (y ∷ mid)).0 (subst (AreWished unwatched r) cut are_first.0)).1.1 in
    let t = next at_i.times (Turn.Suspect ms) s.reading in
    let moved : watched (watch_after unwatched (take i turns)) y ≡ Some t = ap (λ w. watched w y) at_i.is ∙ next_is at_i.times (Turn.Suspect ms) s.reading in
    let leaves : watch_after (Some t) mid ≡ Some at_j.times =
    ap (λ w. watch_after w mid) (sym moved) ∙ sym (watch unwatched (take i turns) (y ∷ mid)) ∙ ap (watch_after unwatched) (sym cut) ∙ at_j.is in
    let rises = later_all mid (turn here_i y).replica t (subst (λ w. AreWished w (turn here_i y).replica mid) moved are_mid) at_j.times leaves in
    let space = spaced_wish q.me q.n at_j.times q.log others (fulfilled_at wished r turns are j s2.reading now (Turn.Suspect others) s2.there now_j) in
    let was = at_i.newest before now_i in
    let is = at_j.newest now now_j in
    omega (arith, rises, space, was, is)
