-- The laws, by what a node wants at the times that its turns leave.
use Rattle.std.proofs.Common.{◌≡◌, ◌↔◌, ℕ, zero, suc, Bool, true, false, ◌+◌, ◌<◌, ◌≤◌, inl, inr, List, [], ◌∷◌, ◌++◌, take, drop, refl, sym, ap, subst, arith}
use Rattle.std.specs.Prelude.{◌≢◌, ◌==◌, if◌then◌else◌, Some, IsTrue, nat_lt, slice_get}
use Rattle.std.proofs.lemmas.Bool.{eqb-true, or_cases, or_right}
use Rattle.std.proofs.lemmas.Bool.Decides.{nat_tests}
use Rattle.std.proofs.lemmas.Option.{none-some, same_Some}
use Rattle.crsm_spec.specs.Lists.{Among}
use Rattle.crsm_spec.specs.Log.{Log, spec}
use Rattle.crsm_spec.specs.Node.{Turn}
use Rattle.crsm_spec.specs.Replica.{Replica}
use Rattle.crsm_fact_log.proofs.Lists.{kept_from, kept_in}
use Rattle.crsm_replica_io.specs.declared.input.WantedInput.TheVariants as what
use Rattle.crsm_replica_detector.specs.Watching.{Times, Watch, unwatched}
use Rattle.crsm_spec_process.specs.Turns.{replica_after}
use Rattle.crsm_replica_detector.specs.Wished.{AreWished, Fulfils, watch_after, wish_of}
use Rattle.crsm_replica_detector.specs.Wishing.{is_wanted, suspects, tick_is_due, wanted, wish, wish_at}
use Rattle.crsm_law_wishes.specs.Laws.{AreTurnsOf, HeardAreNotSuspected, OthersAreSuspected, TicksAreTimely, patience}
use Rattle.crsm_law_wishes.specs.Readings.{IsNow}
use Rattle.crsm_law_wishes.proofs.Times.{AreKnown, known}

-- ---- the turn at a place

pub split_at : {A : Type 0} (xs : List A) (i : ℕ) (x : A) → slice_get xs i ≡ Some x → xs ≡ take i xs ++ x ∷ drop (suc i) xs
split_at [] i x at = absurd (none-some x at)
split_at (y ∷ xs) zero x at = ap (λ z. z ∷ xs) (same_Some y x at)
split_at (y ∷ xs) (suc i) x at = ap (λ rest. y ∷ rest) (split_at xs i x at)

-- turns that are wished are so one behind the other
abbrev pub WishedInTurn : Type 0
WishedInTurn =
    (w : Watch) (r : Replica) (ts us : List (Turn × ℕ)) →
    AreWished w r (ts ++ us) ↔ (AreWished w r ts × AreWished (watch_after w ts) (replica_after r ts) us)

module _ (append : WishedInTurn) (r : Replica) (turns : List (Turn × ℕ)) (are : AreTurnsOf r turns) (place reading now : ℕ) (y : Turn) (there : slice_get turns place ≡ Some (y, reading)) (is_now : IsNow turns place now) where
  abbrev pub before : List (Turn × ℕ)
  before = take place turns

  abbrev pub replica : Replica
  replica = replica_after r before

  abbrev pub here : AreKnown before
  here = known before now is_now

  fulfilled : Fulfils (wish_of (watch_after unwatched before) replica) y
  unfolding AreWished
  fulfilled =
      let cut = split_at turns place (y, reading) there in
      ((append unwatched r before ((y, reading) ∷ drop (suc place) turns)).0 (subst (AreWished unwatched r) cut are)).1.0

  pub fulfilled_at : Fulfils (wish_at replica.me replica.n here.times replica.log) y
  unfolding wish
  fulfilled_at = subst (λ w. Fulfils (wish_of w replica) y) here.is fulfilled

-- ---- suspicions

suspected_of : (due sus : Bool) (ks ms : List ℕ) → Fulfils (if due then what.Tick else if sus then what.Suspect ks else what.Receive) (Turn.Suspect ms) → ms ≡ ks
suspected_of true sus ks ms h = absurd h
suspected_of false true ks ms h = h
suspected_of false false ks ms h = absurd h

wanted_of : (me n : ℕ) (t : Times) (log : Log) (ms : List ℕ) → Fulfils (wish_at me n t log) (Turn.Suspect ms) → ms ≡ wanted me n t log
unfolding wish_at
wanted_of me n t log ms h = suspected_of (tick_is_due t) (suspects me n t log (wanted me n t log)) (wanted me n t log) ms h

is_heard : (me : ℕ) (t : Times) (k : ℕ) → t.newest < t.heard k + patience → IsTrue (is_wanted me t k)
unfolding is_wanted
is_heard me t k lt = or_right (k == me) (nat_lt t.newest (t.heard k + 5000000)) (grind (arith, nat_tests))

was_heard : (me : ℕ) (t : Times) (k : ℕ) → IsTrue (is_wanted me t k) → k ≢ me → t.newest < t.heard k + patience
unfolding is_wanted
was_heard me t k h other = elim (or_cases (k == me) (nat_lt t.newest (t.heard k + 5000000)) h) [
  | inl own ↦ absurd (other (eqb-true k me own))
  | inr lt ↦ below lt
]
  where
    below : IsTrue (nat_lt t.newest (t.heard k + 5000000)) → t.newest < t.heard k + patience
    below lt = grind (arith, nat_tests)

kept : (me n : ℕ) (t : Times) (log : Log) (k : ℕ) → Among (spec n log) k → t.newest < t.heard k + patience → Among (wanted me n t log) k
unfolding wanted
kept me n t log k m lt = kept_in (is_wanted me t) (spec n log) k m (is_heard me t k lt)

kept_was_heard : (me n : ℕ) (t : Times) (log : Log) (k : ℕ) → k ≢ me → Among (wanted me n t log) k → t.newest < t.heard k + patience
unfolding wanted
kept_was_heard me n t log k other m = was_heard me t k (kept_from (is_wanted me t) (spec n log) k m).1 other

pub heard_not_suspected : WishedInTurn → HeardAreNotSuspected
heard_not_suspected append r turns are place ms s k heard now m word is_now lt =
    let f = fulfilled_at append r turns are place s.reading now (Turn.Suspect ms) s.there is_now in
    let x = here append r turns are place s.reading now (Turn.Suspect ms) s.there is_now in
    let same = x.newest now is_now in
    let last = x.heard k heard word in
    let q = replica_after r (take place turns) in
    subst (λ ks. Among ks k) (sym (wanted_of q.me q.n x.times q.log ms f))
    (kept q.me q.n x.times q.log k m (omega (arith, lt, same, last)))

pub others_suspected : WishedInTurn → OthersAreSuspected
others_suspected append r turns are place ms s k heard now other word is_now le m =
    let f = fulfilled_at append r turns are place s.reading now (Turn.Suspect ms) s.there is_now in
    let x = here append r turns are place s.reading now (Turn.Suspect ms) s.there is_now in
    let same = x.newest now is_now in
    let last = x.heard k heard word in
    let q = replica_after r (take place turns) in
    let lt = kept_was_heard q.me q.n x.times q.log k other (subst (λ ks. Among ks k) (wanted_of q.me q.n x.times q.log ms f) m) in
    omega (arith, lt, le, same, last)

-- ---- ticks

ticks : (y : Turn) → Fulfils what.Tick y → y ≡ Turn.Tick
ticks (Turn.In address bytes) h = absurd h
ticks Turn.Tick h = refl
ticks (Turn.Suspect ms) h = absurd h

due_ticks : (me n : ℕ) (t : Times) (log : Log) (y : Turn) → tick_is_due t ≡ true → Fulfils (wish_at me n t log) y → y ≡ Turn.Tick
unfolding wish_at
due_ticks me n t log y due h =
    ticks y (subst (λ b. Fulfils (if b then what.Tick else if suspects me n t log (wanted me n t log) then what.Suspect (wanted me n t log) else what.Receive) y) due h)

is_due : (t : Times) → t.ticked + 10000 ≤ t.newest → tick_is_due t ≡ true
unfolding tick_is_due
is_due t le = grind (arith, nat_tests)

pub ticks_timely : WishedInTurn → TicksAreTimely
ticks_timely append r turns are place reading ticked now y there last_tick is_now le =
    let f = fulfilled_at append r turns are place reading now y there is_now in
    let x = here append r turns are place reading now y there is_now in
    let same = x.newest now is_now in
    let last = x.ticked ticked last_tick in
    let q = replica_after r (take place turns) in
    due_ticks q.me q.n x.times q.log y (is_due x.times (omega (arith, le, same, last))) f
